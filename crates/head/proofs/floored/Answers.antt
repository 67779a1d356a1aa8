use Rattle.std.proofs.Common.{◌^◌, ap, ◌∙◌, pos, negsuc, le_refl}
use Rattle.std.proofs.Math.Nat.{sub-le}
use Rattle.head.proofs.Floor.{down_is, up_is, part_lt, floor_zero, floor_down, floor_up}
use Rattle.head.proofs.floored.Goals as goal

pub returns-then-not-negative : goal.returns-then-not-negative
returns-then-not-negative c =
    let a = c.args in
    up_is c.shifted.result (part_lt _ _ a.n a.k c.shifted.ensures (le_refl a.n) c.requires)
    ∙ ap pos c.shifted.ensures
    ∙ floor_up a.negative a.n (2 ^ a.k) c.if-not-negative.true

pub returns-then-n-eq0 : goal.returns-then-n-eq0
returns-then-n-eq0 c =
    let a = c.args in
    floor_zero a.negative a.n (2 ^ a.k) c.if-not-negative.false c.if-n-eq0.true

pub returns : goal.returns
returns c =
    let a = c.args in
    down_is c.shifted-2.result (part_lt _ _ a.n a.k c.shifted-2.ensures (sub-le a.n 1) c.requires)
    ∙ ap negsuc c.shifted-2.ensures
    ∙ floor_down a.negative a.n (2 ^ a.k) c.if-not-negative.false c.if-n-eq0.false
