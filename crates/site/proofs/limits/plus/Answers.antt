use Rattle.std.proofs.Common.{◌≡◌, ◌≤◌, ◌*◌, ◌+ℤ◌, nat_abs, arith}
use Rattle.cell.specs.Bounds.{abs_add}
use Rattle.cell.proofs.Fits.{bits, back}
use Rattle.site.specs.Sheet.{plus_of}
use Rattle.site.specs.SheetLaws.{Takes, takes_in}
use Rattle.site.proofs.limits.plus.Goals as goal

pub returns : goal.returns
unfolding plus_of
returns c =
    let known : Takes c.args.s c.args.a = takes_in c.args.s c.args.a c.requires in
    let s = c.args.s.recharge.0 in
    let a = c.args.a.recharge.0 in
    let first : bits s ≡ s = back s 3000000000000000000 (omega (arith, known.sums.recharge, known.steps)) (omega arith) in
    let second : bits a ≡ a = back a 30000000000 known.amounts.recharge (omega arith) in
    let small : nat_abs (s +ℤ a) ≤ 3000000000000000000 = omega (arith, abs_add s a (30000000000 * c.args.s.steps) 30000000000 known.sums.recharge known.amounts.recharge, known.steps) in
    rw (first, second, back (s +ℤ a) 3000000000000000000 small (omega arith))
