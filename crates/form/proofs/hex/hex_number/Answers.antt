use Rattle.std.proofs.Common.{◌≡◌, ◌+◌, get_or, ap, ◌∙◌, add-one, arith}
use Rattle.form.specs.Hex.{hex_of}
use Rattle.form.proofs.Digits.{hex_digits, hex_more, range_at}
use Rattle.form.proofs.hex.hex_number.Goals as goal

pub returns-in_err-v : goal.returns-in_err-v
returns-in_err-v c =
    let a = c.in_ok-get.ensures.lookup.0 in
    let b = c.in_ok-c-items.ensures.lookup.0 in
    let e = range_at _ _ _ c.args.at c.loop-c.c-index a.2 b.2 (omega arith) (omega arith) in
    let d = c.in_err-v.ensures in
    grind (arith, hex_digits)

pub loop-c-preserved : goal.loop-c-preserved
loop-c-preserved c =
    let a = c.in_ok-get.ensures.lookup.0 in
    let b = c.in_ok-c-items.ensures.lookup.0 in
    let k = c.loop-c.c-index in
    let d = c.in_ok-v.ensures in
    let q : c.in_ok-v.field-0 ≡ hex_of (get_or c.args.s.now (c.args.at + k) 0) = d.0 ∙ ap hex_of (range_at _ _ _ c.args.at k a.2 b.2 (omega arith) (omega arith)) in
    (rw q (c.loop-c.invariant.0 ∙ hex_more c.args.s.now c.args.at k (omega arith) (omega arith) c.loop-c.v (omega arith)), rw (add-one k) (omega arith))
