use Rattle.std.proofs.Common.{◌-◌, ◌<◌, ◌^◌, negsuc, sym, ◌∙◌, arith}
use Rattle.std.proofs.lemmas.Int.{to_z_pos, to_z-of_z}
use Rattle.std.specs.Int.{w64}
use Rattle.form.specs.Signed.{sub_neg}
use Rattle.form.proofs.Marked.{minus_value, plus_value, end_value, neg_zero, neg_more}
use Rattle.form.proofs.value.signed.Goals as goal

pub returns-in_err-get : goal.returns-in_err-get
returns-in_err-get c = c.from_residual.ensures ∙ sym (end_value c.args.s.now c.args.at c.in_err-get.ensures.lookup.3)

pub returns-in_err-n : goal.returns-in_err-n
returns-in_err-n c =
    let g = c.in_ok-get.ensures.lookup in
    c.from_residual-in_err-n.ensures ∙ sym (minus_value c.args.s.now c.args.at g.3.0 g.1 c.if-branch-eq45.true c.in_err-n.ensures.value)

pub returns-then-n-eq0 : goal.returns-then-n-eq0
returns-then-n-eq0 c =
    let g = c.in_ok-get.ensures.lookup in
    sym (minus_value c.args.s.now c.args.at g.3.0 g.1 c.if-branch-eq45.true c.in_ok-n.ensures.value ∙ neg_zero _ _ c.if-n-eq0.true)

pub returns-then-branch-eq45 : goal.returns-then-branch-eq45
returns-then-branch-eq45 c =
    let g = c.in_ok-get.ensures.lookup in
    let n = c.in_ok-n.n in
    let l : n - 1 < 2 ^ 63 = omega (arith, c.in_ok-n.ensures.small, c.if-n-eq0.false) in
    rw (to_z_pos w64 (n - 1) l, sub_neg (n - 1), to_z-of_z w64 (negsuc (n - 1)) (record { sfits = l }))
    (sym (minus_value c.args.s.now c.args.at g.3.0 g.1 c.if-branch-eq45.true c.in_ok-n.ensures.value ∙ neg_more _ _ c.if-n-eq0.false))

pub returns-in_err-n-2 : goal.returns-in_err-n-2
returns-in_err-n-2 c =
    let g = c.in_ok-get.ensures.lookup in
    c.from_residual-in_err-n-2.ensures ∙ sym (plus_value c.args.s.now c.args.at g.3.0 g.1 c.if-branch-eq45.false c.in_err-n-2.ensures.value)

pub returns : goal.returns
returns c =
    let g = c.in_ok-get.ensures.lookup in
    rw (to_z_pos w64 c.in_ok-n-2.n (omega (arith, c.in_ok-n-2.ensures.small)))
    (sym (plus_value c.args.s.now c.args.at g.3.0 g.1 c.if-branch-eq45.false c.in_ok-n-2.ensures.value))
