use Rattle.std.proofs.Common.{◌∙◌, sym, arith}
use Rattle.form.specs.FormLaws.{byte_in, byte_end}
use Rattle.text.proofs.CardLaws.{tail_bad, tail_other, tail_good}
use Rattle.text.proofs.card.card_tail.Goals as goal

pub returns-in_err-share : goal.returns-in_err-share
returns-in_err-share c =
    rw c.from_residual.ensures (tail_bad _ _ c.in_err-share.ensures)

pub returns-in_err-get : goal.returns-in_err-get
returns-in_err-get c =
    rw c.from_residual-in_err-get.ensures (tail_other _ _ _ _ c.in_ok-share.ensures (λ z. omega (arith, z, byte_end _ _ c.in_err-get.ensures.lookup.3)))

pub returns-then-branch-ne10 : goal.returns-then-branch-ne10
returns-then-branch-ne10 c =
    let l = c.in_ok-get.ensures.lookup in
    tail_other _ _ _ _ c.in_ok-share.ensures (λ z. c.if-branch-ne10.true (sym (byte_in _ _ _ l.3.0 l.1) ∙ z))

pub returns : goal.returns
returns c =
    let l = c.in_ok-get.ensures.lookup in
    tail_good _ _ _ _ c.in_ok-share.ensures (byte_in _ _ _ l.3.0 l.1 ∙ c.if-branch-ne10.false)
