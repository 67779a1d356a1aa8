use Rattle.std.proofs.Common.{refl, sym}
use Rattle.text.specs.Cards.{range_counts}
use Rattle.text.proofs.CardLaws.{head_good, head_bad}
use Rattle.text.proofs.card.card_counts.Goals as goal

pub returns-in_err-next : goal.returns-in_err-next
returns-in_err-next c =
    rw c.from_residual.ensures (head_bad _ c.in_err-next.ensures.0)

pub returns-then-not-counts_ok : goal.returns-then-not-counts_ok
unfolding range_counts
returns-then-not-counts_ok c =
    head_good _ _ _ _ _ _ _ c.in_ok-next.ensures.0 c.read_form.ensures.1 refl (rw (sym c.if-not-counts_ok.ensures)) c.word_at-cells.ensures c.word_at-delays.ensures

pub returns : goal.returns
unfolding range_counts
returns c =
    head_good _ _ _ _ _ _ _ c.in_ok-next.ensures.0 c.read_form.ensures.1 refl (rw (sym c.if-not-counts_ok.ensures)) c.word_at-cells.ensures c.word_at-delays.ensures
