use Rattle.std.proofs.Common.{refl}
use Rattle.text.proofs.CardLaws.{ends_good, ends_bad}
use Rattle.text.proofs.card.card_depths.Goals as goal

pub returns-in_err-next : goal.returns-in_err-next
returns-in_err-next c =
    rw c.from_residual.ensures (ends_bad _ _ _ _ _ _ c.read_many.ensures.1 _ c.read_many.ensures.0 c.in_err-next.ensures.value refl)

pub returns : goal.returns
returns c =
    ends_good _ _ _ _ _ _ c.read_many.ensures.1 _ _ c.read_many.ensures.0 c.in_ok-next.ensures.value c.card_tail.ensures
