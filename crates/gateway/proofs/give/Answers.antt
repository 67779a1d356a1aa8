use Rattle.site.proofs.SheetSteps.{site_within}
use Rattle.gateway.proofs.give.Goals as goal

pub amount_numbers-requires : goal.amount_numbers-requires
amount_numbers-requires c =
    rw (c.amounts_of.ensures, c.step-answer.ensures.answer_is) (site_within c.args.card c.args.soil.now c.args.rows.now c.args.e)
