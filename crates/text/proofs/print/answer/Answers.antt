use Rattle.text.specs.Printed.{answer_text}
use Rattle.text.proofs.print.answer.Goals as goal

pub returns : goal.returns
unfolding answer_text
returns c =
    rw (c.number_of.ensures, c.amounts_of.ensures) at c.line.ensures
