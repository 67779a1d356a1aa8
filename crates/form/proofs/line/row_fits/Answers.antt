use Rattle.std.proofs.Common.{arith}
use Rattle.std.proofs.lemmas.Grind.{common_steps}
use Rattle.form.proofs.Turns.{fitting}
use Rattle.form.proofs.line.row_fits.Goals as goal

pub loop-c-preserved : goal.loop-c-preserved
loop-c-preserved c = grind (arith, common_steps, fitting)

pub returns : goal.returns
returns c = grind (arith, common_steps, fitting)
