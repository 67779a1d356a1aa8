use Rattle.std.proofs.Common.{arith}
use Rattle.std.proofs.lemmas.Grind.{common_steps}
use Rattle.form.proofs.Turns.{writing}
use Rattle.form.proofs.line.put_row.Goals as goal

pub loop-c-preserved : goal.loop-c-preserved
loop-c-preserved c = record {
  put = grind (arith, common_steps, writing);
  sum = grind (arith, common_steps, writing);
  same = grind (arith, common_steps, writing);
  room = grind (arith, common_steps, writing);
  passed = grind (arith, common_steps, writing);
}
