use Rattle.std.proofs.Common.{arith}
use Rattle.cell.proofs.Loops.{shift_none}
use Rattle.cell.proofs.queue.shift.Goals as goal

pub returns-then-n-eq0 : goal.returns-then-n-eq0
returns-then-n-eq0 c =
    shift_none _ (omega arith)
