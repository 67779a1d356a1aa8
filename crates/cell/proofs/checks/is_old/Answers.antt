use Rattle.std.proofs.Common.{rules}
use Rattle.cell.specs.Refusals.{is_old}
use Rattle.cell.proofs.checks.is_old.Goals as goal

-- `cell::checks::is_old` meets its contract. Assumes nothing.
pub returns : goal.returns
unfolding is_old
returns c =
    search rules
