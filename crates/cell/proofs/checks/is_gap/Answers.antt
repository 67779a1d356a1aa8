use Rattle.std.proofs.Common.{rules}
use Rattle.cell.specs.Refusals.{is_gap}
use Rattle.cell.proofs.checks.is_gap.Goals as goal

-- `cell::checks::is_gap` meets its contract. Assumes nothing.
pub returns : goal.returns
unfolding is_gap
returns c =
    search rules
