use Rattle.cell.specs.Sums.{no_sums}
use Rattle.cell.proofs.is_empty.Goals as goal

pub returns : goal.returns
unfolding no_sums
returns c =
    rw (c.of-runoff.ensures, c.of-drain.ensures)
