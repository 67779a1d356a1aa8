use Rattle.std.proofs.Common.{◌≡◌, ◌&&◌, drop}
use Rattle.cell.specs.Ranges.{rising_from}
use Rattle.cell.proofs.ranges.rising.Given as goal

abbrev pub invariant-loop-d : goal.invariant-loop-d
invariant-loop-d l = (l.ok && rising_from l.before (drop l.d-index l.used)) ≡ rising_from 0 l.used
