use Rattle.std.proofs.Common.{◌≡◌, ◌&&◌, drop}
use Rattle.cell.specs.Ranges.{none_of}
use Rattle.cell.proofs.ranges.none.Given as goal

abbrev pub invariant-loop-x : goal.invariant-loop-x
invariant-loop-x l = (l.ok && none_of (drop l.x-index l.v)) ≡ none_of l.v
