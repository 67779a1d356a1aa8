use Rattle.std.proofs.Common.{◌≡◌}
use Rattle.cell.specs.Rules.{reach_of}
use Rattle.cell.proofs.rules.reach.Given as goal

abbrev pub invariant-loop-i : goal.invariant-loop-i
invariant-loop-i l = reach_of l.depths l.i l.n ≡ reach_of l.depths l.m l.n
