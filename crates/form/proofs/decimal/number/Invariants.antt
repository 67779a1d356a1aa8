use Rattle.std.proofs.Common.{◌≡◌, ◌≤◌, drop}
use Rattle.form.specs.Dec.{num_at, num_go}
use Rattle.form.proofs.decimal.number.Given as goal

abbrev pub invariant-loop-i : goal.invariant-loop-i
invariant-loop-i l = (num_at l.max l.s l.at ≡ num_go l.max l.v l.i (drop l.i l.s)) × (l.v ≤ l.max)
