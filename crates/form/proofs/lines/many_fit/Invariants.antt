use Rattle.std.proofs.Common.{◌≡◌, ◌≤◌, ◌+◌, ◌-◌, ◌*◌, length, drop}
use Rattle.form.specs.Form.{marks}
use Rattle.form.specs.Many.{many_fit}
use Rattle.form.proofs.lines.many_fit.Given as goal

abbrev pub invariant-loop : goal.invariant-loop
invariant-loop l = record {
  fit : many_fit l.n l.f (drop l.first l.vals) ≡ many_fit (l.n - l.counter) l.f (drop l.j l.vals);
  room : l.j + (l.n - l.counter) * marks l.f ≤ length l.vals;
}
