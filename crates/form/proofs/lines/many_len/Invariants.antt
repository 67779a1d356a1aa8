use Rattle.std.proofs.Common.{◌≡◌, ◌≤◌, ◌+◌, ◌-◌, ◌*◌, length, drop}
use Rattle.form.specs.Form.{marks}
use Rattle.form.specs.Many.{rows_text}
use Rattle.form.proofs.lines.many_len.Given as goal

abbrev pub invariant-loop : goal.invariant-loop
invariant-loop l = record {
  sum : l.len + length (rows_text (l.n - l.counter) l.f (drop l.j l.vals)) ≡ length (rows_text l.n l.f (drop l.first l.vals));
  room : l.j + (l.n - l.counter) * marks l.f ≤ length l.vals;
  low : l.len ≤ l.counter * 1344;
}
