use Rattle.std.proofs.Common.{◌≡◌, ◌≤◌, ◌+◌, ◌-◌, ◌*◌, length, drop}
use Rattle.std.proofs.lemmas.List.Edits.{sets}
use Rattle.form.specs.Form.{marks}
use Rattle.form.specs.Many.{rows_text}
use Rattle.form.proofs.lines.put_many.Given as goal

abbrev pub invariant-loop : goal.invariant-loop
invariant-loop l = record {
  put : sets l.buf l.at (rows_text (l.n - l.counter) l.f (drop l.j l.vals)) ≡ sets l.initial.buf l.from (rows_text l.n l.f (drop l.first l.vals));
  sum : l.at + length (rows_text (l.n - l.counter) l.f (drop l.j l.vals)) ≡ l.from + length (rows_text l.n l.f (drop l.first l.vals));
  room : l.j + (l.n - l.counter) * marks l.f ≤ length l.vals;
  same : length l.buf ≡ length l.initial.buf;
}
