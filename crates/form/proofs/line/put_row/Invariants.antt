use Rattle.std.proofs.Common.{◌≡◌, ◌≤◌, ◌+◌, length, drop}
use Rattle.std.proofs.lemmas.List.Edits.{sets}
use Rattle.form.specs.Form.{form_text, marks}
use Rattle.form.proofs.line.put_row.Given as goal

abbrev pub invariant-loop-c : goal.invariant-loop-c
invariant-loop-c l = record {
  put : sets l.buf l.at (form_text (drop l.c-index l.f) (drop l.j l.vals)) ≡ sets l.initial.buf l.from (form_text l.f (drop l.first l.vals));
  sum : l.at + length (form_text (drop l.c-index l.f) (drop l.j l.vals)) ≡ l.from + length (form_text l.f (drop l.first l.vals));
  same : length l.buf ≡ length l.initial.buf;
  room : l.first + marks l.f ≤ length l.vals;
  passed : l.j + marks (drop l.c-index l.f) ≡ l.first + marks l.f;
}
