use Rattle.std.proofs.Common.{◌≡◌, ◌≤◌, ◌+◌, length, drop}
use Rattle.std.proofs.lemmas.List.Edits.{sets}
use Rattle.form.specs.Form.{form_at, taken_of, marks}
use Rattle.form.proofs.line.read_row.Given as goal

abbrev pub invariant-loop-c : goal.invariant-loop-c
invariant-loop-c l = record {
  found : taken_of (form_at l.f l.s l.from) ≡ taken_of (form_at (drop l.c-index l.f) l.s l.at);
  put : sets l.initial.vals l.initial.j (form_at l.f l.s l.from).vals ≡ sets l.vals l.j (form_at (drop l.c-index l.f) l.s l.at).vals;
  room : l.initial.j + marks l.f ≤ length l.vals;
  passed : l.j + marks (drop l.c-index l.f) ≡ l.initial.j + marks l.f;
  same : length l.vals ≡ length l.initial.vals;
}
