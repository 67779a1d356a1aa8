use Rattle.std.proofs.Common.{◌≡◌, ◌≤◌, ◌+◌, ◌*◌, length, drop}
use Rattle.form.specs.Form.{form_text, marks}
use Rattle.form.proofs.line.row_len.Given as goal

abbrev pub invariant-loop-c : goal.invariant-loop-c
invariant-loop-c l = record {
  sum : l.n + length (form_text (drop l.c-index l.f) (drop l.j l.vals)) ≡ length (form_text l.f (drop l.first l.vals));
  low : l.n ≤ 21 * l.c-index;
  room : l.first + marks l.f ≤ length l.vals;
  passed : l.j + marks (drop l.c-index l.f) ≡ l.first + marks l.f;
}
