use Rattle.std.proofs.Common.{◌≡◌, ◌≤◌, ◌+◌, length, drop}
use Rattle.form.specs.Form.{fits, marks}
use Rattle.form.proofs.line.row_fits.Given as goal

abbrev pub invariant-loop-c : goal.invariant-loop-c
invariant-loop-c l = record {
  fit : fits l.f (drop l.first l.vals) ≡ fits (drop l.c-index l.f) (drop l.j l.vals);
  room : l.first + marks l.f ≤ length l.vals;
  passed : l.j + marks (drop l.c-index l.f) ≡ l.first + marks l.f;
}
