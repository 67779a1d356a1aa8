use Rattle.std.proofs.Common.{◌≡◌, ◌≤◌, ◌+◌, ◌-◌, ◌*◌, length}
use Rattle.std.proofs.lemmas.List.Edits.{sets}
use Rattle.form.specs.Form.{marks}
use Rattle.form.specs.Many.{many_at, stood_of}
use Rattle.form.proofs.Rows.{behind}
use Rattle.form.proofs.lines.read_many.Given as goal

abbrev pub invariant-loop-k : goal.invariant-loop-k
invariant-loop-k l = record {
  ran : stood_of (many_at l.n l.f l.s l.from) ≡ behind l.k (many_at (l.n - l.k) l.f l.s l.at);
  put : sets l.initial.vals l.first (many_at l.n l.f l.s l.from).vals ≡ sets l.vals l.j (many_at (l.n - l.k) l.f l.s l.at).vals;
  room : l.j + (l.n - l.k) * marks l.f ≤ length l.vals;
  same : length l.vals ≡ length l.initial.vals;
}
