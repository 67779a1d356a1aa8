use Rattle.std.proofs.Common.{◌≡◌, ◌-◌, length}
use Rattle.form.specs.Many.{many_at, stood_of}
use Rattle.form.proofs.Rows.{behind}
use Rattle.form.proofs.lines.pass_many.Given as goal

abbrev pub invariant-loop-k : goal.invariant-loop-k
invariant-loop-k l = record {
  ran : stood_of (many_at l.n l.f l.s l.from) ≡ behind l.k (many_at (l.n - l.k) l.f l.s l.at);
  wide : length l.v ≡ 8;
}
