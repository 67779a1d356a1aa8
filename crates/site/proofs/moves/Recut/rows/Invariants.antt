use Rattle.std.proofs.Common.{◌≡◌, ◌++◌, ◌*◌, drop}
use Rattle.site.specs.Moves.{recut_all}
use Rattle.site.proofs.moves.Recut.rows.Given as goal

abbrev pub invariant-loop-i : goal.invariant-loop-i
invariant-loop-i l = l.to ≡ recut_all l.i l.self.width l.self.place l.self.out l.self.more l.from ++ drop (l.width * l.i) l.initial.to
