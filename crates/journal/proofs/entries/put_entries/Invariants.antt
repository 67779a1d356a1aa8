use Rattle.std.proofs.Common.{◌≡◌, ◌+◌, length}
use Rattle.journal.proofs.Turns.{Inv}
use Rattle.journal.specs.Book.{entries_text}
use Rattle.site.specs.Sheet.{no_steps}
use Rattle.journal.proofs.entries.put_entries.Given as goal

abbrev pub invariant-loop-rest : goal.invariant-loop-rest
invariant-loop-rest l =
    (length l.rows ≡ length l.initial.rows)
    × Inv l.card l.soil (entries_text (length l.s) l.card l.soil l.initial.rows no_steps l.first l.s) l.initial.out (l.first + length l.s) l.rows l.out l.sheet l.rest l.line l.end

abbrev pub decreases-loop-rest : goal.decreases-loop-rest
decreases-loop-rest l = length l.rest
