use Rattle.std.proofs.Common.{◌≡◌, ◌+◌, drop}
use Rattle.outbox.specs.Outbox.{oldest_of, in_turn, held_of}
use Rattle.outbox.proofs.form.in_turn.Given as goal

abbrev pub invariant-loop-e : goal.invariant-loop-e
invariant-loop-e l =
    (l.due.count ≡ oldest_of l.b + l.e-index)
    × (in_turn l.due.cell l.due.life l.due.count (drop l.e-index l.e-items) ≡ in_turn l.b.cell l.b.life (oldest_of l.b) (held_of l.b))
