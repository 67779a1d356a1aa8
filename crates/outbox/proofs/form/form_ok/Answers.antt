use Rattle.std.proofs.Common.{refl, sym, ◌∙◌}
use Rattle.outbox.specs.Laws.{form_bad, form_by}
use Rattle.outbox.specs.Outbox.{numbers_ok}
use Rattle.outbox.proofs.form.form_ok.Goals as goal
use Rattle.outbox.proofs.form.form_ok.Goals.{then-numbers, else-numbers}

pub returns-then-in_turn : goal.returns-then-in_turn
unfolding numbers_ok
returns-then-in_turn c =
    elim c.if-numbers.branch [
      | then-numbers w ↦ form_by c.args.b.now w.if-numbers.true (sym c.if-in_turn.true ∙ w.value-is ∙ w.in_turn.ensures) c.rest_spare.ensures
      | else-numbers w ↦ cc
    ]

pub returns-else-in_turn : goal.returns-else-in_turn
unfolding numbers_ok
returns-else-in_turn c =
    elim c.if-numbers.branch [
      | then-numbers w ↦ c.if-in_turn.false ∙ form_by c.args.b.now w.if-numbers.true (sym c.if-in_turn.false ∙ w.value-is ∙ w.in_turn.ensures) refl
      | else-numbers w ↦ c.if-in_turn.false ∙ sym (form_bad c.args.b.now w.if-numbers.false)
    ]
