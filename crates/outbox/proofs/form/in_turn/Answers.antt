use Rattle.std.proofs.Common.{refl, sym, ◌∙◌, arith}
use Rattle.outbox.specs.Outbox.{held_of}
use Rattle.outbox.specs.Laws.{turn_stops, turn_goes, turn_end}
use Rattle.outbox.proofs.Alike.{alike_by, unlike_by}
use Rattle.outbox.proofs.form.in_turn.Goals as goal

pub loop-e-init : goal.loop-e-init
unfolding held_of
loop-e-init c = (omega arith, refl)

pub returns-then-ne : goal.returns-then-ne
returns-then-ne c =
    turn_stops c.loop-e.due c.loop-e.e-index _ _ c.loop-e-test.true c.notice_of.ensures (unlike_by c.notice_of.result c.loop-e.due c.ne.ensures c.if-ne.true) ∙ c.loop-e.invariant.1

pub loop-e-preserved : goal.loop-e-preserved
loop-e-preserved c =
    (omega arith, turn_goes c.loop-e.due c.loop-e.e-index _ _ c.loop-e-test.true c.notice_of.ensures (alike_by c.notice_of.result c.loop-e.due c.ne.ensures c.if-ne.false) ∙ c.loop-e.invariant.1)

pub returns : goal.returns
returns c = sym (turn_end c.loop-e.due c.loop-e.e-index _ c.loop-e-test.false) ∙ c.loop-e.invariant.1
