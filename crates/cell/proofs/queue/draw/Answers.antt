use Rattle.std.proofs.Common.{refl, ◌∙◌, inl, inr, arith}
use Rattle.std.proofs.lemmas.List.{set-get_or}
use Rattle.cell.proofs.Loops.{spared_turn, taken_turn, draw_end}
use Rattle.cell.proofs.queue.draw.Goals as goal
use Rattle.cell.proofs.queue.draw.Goals.{else-loop-slot-test, then-loop-slot-test+then-want-eq0}

pub loop-slot-init : goal.loop-slot-init
loop-slot-init c =
    (omega arith, refl, omega arith)

pub loop-slot-preserved : goal.loop-slot-preserved
loop-slot-preserved c =
    let i = c.loop-slot.slot-index in
    let v = c.saturating_sub.result in
    let w = c.saturating_sub-want.result in (
      omega arith,
      spared_turn c.loop-slot.want i v w c.loop-slot.slots _ (omega arith) c.saturating_sub.ensures c.saturating_sub-want.ensures c.loop-slot.invariant.1,
      taken_turn _ c.loop-slot.want i v w _ c.loop-slot.slots (omega arith) c.loop-slot.invariant.0 c.saturating_sub-want.ensures c.loop-slot.invariant.2,
    )

pub returns : goal.returns
returns c =
    let l = c.loop-slot in
    elim c.loop-slot-test.branch [
      | else-loop-slot-test w ↦ let d = draw_end _ _ _ _ _ _ (inl (omega arith)) l.invariant.1 l.invariant.2 in (c.from.ensures ∙ d.0, w.slots-is ∙ d.1)
      | then-loop-slot-test+then-want-eq0 w ↦ let d = draw_end _ _ _ _ _ _ (inr w.if-want-eq0.true) l.invariant.1 l.invariant.2 in (c.from.ensures ∙ d.0, w.slots-is ∙ set-get_or l.slots l.slot-index 0 ∙ d.1)
    ]
