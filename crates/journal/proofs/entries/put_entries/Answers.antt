use Rattle.std.proofs.Common.{refl, ◌∙◌, arith, rules}
use Rattle.site.proofs.SheetSteps.{site_within}
use Rattle.text.proofs.ReadLaws.{no_zero}
use Rattle.journal.proofs.Lent.{rest_is}
use Rattle.journal.proofs.Turns.{begin, end_fits, end_put, stop_fits, stop_put, fits, within, shorter, turn}
use Rattle.journal.proofs.entries.put_entries.Goals as goal

pub loop-rest-init : goal.loop-rest-init
loop-rest-init c =
    rw c.new-sheet.ensures (refl, begin c.args.card c.args.soil.now c.args.s.now c.args.rows.now c.args.out.now c.args.first)

pub put_malformed-requires : goal.put_malformed-requires
put_malformed-requires c =
    let i = c.loop-rest.invariant.1 in
    (omega (arith, i.count, c.requires.0), omega (arith, stop_fits _ _ _ _ _ _ _ _ _ _ _ i (search rules) _ c.in_default.ensures (no_zero _), i.same, c.requires.1))

pub returns-in_default : goal.returns-in_default
returns-in_default c =
    let i = c.loop-rest.invariant.1 in
    (c.put_malformed.ensures.0 ∙ stop_fits _ _ _ _ _ _ _ _ _ _ _ i (search rules) _ c.in_default.ensures (no_zero _), c.put_malformed.ensures.1 ∙ stop_put _ _ _ _ _ _ _ _ _ _ _ i (search rules) _ c.in_default.ensures (no_zero _))

pub put_answer-end-requires : goal.put_answer-end-requires
put_answer-end-requires c =
    let i = c.loop-rest.invariant.1 in
    (rw c.step-answer.ensures.answer_is (site_within c.args.card c.args.soil.now c.loop-rest.rows c.in-Ok.field-0.value), omega (arith, fits _ _ _ _ _ _ _ _ _ _ _ i (search rules) _ c.in-Ok.ensures refl _ c.step-answer.ensures.answer_is, i.same, c.requires.1))

pub slice_bounds-rest-count : goal.slice_bounds-rest-count
slice_bounds-rest-count c =
    within _ _ _ _ _ _ _ _ _ _ _ c.loop-rest.invariant.1 (search rules) _ c.in-Ok.ensures refl

pub slice_bounds-rest-start : goal.slice_bounds-rest-start
slice_bounds-rest-start c =
    within _ _ _ _ _ _ _ _ _ _ _ c.loop-rest.invariant.1 (search rules) _ c.in-Ok.ensures refl

pub loop-rest-smaller : goal.loop-rest-smaller
loop-rest-smaller c =
    rw (rest_is c.in-Ok.field-0.taken c.loop-rest.rest.now) (shorter _ _ _ _ _ _ _ _ _ _ _ c.loop-rest.invariant.1 (search rules) _ c.in-Ok.ensures refl)

pub loop-rest-preserved : goal.loop-rest-preserved
loop-rest-preserved c = (
  c.step-answer.auto.rows ∙ c.loop-rest.invariant.0,
  turn _ _ _ _ _ _ _ _ _ _ _ c.loop-rest.invariant.1 (search rules) _ c.in-Ok.ensures refl _ c.step-answer.ensures.answer_is
      _ _ _ _ _ c.step-answer.ensures.rows_are c.put_answer-end.ensures.1 c.put_answer-end.auto.out (rest_is c.in-Ok.field-0.taken c.loop-rest.rest.now) c.add-added.ensures c.put_answer-end.ensures.0,
)

pub put_sheet-requires : goal.put_sheet-requires
put_sheet-requires c =
    let i = c.loop-rest.invariant.1 in
    (i.kept, omega (arith, end_fits _ _ _ _ _ _ _ _ _ _ _ i (search rules), i.same, c.requires.1))

pub returns : goal.returns
returns c =
    let i = c.loop-rest.invariant.1 in
    (c.put_sheet.ensures.0 ∙ end_fits _ _ _ _ _ _ _ _ _ _ _ i (search rules), c.put_sheet.ensures.1 ∙ end_put _ _ _ _ _ _ _ _ _ _ _ i (search rules))
