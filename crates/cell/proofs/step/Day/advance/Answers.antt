use Rattle.std.proofs.Common.{length-set, List, ◌∷◌, ◌++◌, ℕ, ◌+◌, drop, ap, ◌∙◌, arith}
use Rattle.cell.specs.RangeLaws.{row_in}
use Rattle.cell.specs.Step.{queue_by, row_moved}
use Rattle.cell.proofs.StepLaws.{queue_in, queue_length}
use Rattle.cell.proofs.Parts.{part_is, row_put}
use Rattle.cell.proofs.step.Day.advance.Goals as goal

pub slice_bounds-turn-end : goal.slice_bounds-turn-end
slice_bounds-turn-end c =
    let l = (row_in c.args.self.now.card c.args.row.now c.requires.row_fits).form.least in
    omega (arith, c.args.self.now.checked.delays)

pub turn-amounts-requires : goal.turn-amounts-requires
turn-amounts-requires c =
    let d = c.args.self.now in
    let e = part_is d.card.delays c.args.row.now in
    record {
      slots_used = rw e (queue_length d.card d.soil d.reading d.depth d.checked c.args.row.now c.requires.row_fits);
      slots_in = rw e (queue_in d.card d.soil d.reading d.depth d.checked c.args.row.now c.requires.row_fits);
      wetting = c.requires.wetting;
    }

pub bounds-row-0 : goal.bounds-row-0
bounds-row-0 c =
    omega (arith, (row_in c.args.self.now.card c.args.row.now c.requires.row_fits).form.least)

pub bounds-row-1 : goal.bounds-row-1
bounds-row-1 c =
    simp length-set (omega (arith, (row_in c.args.self.now.card c.args.row.now c.requires.row_fits).form.least))

pub returns-clause-amounts : goal.returns-clause-amounts
returns-clause-amounts c =
    let e = part_is c.args.self.now.card.delays c.args.row.now in
    rw e at c.turn-amounts.ensures.amounts

pub returns-clause-row : goal.returns-clause-row
unfolding row_moved queue_by
returns-clause-row c =
    let d = c.args.self.now in
    let row = c.args.row.now in
    let e = part_is d.card.delays row in
    row_put d.card.delays row c.turn-amounts.new.slots d.reading.life (d.reading.count + 1) (omega (arith, (row_in d.card row c.requires.row_fits).form.least))
    ∙ ap (λ (q : List ℕ). d.reading.life ∷ (d.reading.count + 1) ∷ (q ++ drop d.card.delays (drop 2 row))) (rw e at c.turn-amounts.ensures.queue)
