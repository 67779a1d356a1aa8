-- 15 and the step's row: what the calls in `accept` ask, and what they give. Assumes nothing.
use Rattle.std.proofs.Common.{Ok, Err, ◌≡◌, sym, ◌∙◌, true, false, ◌&&◌, List, ℕ, ◌+◌, ◌≤◌, arith, leb-true, leb, length}
use Rattle.std.proofs.Math.Bool.{and-eq-true_iff}
use Rattle.cell.specs.declared.Amounts.{Amounts}
use Rattle.cell.specs.declared.Card.{Card}
use Rattle.cell.specs.declared.Depth.{Depth}
use Rattle.cell.specs.declared.Entry.{Entry}
use Rattle.cell.specs.declared.Reading.{Reading}
use Rattle.cell.specs.declared.Refusal.TheVariants.{FullSums}
use Rattle.cell.specs.declared.ranges.Soil.{Soil}
use Rattle.cell.specs.declared.step.Wetting.{Wetting}
use Rattle.cell.specs.Ranges.{queue_of, row_ok}
use Rattle.cell.specs.RangeLaws.{row_in}
use Rattle.cell.specs.Parts.{Checked, wetting_of, AcceptGives}
use Rattle.cell.specs.Step.{runoff, drain, step_amounts, row_moved, runoff_by, drain_by, row_after, sums_take}
use Rattle.cell.proofs.StepLaws.{runoff_given, given_most, drain_most, moved_length, moved_sum}
use Rattle.cell.specs.Sums.{runoff_at, drain_at, sum_limit, sum_of, with_sum, added}
use Rattle.cell.proofs.SumLaws.{with_length, with_apart}

module _ {card : Card} {soil : Soil} {r : Reading} {d : Depth} (h : Checked card soil r d) (row : List ℕ) (ok : row_ok card row ≡ true)
    {w : Wetting} (ew : w ≡ wetting_of card soil r d) where
  ran_is : w.runoff.0 ≡ runoff card soil r d
  unfolding wetting_of
  ran_is = rw ew

  out_is : w.drain.0 ≡ drain card soil r d
  unfolding wetting_of
  out_is = rw ew

  pub first_asked : (sum_of runoff_at row ≤ sum_limit) × (w.runoff.0 ≤ sum_limit)
  first_asked = ((row_in card row ok).form.runoff, omega (arith, ran_is, runoff_given card soil r d h, given_most card soil r d h))

  pub second_asked : (sum_of drain_at row ≤ sum_limit) × (w.drain.0 ≤ sum_limit)
  second_asked = ((row_in card row ok).form.drain, omega (arith, out_is, drain_most card soil r d h))

  -- what 15 says of the sums as they would be
  module _ {ran drained : ℕ} (er : ran ≡ sum_of runoff_at row + w.runoff.0) (ed : drained ≡ sum_of drain_at row + w.drain.0) where
    takes : sums_take card soil (Entry.Reading r) d row ≡ (leb ran sum_limit && leb drained sum_limit)
    unfolding sums_take
    takes = rw (er, ed, ran_is, out_is)

    pub no_room : (leb ran sum_limit && leb drained sum_limit) ≡ false → AcceptGives card soil r d row (Err FullSums) row
    no_room f = let e : sums_take card soil (Entry.Reading r) d row ≡ false = takes ∙ f in record { answer_is = rw e; row_is = rw e }

    module _ (f : (leb ran sum_limit && leb drained sum_limit) ≡ true) {moved : List ℕ} (em : moved ≡ row_moved card soil (Entry.Reading r) d row) where
      fit : (ran ≤ sum_limit) × (drained ≤ sum_limit)
      fit = let p = (and-eq-true_iff (leb ran sum_limit) (leb drained sum_limit)).0 f in (leb-true ran sum_limit p.0, leb-true drained sum_limit p.1)

      long : drain_at + 2 ≤ length moved
      long = rw em (omega (arith, moved_length card soil r d h row ok))

      pub first_put : (runoff_at + 2 ≤ length moved) × (ran ≤ sum_limit)
      first_put = (omega (arith, long), fit.0)

      module _ {next : List ℕ} (en : next ≡ with_sum runoff_at ran moved) where
        pub second_put : (drain_at + 2 ≤ length next) × (drained ≤ sum_limit)
        second_put = (rw en (omega (arith, long, with_length runoff_at ran moved)), fit.1)

        pub stepped : {a : Amounts} {after : List ℕ} → a ≡ step_amounts card soil r d (queue_of card.delays row) → after ≡ with_sum drain_at drained next → AcceptGives card soil r d row (Ok a) after
        unfolding row_after runoff_by drain_by added
        stepped ea ef =
            let e : sums_take card soil (Entry.Reading r) d row ≡ true = takes ∙ f in
            let s' : sum_of runoff_at moved ≡ sum_of runoff_at row = rw em (moved_sum card soil r d h row ok runoff_at (omega arith)) in
            let s : sum_of runoff_at moved + runoff card soil r d ≡ ran = omega (arith, er, ran_is) in
            let m : sum_of drain_at moved ≡ sum_of drain_at row = rw em (moved_sum card soil r d h row ok drain_at (omega arith)) in
            let n : sum_of drain_at next ≡ sum_of drain_at moved = rw en (with_apart runoff_at ran moved drain_at (omega arith)) in
            let t : sum_of drain_at next + drain card soil r d ≡ drained = omega (arith, ed, out_is) in
            record {
              answer_is = rw (e, ea);
              row_is = rw e (ef ∙ sym (rw (← em, s, ← en, t)));
            }
