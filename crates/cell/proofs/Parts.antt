-- The parts of an accepted step, put together: what each call in `turn` asks, and what all of them give. Assumes nothing.
use Rattle.std.proofs.Common.{◌≡◌, ◌∙◌, List, [], ◌∷◌, ◌++◌, ℕ, ◌+◌, ◌-◌, ◌^◌, ◌≤◌, ◌<◌, arith, length, take, drop, set}
use borrow.Rule.Slice.PartMut.{put_mid}
use Rattle.cell.specs.declared.Card.{Card}
use Rattle.cell.specs.declared.Depth.{Depth}
use Rattle.cell.specs.declared.Reading.{Reading}
use Rattle.cell.specs.declared.ranges.Soil.{Soil}
use Rattle.cell.specs.declared.queue.Pulled.{Pulled}
use Rattle.cell.specs.declared.step.Wetting.{Wetting}
use Rattle.cell.specs.declared.step.Settled.{Settled}
use Rattle.cell.specs.Water.{water}
use Rattle.cell.specs.Ranges.{queue_of}
use Rattle.cell.specs.Parts.{Checked, wetting_of, Pulls, Settling, settled_of, Putting, Puts, gathered_of}
use Rattle.cell.specs.Queue.{total, shifted, joined}
use Rattle.cell.specs.QueueLaws.{SlotsIn, joined_le, total_in, total_shifted, total_spared, length_shifted, length_spared}
use Rattle.cell.specs.Step.{given, release, delay, lack, draws, etstor, etsat, drain, stored, direct, recharge, queue_after, step_amounts}
use Rattle.cell.proofs.StepLaws.{delay_most, lack_pet, drain_most, sunk_most, stored_most, etstor_lack, release_most}

module _ {card : Card} {soil : Soil} {r : Reading} {d : Depth} (h : Checked card soil r d) (q : List ℕ) (long : length q ≡ card.delays) (inside : SlotsIn card.delays q) where
  module _ {w : Wetting} (ew : w ≡ wetting_of card soil r d) where
    lack_is : w.lack.0 ≡ lack card soil r d
    unfolding wetting_of
    lack_is = rw ew

    pub lack_small : w.lack.0 ≤ 1000000
    unfolding wetting_of
    lack_small = rw ew (omega (arith, lack_pet card soil r d h, h.pet))

    module _ {p : Pulled} {q1 : List ℕ} (pulls : Pulls w.lack.0 q p q1) where
      pub settling : Settling r w p.release.0 p.drawn.0
      unfolding wetting_of release etstor draws
      settling =
          record {
            drain = rw ew (drain_most card soil r d h);
            sunk = rw ew (sunk_most card soil r d h);
            asked = rw (pulls.drawn_is, ew) (omega (arith, etstor_lack card soil r d h q, lack_pet card soil r d h));
            released = rw pulls.release_is (release_most card soil r d h q inside);
          }

      module _ {s : Settled} (es : s ≡ settled_of soil r d w p.release.0 p.drawn.0) where
        stored_is : s.stored.0 ≡ stored card soil r d
        unfolding settled_of wetting_of stored
        stored_is = rw (es, ew)

        delay_is : w.delay ≡ delay card soil r d
        unfolding wetting_of
        delay_is = rw ew

        pub putting : Putting w.delay s.stored.0 q1
        putting =
            let l : length q1 ≡ length q = rw pulls.queue_is (length_spared w.lack.0 (shifted q) ∙ length_shifted q) in
            let t : total q1 ≤ total q = rw pulls.queue_is (omega (arith, total_spared w.lack.0 (shifted q), total_shifted q)) in
            record {
              reach = omega (arith, delay_is, delay_most card soil r d h);
              few = omega (arith, stored_is, stored_most card soil r d h, total_in card.delays q h.delays inside, h.delays);
            }

        module _ {left : ℕ} {q2 : List ℕ} (puts : Puts w.delay s.stored.0 q1 left q2) where
          pub queue_is : q2 ≡ queue_after card soil r d q
          unfolding queue_after
          queue_is = rw (puts.queue_is, pulls.queue_is, stored_is, delay_is, lack_is)

          pub amounts_are : gathered_of r w s p (water left) ≡ step_amounts card soil r d q
          unfolding gathered_of step_amounts settled_of wetting_of given release etstor draws etsat drain stored direct recharge
          amounts_are = rw (puts.left_is, queue_is, es, pulls.drawn_is, pulls.release_is, ew)

-- what a deposit leaves can be summed
pub joined_few : (k f : ℕ) (q q' : List ℕ) → Putting k f q → q' ≡ joined k f q → total q' < 2 ^ 32
joined_few k f q q' w e = rw e (omega (arith, w.few, joined_le k f q w.reach))

-- ---- the queue as a part of its row
pub part_is : (m : ℕ) (row : List ℕ) → take (2 + m - 2) (drop 2 row) ≡ queue_of m row
unfolding queue_of
part_is m row = let e : 2 + m - 2 ≡ m = omega arith in rw e

-- the row once the part is back and the two numbers before it are stored
pub row_put : (m : ℕ) (row q : List ℕ) (life next : ℕ) → 2 ≤ length row → set (set (put_mid 2 (2 + m - 2) row q) 0 life) 1 next ≡ life ∷ next ∷ (q ++ drop m (drop 2 row))
row_put m [] q life next l = absurd (omega arith)
row_put m (x ∷ []) q life next l = absurd (omega arith)
row_put m (x ∷ y ∷ row) q life next l = let e : 2 + m - 2 ≡ m = omega arith in rw e
