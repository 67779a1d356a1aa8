-- An accepted step, and the range of the slots, in the parts that the code works them out in: what each part gives, and the ranges that it asks of its caller.
-- Nothing here says what is right: the parts are proved to come to `Step` and `Ranges`.
use Rattle.std.specs.Prelude.{◌≡◌, ℕ, ◌+◌, ◌-◌, ◌^◌, ◌≤◌, ◌<◌, Bool, true, cond, ◌&&◌, List, [], ◌∷◌, leb, length, Ok, Err}
use Rattle.cell.specs.Answers.{Answer}
use Rattle.cell.specs.declared.Amounts.{Amounts}
use Rattle.cell.specs.declared.Card.{Card}
use Rattle.cell.specs.declared.Depth.{Depth}
use Rattle.cell.specs.declared.Entry.{Entry}
use Rattle.cell.specs.declared.Reading.{Reading}
use Rattle.cell.specs.declared.Refusal.TheVariants.{FullSums}
use Rattle.cell.specs.declared.Water.{Water}
use Rattle.cell.specs.declared.ranges.Soil.{Soil}
use Rattle.cell.specs.declared.queue.Pulled.{Pulled}
use Rattle.cell.specs.declared.step.Wetting.{Wetting}
use Rattle.cell.specs.declared.step.Settled.{Settled}
use Rattle.cell.specs.declared.sums.Sum.{Sum}
use Rattle.cell.specs.declared.sums.Sum.TheVariants.{Runoff, Drain}
use Rattle.cell.specs.Sums.{runoff_at, drain_at}
use Rattle.cell.specs.Water.{water, net}
use Rattle.cell.specs.Depth.{distance}
use Rattle.cell.specs.Queue.{slot, total, shifted, taken, spared, joined}
use Rattle.cell.specs.Ranges.{queue_of}
use Rattle.cell.specs.Rules.{etsat_of, stored_of, direct_of, recharge_of}
use Rattle.cell.specs.Step.{delay, runoff, etvad, lack, drain, sunk, step_amounts, row_after, sums_take}

-- ---- the ranges that the checks have shown
pub record Checked (card : Card) (soil : Soil) (r : Reading) (d : Depth) : Type 0 where
  pub delays : card.delays ≤ 30
  pub share : card.share ≤ 20
  pub etdepth : soil.etdepth ≤ 100000000
  pub vadpor : soil.vadpor ≤ 1000
  pub leak : soil.leak ≤ 1000000
  pub cn_low : 1 ≤ soil.cn
  pub cn_high : soil.cn ≤ 100
  pub life : r.life ≤ 65535
  pub count : r.count ≤ 999999
  pub rain : r.rain ≤ 1000000
  pub irrig : r.irrig ≤ 1000000
  pub septic : r.septic ≤ 1000000
  pub pet : r.pet ≤ 1000000
  pub etmin : r.etmin ≤ r.pet
  pub depth : distance d ≤ 20000000000

-- ---- 2 to 6, the lack of 7, the drain of 9 and the F of 10
unfoldable pub wetting_of : Card → Soil → Reading → Depth → Wetting
wetting_of card soil r d =
    record {
      delay = delay card soil r d;
      runoff = water (runoff card soil r d);
      etvad = water (etvad card soil r d);
      lack = water (lack card soil r d);
      drain = water (drain card soil r d);
      sunk = water (sunk card soil r d);
    }

-- ---- 8, the stored of 10 and 11, of what the first part gave, of the release and of what was drawn
pub record Settling (r : Reading) (w : Wetting) (release etstor : ℕ) : Type 0 where
  pub drain : w.drain.0 ≤ 20000000000
  pub sunk : w.sunk.0 ≤ 2000000
  pub asked : w.etvad.0 + etstor ≤ r.pet
  pub released : release ≤ 60000000

unfoldable pub settled_of : Soil → Reading → Depth → Wetting → ℕ → ℕ → Settled
settled_of soil r d w release etstor =
    let etsat : ℕ = etsat_of (r.pet - w.etvad.0 - etstor) soil.etdepth d in
    record {
      etsat = water etsat;
      stored = water (stored_of w.delay w.sunk.0);
      recharge = net (recharge_of release (direct_of w.delay w.sunk.0) r.septic etsat w.drain.0);
    }

-- ---- what leaves the queue q by the shift and a draw, and what joins it: to the queue q'
pub record Pulls (lack : ℕ) (q : List ℕ) (p : Pulled) (q' : List ℕ) : Type 0 where
  pub release_is : p.release.0 ≡ slot q 1
  pub drawn_is : p.drawn.0 ≡ total (taken lack (shifted q))
  pub queue_is : q' ≡ spared lack (shifted q)

pub record Putting (k f : ℕ) (q : List ℕ) : Type 0 where
  pub reach : k ≤ length q
  pub few : total q + f < 2 ^ 32

pub record Puts (k f : ℕ) (q : List ℕ) (left : ℕ) (q' : List ℕ) : Type 0 where
  pub left_is : left ≡ total q'
  pub queue_is : q' ≡ joined k f q

-- ---- the ten amounts of all parts
unfoldable pub gathered_of : Reading → Wetting → Settled → Pulled → Water → Amounts
gathered_of r w s p left =
    record {
      inflow = water (r.rain + r.irrig + r.septic);
      runoff = w.runoff;
      etvad = w.etvad;
      etstor = p.drawn;
      etsat = s.etsat;
      drain = w.drain;
      release = p.release;
      stored = s.stored;
      recharge = s.recharge;
      left = left;
    }

-- ---- [6] a reading whose other checks are passed: 15, then the step
pub record AcceptGives (card : Card) (soil : Soil) (r : Reading) (d : Depth) (row : List ℕ) (answer : Answer) (after : List ℕ) : Type 0 where
  pub answer_is : answer ≡ cond (sums_take card soil (Entry.Reading r) d row) (Ok (step_amounts card soil r d (queue_of card.delays row))) (Err FullSums)
  pub row_is : after ≡ cond (sums_take card soil (Entry.Reading r) d row) (row_after card soil (Entry.Reading r) d row) row

-- ---- the range of the slots in use: `limit` at the first, 2,000,000 less at each after it
unfoldable pub held_under : ℕ → List ℕ → Bool
held_under limit [] = true
held_under limit (s ∷ ss) = leb s limit && held_under (limit - 2000000) ss

-- ---- where the high number of each sum stands in a row
abbrev pub place_of : Sum → ℕ
place_of Runoff = runoff_at
place_of Drain = drain_at
