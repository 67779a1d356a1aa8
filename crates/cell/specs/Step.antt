-- One accepted step of one plot, in document 01's order and with its step numbers; and what a call of the one-row step gives. Definitions only.
use Rattle.std.specs.Prelude.{◌≡◌, Bool, true, ◌&&◌, List, [], ◌∷◌, ◌++◌, ℕ, ◌+◌, ◌-◌, leb, ℤ, pos, length, get_or, drop, replicate, Ok, Err}
use Rattle.head.specs.Class.{class_of}
use Rattle.cell.specs.Answers.{Answer, Verdict}
use Rattle.cell.specs.declared.Amounts.{Amounts}
use Rattle.cell.specs.declared.Card.{Card}
use Rattle.cell.specs.declared.Depth.{Depth}
use Rattle.cell.specs.declared.Entry.{Entry}
use Rattle.cell.specs.declared.Reading.{Reading}
use Rattle.cell.specs.declared.Refusal.{Refusal}
use Rattle.cell.specs.declared.Refusal.TheVariants.{FullSums}
use Rattle.cell.specs.declared.ranges.Soil.{Soil}
use Rattle.cell.specs.Water.{water, net}
use Rattle.cell.specs.Ranges.{soil_of, queue_of, notice_of}
use Rattle.cell.specs.Refusals.{refusal_number, number_of, nothing, amounts_of, depth_at, unless, verdict_of}
use Rattle.cell.specs.Sums.{runoff_at, drain_at, sum_limit, sum_of, added}
use Rattle.cell.specs.Queue.{slot, total, shifted, taken, spared, joined}
use Rattle.cell.specs.Rules.{curve_of, storm_of, delay_of, runoff_of, etvad_of, lack_of, etsat_of, drain_of, stored_of, direct_of, recharge_of}

-- The amounts of a step by their names: of a reading r where the table stands at d. A q is the queue as the step finds it.
module _ (card : Card) (soil : Soil) (r : Reading) (d : Depth) where
  -- G = rain + irrig
  unfoldable pub given : ℕ
  given = r.rain + r.irrig

  -- 1
  unfoldable pub release : List ℕ → ℕ
  release q = slot q 1

  -- 2
  unfoldable pub curve : ℕ
  curve = curve_of soil.cn r.amc

  -- 3
  unfoldable pub storm : ℕ
  storm = storm_of card.share curve r.rain

  -- 4
  unfoldable pub delay : ℕ
  delay = delay_of card.depths card.delays d

  -- 5
  unfoldable pub runoff : ℕ
  runoff = runoff_of given storm delay soil.vadpor d

  -- 6
  unfoldable pub etvad : ℕ
  etvad = etvad_of given runoff r.pet r.etmin r.irrig

  -- 7, from the queue after the shift
  unfoldable pub lack : ℕ
  lack = lack_of etvad r.etmin d

  unfoldable pub draws : List ℕ → List ℕ
  draws q = taken lack (shifted q)

  unfoldable pub etstor : List ℕ → ℕ
  etstor q = total (draws q)

  -- 8
  unfoldable pub etsat : List ℕ → ℕ
  etsat q = etsat_of (r.pet - etvad - etstor q) soil.etdepth d

  -- 9
  unfoldable pub drain : ℕ
  drain = drain_of soil.leak d

  -- 10, F
  unfoldable pub sunk : ℕ
  sunk = given - runoff - etvad

  unfoldable pub stored : ℕ
  stored = stored_of delay sunk

  unfoldable pub direct : ℕ
  direct = direct_of delay sunk

  -- 11
  unfoldable pub recharge : List ℕ → ℤ
  recharge q = recharge_of (release q) direct r.septic (etsat q) drain

  -- shift, compute, draw, deposit: the queue as the step leaves it
  unfoldable pub queue_after : List ℕ → List ℕ
  queue_after q = joined delay stored (spared lack (shifted q))

  -- the ten amounts
  unfoldable pub step_amounts : List ℕ → Amounts
  step_amounts q =
      record {
        inflow = water (given + r.septic);
        runoff = water runoff;
        etvad = water etvad;
        etstor = water (etstor q);
        etsat = water (etsat q);
        drain = water drain;
        release = water (release q);
        stored = water stored;
        recharge = net (recharge q);
        left = water (total (queue_after q));
      }

-- ---- [3] the step of a void is the shift alone: release is recharge, other amounts are 0 but left
unfoldable pub shift_amounts : List ℕ → Amounts
shift_amounts q =
    record {
      inflow = water 0;
      runoff = water 0;
      etvad = water 0;
      etstor = water 0;
      etsat = water 0;
      drain = water 0;
      release = water (slot q 1);
      stored = water 0;
      recharge = net (pos (slot q 1));
      left = water (total (shifted q));
    }

-- ---- the step of an entry, where the table stands at d
module _ (card : Card) (soil : Soil) where
  unfoldable pub amounts_by : Entry → Depth → List ℕ → Amounts
  amounts_by (Entry.Reading r) d q = step_amounts card soil r d q
  amounts_by (Entry.Void n) d q = shift_amounts q

  unfoldable pub queue_by : Entry → Depth → List ℕ → List ℕ
  queue_by (Entry.Reading r) d q = queue_after card soil r d q
  queue_by (Entry.Void n) d q = shifted q

  -- the row with its queue moved on: the entry's life, its count + 1, the queue, and what stood above the queue
  unfoldable pub row_moved : Entry → Depth → List ℕ → List ℕ
  row_moved e d row = (notice_of e).life ∷ ((notice_of e).count + 1) ∷ (queue_by e d (queue_of card.delays row) ++ drop card.delays (drop 2 row))

  -- [6] what the step adds to the sums: its runoff and its drain; a void adds nothing
  unfoldable pub runoff_by : Entry → Depth → ℕ
  runoff_by (Entry.Reading r) d = runoff card soil r d
  runoff_by (Entry.Void n) d = 0

  unfoldable pub drain_by : Entry → Depth → ℕ
  drain_by (Entry.Reading r) d = drain card soil r d
  drain_by (Entry.Void n) d = 0

  -- the row as the step leaves it
  unfoldable pub row_after : Entry → Depth → List ℕ → List ℕ
  row_after e d row = added drain_at (drain_by e d) (added runoff_at (runoff_by e d) (row_moved e d row))

  -- [6] 15. neither sum would pass 10^18; of a void, which adds nothing, it is not asked
  unfoldable pub sums_take : Entry → Depth → List ℕ → Bool
  sums_take (Entry.Reading r) d row = leb (sum_of runoff_at row + runoff card soil r d) sum_limit && leb (sum_of drain_at row + drain card soil r d) sum_limit
  sums_take (Entry.Void n) d row = true

  -- what an account asks of a step besides its amounts: the delay of 4, and what 7 draws from each slot; a void [3] stores nothing and draws 0 from each
  unfoldable pub delay_by : Entry → Depth → ℕ
  delay_by (Entry.Reading r) d = delay card soil r d
  delay_by (Entry.Void n) d = 0

  unfoldable pub draws_by : Entry → Depth → List ℕ → List ℕ
  draws_by (Entry.Reading r) d q = draws card soil r d q
  draws_by (Entry.Void n) d q = replicate (length q) 0

-- ---- what a call gives, for every input

-- by the verdict of the checks: something of the depth where they pass, something of the refusal where not
unfoldable pub judged : {A : Type 0} → Verdict → (Depth → A) → (Refusal → A) → A
judged (Ok d) passed refused = passed d
judged (Err why) passed refused = refused why

-- [6] the verdict of all checks: those up to 10, then 15
unfoldable pub final_of : Card → List ℤ → List ℕ → Entry → Verdict
final_of card soil row e = judged (verdict_of card soil row e) (λ d. unless (sums_take card (soil_of soil) e d row) FullSums (Ok d)) (λ why. Err why)

-- 15 with its number and whether it is passed, where the table stands at the depth that the reading's head gives
abbrev pub sum_checks : Card → List ℤ → List ℕ → Entry → List (ℕ × Bool)
sum_checks card soil row (Entry.Reading r) = (15, sums_take card (soil_of soil) (Entry.Reading r) (depth_at (get_or soil 0 (pos 0)) (class_of r.head)) row) ∷ []
sum_checks card soil row (Entry.Void n) = []

-- accepted with the ten amounts, or refused
unfoldable pub answer_of : Card → List ℤ → List ℕ → Entry → Answer
answer_of card soil row e = judged (final_of card soil row e) (λ d. Ok (amounts_by card (soil_of soil) e d (queue_of card.delays row))) (λ why. Err why)

-- the row at exit: refused, as it came
unfoldable pub new_row : Card → List ℤ → List ℕ → Entry → List ℕ
new_row card soil row e = judged (final_of card soil row e) (λ d. row_after card (soil_of soil) e d row) (λ why. row)

-- the delay and the draws of a call
unfoldable pub step_delay : Card → List ℤ → List ℕ → Entry → ℕ
step_delay card soil row e = judged (final_of card soil row e) (λ d. delay_by card (soil_of soil) e d) (λ why. 0)

unfoldable pub step_draws : Card → List ℤ → List ℕ → Entry → List ℕ
step_draws card soil row e = judged (final_of card soil row e) (λ d. draws_by card (soil_of soil) e d (queue_of card.delays row)) (λ why. [])

-- the one-row step: its answer, with its number and amounts, and the row at exit
pub record StepGives (card : Card) (soil : List ℤ) (row : List ℕ) (e : Entry) (answer : Answer) (after : List ℕ) : Type 0 where
  pub answer_is : answer ≡ answer_of card soil row e
  pub number_is : number_of answer ≡ judged (final_of card soil row e) (λ d. 0) refusal_number
  pub amounts_are : amounts_of answer ≡ judged (final_of card soil row e) (λ d. amounts_by card (soil_of soil) e d (queue_of card.delays row)) (λ why. nothing)
  pub row_is : after ≡ new_row card soil row e
