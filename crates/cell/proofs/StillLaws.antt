-- [3] A still day is a void: the same checks, and the shift alone. So what is known of readings is known of entries. Assumes nothing.
use Rattle.std.proofs.Common.{◌≡◌, Bool, true, false, ◌&&◌, ℕ, ◌+◌, ◌≤◌, ℤ, get_or, Ok, refl, sym, ap, ◌∙◌, arith, List, ◌∷◌, ◌++◌, le-leb, pos, drop}
use Rattle.head.specs.ClassLaws.{dry_mark}
use Rattle.cell.specs.declared.Card.{Card}
use Rattle.cell.specs.declared.Depth.{Depth}
use Rattle.cell.specs.declared.Entry.{Entry}
use Rattle.cell.specs.declared.Notice.{Notice}
use Rattle.cell.specs.declared.ranges.Soil.{Soil}
use Rattle.cell.specs.declared.Refusal.TheVariants.{BadReading}
use Rattle.cell.specs.Depth.{dry_depth}
use Rattle.cell.specs.Ranges.{noticed, notice_of, notice_ok, fields_ok, queue_of, row_ok}
use Rattle.cell.specs.RangeLaws.{row_in}
use Rattle.cell.specs.Sums.{runoff_at, drain_at, sum_limit, sum_of}
use Rattle.cell.specs.Refusals.{sounded, unless, fields_verdict, verdict_of}
use Rattle.cell.specs.Parts.{Checked}
use Rattle.cell.specs.Queue.{slot, shifted}
use Rattle.cell.specs.QueueLaws.{spared_none, joined_none}
use Rattle.cell.specs.Rules.{drain_of}
use Rattle.cell.specs.Step.{given, release, runoff, etvad, lack, etstor, etsat, drain, stored, direct, recharge, delay, queue_after, step_amounts, shift_amounts, amounts_by, queue_by, row_moved, runoff_by, drain_by, row_after, sums_take}
use Rattle.cell.proofs.StepLaws.{runoff_given, etvad_left, lack_pet, plants_pet, given_parts, recharge_parts}
use Rattle.cell.specs.Still.{still_of, reading_of}

-- ---- the checks
pub notice_as : (e : Entry) → noticed (reading_of e) ≡ notice_of e
notice_as (Entry.Reading r) = refl
notice_as (Entry.Void n) = refl

fields_still : (n : Notice) → fields_ok (still_of n) ≡ notice_ok n
unfolding fields_ok
fields_still n = go (notice_ok n)
  where
    go : (b : Bool) → (b && true && true && true && true && true && true && true && true) ≡ b
    go true = refl
    go false = refl

pub fields_as : (top : ℤ) (e : Entry) → fields_verdict top (Entry.Reading (reading_of e)) ≡ fields_verdict top e
unfolding fields_verdict sounded unless
fields_as top (Entry.Reading r) = refl
fields_as top (Entry.Void n) = rw (fields_still n, dry_mark)

pub verdict_as : (card : Card) (soil : List ℤ) (row : List ℕ) (e : Entry) → verdict_of card soil row (Entry.Reading (reading_of e)) ≡ verdict_of card soil row e
unfolding verdict_of
verdict_as card soil row e = rw (notice_as e, fields_as (get_or soil 0 (pos 0)) e)

-- a void that passes is at the dry depth
pub void_depth : (top : ℤ) (n : Notice) (d : Depth) → fields_verdict top (Entry.Void n) ≡ Ok d → (notice_ok n ≡ true) × (dry_depth ≡ d)
unfolding fields_verdict unless
void_depth top n d f = go (notice_ok n) f
  where
    go : (b : Bool) → unless b BadReading (Ok dry_depth) ≡ Ok d → (b ≡ true) × (dry_depth ≡ d)
    go true e = (refl, cc)
    go false e = cc

-- ---- the step
module _ (card : Card) (soil : Soil) (n : Notice) (h : Checked card soil (still_of n) dry_depth) where
  no_given : given card soil (still_of n) dry_depth ≡ 0
  unfolding given
  no_given = refl

  no_runoff : runoff card soil (still_of n) dry_depth ≡ 0
  no_runoff = omega (arith, runoff_given card soil (still_of n) dry_depth h, no_given)

  no_etvad : etvad card soil (still_of n) dry_depth ≡ 0
  no_etvad = omega (arith, etvad_left card soil (still_of n) dry_depth h, no_given)

  no_lack : lack card soil (still_of n) dry_depth ≡ 0
  no_lack = omega (arith, lack_pet card soil (still_of n) dry_depth h)

  no_stored : stored card soil (still_of n) dry_depth ≡ 0
  no_stored = omega (arith, given_parts card soil (still_of n) dry_depth h, no_given)

  no_direct : direct card soil (still_of n) dry_depth ≡ 0
  no_direct = omega (arith, given_parts card soil (still_of n) dry_depth h, no_given)

  no_drain : drain card soil (still_of n) dry_depth ≡ 0
  unfolding drain drain_of
  no_drain = refl

  module _ (q : List ℕ) where
    no_etstor : etstor card soil (still_of n) dry_depth q ≡ 0
    no_etstor = omega (arith, plants_pet card soil (still_of n) dry_depth h q)

    no_etsat : etsat card soil (still_of n) dry_depth q ≡ 0
    no_etsat = omega (arith, plants_pet card soil (still_of n) dry_depth h q)

    recharged : recharge card soil (still_of n) dry_depth q ≡ pos (slot q 1)
    unfolding release
    recharged =
        recharge_parts card soil (still_of n) dry_depth h q
        ∙ rw (no_direct, no_etsat, no_drain) (ap pos (omega arith))

    pub still_queue : queue_after card soil (still_of n) dry_depth q ≡ shifted q
    unfolding queue_after
    still_queue = rw (no_stored, no_lack, spared_none) (joined_none (delay card soil (still_of n) dry_depth) (shifted q))

    pub still_amounts : step_amounts card soil (still_of n) dry_depth q ≡ shift_amounts q
    unfolding step_amounts shift_amounts release
    still_amounts = rw (no_given, no_runoff, no_etvad, no_etstor, no_etsat, no_drain, no_stored, recharged, still_queue)

-- ---- of any entry: its step is that of the reading it is stepped as
module _ (card : Card) (soil : Soil) (top : ℤ) where
  pub amounts_as : (e : Entry) (d : Depth) → fields_verdict top e ≡ Ok d → Checked card soil (reading_of e) d → (q : List ℕ) → amounts_by card soil e d q ≡ step_amounts card soil (reading_of e) d q
  unfolding amounts_by
  amounts_as (Entry.Reading r) d f h q = refl
  amounts_as (Entry.Void n) d f h q = let e = (void_depth top n d f).1 in rw (← e) (sym (still_amounts card soil n (rw (← e) at h) q))

  pub queue_as : (e : Entry) (d : Depth) → fields_verdict top e ≡ Ok d → Checked card soil (reading_of e) d → (q : List ℕ) → queue_by card soil e d q ≡ queue_after card soil (reading_of e) d q
  unfolding queue_by
  queue_as (Entry.Reading r) d f h q = refl
  queue_as (Entry.Void n) d f h q = let e = (void_depth top n d f).1 in rw (← e) (sym (still_queue card soil n (rw (← e) at h) q))

  moved_as : (e : Entry) (d : Depth) → fields_verdict top e ≡ Ok d → Checked card soil (reading_of e) d → (row : List ℕ) → row_moved card soil e d row ≡ row_moved card soil (Entry.Reading (reading_of e)) d row
  unfolding row_moved queue_by
  moved_as e d f h row = ap (λ (n : Notice). n.life ∷ (n.count + 1) ∷ (queue_by card soil e d (queue_of card.delays row) ++ drop card.delays (drop 2 row))) (sym (notice_as e))
      ∙ ap (λ (q : List ℕ). (reading_of e).life ∷ ((reading_of e).count + 1) ∷ (q ++ drop card.delays (drop 2 row))) (queue_as e d f h (queue_of card.delays row))

  -- [6] what it adds to the sums
  adds_as : (e : Entry) (d : Depth) → fields_verdict top e ≡ Ok d → Checked card soil (reading_of e) d
      → (runoff_by card soil e d ≡ runoff card soil (reading_of e) d) × (drain_by card soil e d ≡ drain card soil (reading_of e) d)
  unfolding runoff_by drain_by
  adds_as (Entry.Reading r) d f h = (refl, refl)
  adds_as (Entry.Void n) d f h =
      let e = (void_depth top n d f).1 in
      let k = rw (← e) at h in
      rw (← e) (sym (no_runoff card soil n k), sym (no_drain card soil n k))

  pub row_as : (e : Entry) (d : Depth) → fields_verdict top e ≡ Ok d → Checked card soil (reading_of e) d → (row : List ℕ) → row_after card soil e d row ≡ row_after card soil (Entry.Reading (reading_of e)) d row
  unfolding row_after runoff_by drain_by
  row_as e d f h row = let a = adds_as e d f h in rw (a.0, a.1, moved_as e d f h row)

  -- 15, which a row in range passes where nothing is added
  pub take_as : (e : Entry) (d : Depth) → fields_verdict top e ≡ Ok d → Checked card soil (reading_of e) d → (row : List ℕ) → row_ok card row ≡ true
      → sums_take card soil (Entry.Reading (reading_of e)) d row ≡ sums_take card soil e d row
  unfolding sums_take runoff_by drain_by
  take_as (Entry.Reading r) d f h row ok = refl
  take_as (Entry.Void n) d f h row ok =
      let e = adds_as (Entry.Void n) d f h in
      let i = (row_in card row ok).form in
      let a : sum_of runoff_at row + runoff card soil (still_of n) d ≤ sum_limit = omega (arith, i.runoff, e.0) in
      let b : sum_of drain_at row + drain card soil (still_of n) d ≤ sum_limit = omega (arith, i.drain, e.1) in
      rw (le-leb _ _ a, le-leb _ _ b)
