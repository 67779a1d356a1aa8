-- Laws of the answer and of the row that a call of the one-row step gives: what the crates above cite, so that they open no definition here. Assumes nothing.
use Rattle.std.proofs.Common.{◌≡◌, refl, sym, ap, ◌∙◌, le-leb, true, false, List, [], ◌∷◌, ◌++◌, ℕ, suc, ◌+◌, ◌≤◌, ℤ, nat_abs, ◌-ℤ◌, length, drop, replicate, Ok, Err, arith, pos, get_or}
use Rattle.std.proofs.lemmas.List.{length-replicate}
use Rattle.cell.specs.Answers.{Verdict}
use Rattle.cell.specs.declared.Amounts.{Amounts}
use Rattle.cell.specs.declared.Card.{Card}
use Rattle.cell.specs.declared.Depth.{Depth}
use Rattle.cell.specs.declared.Entry.{Entry}
use Rattle.cell.specs.declared.Notice.{Notice}
use Rattle.cell.specs.declared.Reading.{Reading}
use Rattle.cell.specs.declared.Refusal.{Refusal}
use Rattle.cell.specs.declared.Refusal.TheVariants.{BadCard, FullSums}
use Rattle.cell.specs.declared.ranges.Soil.{Soil}
use Rattle.cell.specs.Ranges.{card_ok, soil_ok, soil_of, queue_of, row_width, row_ok, notice_ok, notice_of, life_of, next_of}
use Rattle.cell.specs.Depth.{dry_depth}
use Rattle.cell.specs.Refusals.{unless, fields_verdict, verdict_of}
use Rattle.cell.proofs.CheckLaws.{Passed, passed, verdict_other, final_passed, final_fine, verdict_card, rain_passed, checked, InOrder, order_is, order_old, order_gap}
use Rattle.cell.specs.Parts.{Checked}
use Rattle.cell.specs.Queue.{slot, just, total, shifted, spared}
use Rattle.cell.specs.QueueLaws.{just_none, total_in, total_shifted, total_cleared, slot_empty, slot_cleared, slot_shifted, slot_spared, slot_joined, length_shifted, length_spared}
use Rattle.cell.specs.Step.{release, runoff, etsat, drain, stored, direct, queue_after, step_amounts, shift_amounts, amounts_by, queue_by, row_moved, runoff_by, drain_by, row_after, sums_take, delay_by, draws_by, judged, final_of, answer_of, new_row, step_delay, step_draws, delay, draws, lack}
use Rattle.cell.proofs.StepLaws.{given_most, delay_most, given_parts, stored_none, draws_total, draws_length, totals, recharge_parts, row_queue, runoff_given, plants_pet, drain_most, stored_most, release_most, recharge_most, after_in, after_length, queue_in, queue_length, row_life, row_next, row_runoff, row_drain, row_kept, row_length}
use Rattle.cell.specs.Still.{reading_of}
use Rattle.cell.proofs.StillLaws.{amounts_as, queue_as, row_as, take_as}
use Rattle.cell.specs.Sums.{runoff_at, drain_at, sum_limit, sum_of, added}

-- the range of each amount
pub record AmountsIn (a : Amounts) : Type 0 where
  pub inflow : a.inflow.0 ≤ 3000000
  pub runoff : a.runoff.0 ≤ 2000000
  pub plants : a.etvad.0 + a.etstor.0 + a.etsat.0 ≤ 1000000
  pub drain : a.drain.0 ≤ 20000000000
  pub release : a.release.0 ≤ 60000000
  pub stored : a.stored.0 ≤ 2000000
  pub recharge : nat_abs a.recharge.0 ≤ 30000000000
  pub left : a.left.0 ≤ 1800000000

-- how an accepted step moves water: from the queue q, with its amounts a, its delay k and its draws ds, to the queue q'
pub record Moves (q : List ℕ) (a : Amounts) (k : ℕ) (ds q' : List ℕ) : Type 0 where
  -- the delay is one of the slots, and without one nothing is stored
  pub reach : k ≤ length q
  pub direct : k ≡ 0 → a.stored.0 ≡ 0
  -- the release is the old slot 1, the draws come to etstor, and left is what the queue then holds
  pub first : a.release.0 ≡ slot q 1
  pub drawn : a.etstor.0 ≡ total ds
  pub rest : a.left.0 ≡ total q'
  pub same_length : length q' ≡ length q
  pub draws_length : length ds ≡ length q
  -- slot i + 2 becomes slot i + 1: what stood there, with what is stored into it, is drawn or stands there
  pub slots : (i : ℕ) → slot q (suc (suc i)) + just k (suc i) a.stored.0 ≡ slot ds (suc i) + slot q' (suc i)
  -- left before + stored = release + etstor + left after
  pub totals : total q + a.stored.0 ≡ a.release.0 + a.etstor.0 + total q'
  -- what of the inflow is neither runoff nor etvad nor stored reaches the table at once
  pub fresh : ℕ
  pub parts : a.inflow.0 ≡ a.runoff.0 + a.etvad.0 + a.stored.0 + fresh
  pub net_is : a.recharge.0 ≡ pos (a.release.0 + fresh) -ℤ pos (a.etsat.0 + a.drain.0)

-- an accepted call: the depth that the checks found, and the step that was taken there, as that of a reading
pub record Taken (card : Card) (soil : List ℤ) (row : List ℕ) (e : Entry) (a : Amounts) : Type 0 where
  pub depth : Depth
  pub checks : Passed card soil row e depth
  pub room : sums_take card (soil_of soil) e depth row ≡ true
  pub ranges : Checked card (soil_of soil) (reading_of e) depth
  pub amounts_by_lem : a ≡ amounts_by card (soil_of soil) e depth (queue_of card.delays row)
  pub amounts_are : a ≡ step_amounts card (soil_of soil) (reading_of e) depth (queue_of card.delays row)
  pub row_is : new_row card soil row e ≡ row_after card (soil_of soil) e depth row
  pub row_read : new_row card soil row e ≡ row_after card (soil_of soil) (Entry.Reading (reading_of e)) depth row
  pub moved : Moves (queue_of card.delays row) a (step_delay card soil row e) (step_draws card soil row e) (queue_by card (soil_of soil) e depth (queue_of card.delays row))

module _ (card : Card) (soil : Soil) (r : Reading) (d : Depth) (h : Checked card soil r d) (q : List ℕ) (long : length q ≡ card.delays) where
  left_of_draw : List ℕ
  left_of_draw = spared (lack card soil r d) (shifted q)

  reaches : delay card soil r d ≤ length left_of_draw
  unfolding left_of_draw
  reaches = omega (arith, delay_most card soil r d h, length_spared (lack card soil r d) (shifted q), length_shifted q)

  queue_moves : Moves q (step_amounts card soil r d q) (delay card soil r d) (draws card soil r d q) (queue_after card soil r d q)
  unfolding step_amounts release draws queue_after left_of_draw
  queue_moves =
      record {
        reach = omega (arith, delay_most card soil r d h);
        direct = stored_none card soil r d h;
        first = refl;
        drawn = sym (draws_total card soil r d h q);
        rest = refl;
        same_length = after_length card soil r d h q;
        draws_length = draws_length card soil r d h q;
        slots = λ i.
            omega (
              arith,
              slot_shifted q i,
              slot_spared (lack card soil r d) (shifted q) (suc i),
              slot_joined (delay card soil r d) (stored card soil r d) left_of_draw reaches i,
            );
        totals = omega (arith, totals card soil r d h q long);
        fresh = direct card soil r d + r.septic;
        parts = omega (arith, given_parts card soil r d h);
        net_is =
            recharge_parts card soil r d h q
            ∙ ap (λ (n : ℕ). pos n -ℤ pos (etsat card soil r d q + drain card soil r d)) (omega arith);
      }

-- [3] a shift alone moves water as a step must
shift_moves : (q : List ℕ) → Moves q (shift_amounts q) 0 (replicate (length q) 0) (shifted q)
unfolding shift_amounts
shift_moves q =
    record {
      reach = omega arith;
      direct = λ e. refl;
      first = refl;
      drawn = sym (total_cleared (length q));
      rest = refl;
      same_length = length_shifted q;
      draws_length = length-replicate {A = ℕ} (length q) 0;
      slots = λ i. omega (arith, slot_shifted q i, just_none 0 (suc i), slot_cleared (length q) (suc i));
      totals = omega (arith, total_shifted q);
      fresh = 0;
      parts = refl;
      net_is = ap pos (omega arith);
    }

-- the step of any entry whose reading is in its ranges
entry_moves : (card : Card) (soil : Soil) (e : Entry) (d : Depth) → Checked card soil (reading_of e) d → (q : List ℕ) → length q ≡ card.delays
    → Moves q (amounts_by card soil e d q) (delay_by card soil e d) (draws_by card soil e d q) (queue_by card soil e d q)
unfolding amounts_by delay_by draws_by queue_by
entry_moves card soil (Entry.Reading r) d h q long = queue_moves card soil r d h q long
entry_moves card soil (Entry.Void n) d h q long = shift_moves q

-- [6] a reading in its ranges passes 15 where each sum has room for the most
takes_reading : (card : Card) (soil : Soil) (r : Reading) (d : Depth) → Checked card soil r d → (row : List ℕ) → sum_of runoff_at row + 2000000 ≤ sum_limit → sum_of drain_at row + 20000000000 ≤ sum_limit
    → sums_take card soil (Entry.Reading r) d row ≡ true
unfolding sums_take
takes_reading card soil r d h row hr hd =
    let a : sum_of runoff_at row + runoff card soil r d ≤ sum_limit = omega (arith, runoff_given card soil r d h, given_most card soil r d h) in
    let b : sum_of drain_at row + drain card soil r d ≤ sum_limit = omega (arith, drain_most card soil r d h) in
    rw (le-leb _ _ a, le-leb _ _ b)

module _ (card : Card) (soil : List ℤ) (row : List ℕ) (e : Entry) where
  -- refused, the row is as it came
  pub stays : (why : Refusal) → answer_of card soil row e ≡ Err why → new_row card soil row e ≡ row
  unfolding answer_of new_row judged
  stays why g = go (final_of card soil row e) g
    where
      go : (v : Verdict) → judged v (λ d. Ok (amounts_by card (soil_of soil) e d (queue_of card.delays row))) (λ b. Err b) ≡ Err why → judged v (λ d. row_after card (soil_of soil) e d row) (λ b. row) ≡ row
      go (Ok d) f = cc
      go (Err b) f = refl

  -- a bad card is refused with 1, whatever else is wrong
  pub bad_card : card_ok card ≡ false → answer_of card soil row e ≡ Err BadCard
  unfolding answer_of final_of judged
  bad_card f = rw (verdict_card card soil row e f)

  -- an entry that passes every check is accepted, and the row is the step's
  pub lets_through : (d : Depth) → Passed card soil row e d → sums_take card (soil_of soil) e d row ≡ true → answer_of card soil row e ≡ Ok (amounts_by card (soil_of soil) e d (queue_of card.delays row))
  unfolding answer_of judged
  lets_through d p k = rw (final_fine card soil row e d p k)

  pub row_through : (d : Depth) → Passed card soil row e d → sums_take card (soil_of soil) e d row ≡ true → new_row card soil row e ≡ row_after card (soil_of soil) e d row
  unfolding new_row judged
  row_through d p k = rw (final_fine card soil row e d p k)

  taken_at : (a : Amounts) (d : Depth) → final_of card soil row e ≡ Ok d → amounts_by card (soil_of soil) e d (queue_of card.delays row) ≡ a → Taken card soil row e a
  unfolding new_row step_delay step_draws judged
  taken_at a d f ea =
      let fp = final_passed card soil row e d f in
      let p = passed card soil row e d fp.0 in
      let h = checked card soil row e d p in
      let q = queue_of card.delays row in
      let top = get_or soil 0 (pos 0) in
      record {
        depth = d;
        checks = p;
        room = fp.1;
        ranges = h;
        amounts_by_lem = sym ea;
        amounts_are = sym ea ∙ amounts_as card (soil_of soil) top e d p.fields_fine h q;
        row_is = rw f;
        row_read = rw f (row_as card (soil_of soil) top e d p.fields_fine h row);
        moved = rw (f, ← ea) (entry_moves card (soil_of soil) e d h q (queue_length card (soil_of soil) (reading_of e) d h row p.row_ok_lem));
      }

  pub step_taken : (a : Amounts) → answer_of card soil row e ≡ Ok a → Taken card soil row e a
  unfolding answer_of judged
  step_taken a g = go (final_of card soil row e) refl
    where
      go : (v : Verdict) → final_of card soil row e ≡ v → Taken card soil row e a
      go (Ok d) f =
          let s : Ok (amounts_by card (soil_of soil) e d (queue_of card.delays row)) ≡ Ok a = rw f at g in
          taken_at a d f (cc)
      go (Err b) f =
          let s : Err b ≡ Ok a = rw f at g in
          cc

  -- [6] 15 does not come while each sum has room for the most that a step runs off or drains
  pub room_enough : sum_of runoff_at row + 2000000 ≤ sum_limit → sum_of drain_at row + 20000000000 ≤ sum_limit → ¬ (answer_of card soil row e ≡ Err FullSums)
  unfolding answer_of final_of judged unless
  room_enough hr hd g = go (verdict_of card soil row e) refl
    where
      go : (v : Verdict) → verdict_of card soil row e ≡ v → ⊥
      go (Err why) f =
          let s : Err why ≡ Err FullSums = rw f at g in
          let k : why ≡ FullSums = cc in
          verdict_other card soil row e (rw k at f)
      go (Ok d) f =
          let p = passed card soil row e d f in
          let s : Ok (amounts_by card (soil_of soil) e d (queue_of card.delays row)) ≡ Err FullSums = rw (f, takes_most d p) at g in
          cc
        where
          takes_most : (x : Depth) → Passed card soil row e x → sums_take card (soil_of soil) e x row ≡ true
          takes_most x p =
              let c = checked card soil row e x p in
              sym (take_as card (soil_of soil) (get_or soil 0 (pos 0)) e x p.fields_fine c row p.row_ok_lem) ∙ takes_reading card (soil_of soil) (reading_of e) x c row hr hd

  -- of an accepted call
  module _ (a : Amounts) (g : answer_of card soil row e ≡ Ok a) where
    t : Taken card soil row e a
    t = step_taken a g

    -- the entry went on with the row's life at its next count, or started a higher life at 0
    pub was_in_order : InOrder (life_of row) (next_of row) (notice_of e)
    was_in_order = order_is (life_of row) (next_of row) (notice_of e) t.checks.not_old t.checks.not_gap

    -- the row has the entry's life and its count + 1
    pub life_after : life_of (new_row card soil row e) ≡ (notice_of e).life
    life_after = rw t.row_is (row_life card (soil_of soil) e t.depth row)

    pub next_after : next_of (new_row card soil row e) ≡ (notice_of e).count + 1
    next_after = rw t.row_is (row_next card (soil_of soil) e t.depth row)

    room_read : sums_take card (soil_of soil) (Entry.Reading (reading_of e)) t.depth row ≡ true
    room_read = take_as card (soil_of soil) (get_or soil 0 (pos 0)) e t.depth t.checks.fields_fine t.ranges row t.checks.row_ok_lem ∙ t.room

    -- [6] the sums have grown by what the answer says ran off and drained
    pub runoff_after : sum_of runoff_at (new_row card soil row e) ≡ sum_of runoff_at row + a.runoff.0
    unfolding step_amounts
    runoff_after =
        ap (sum_of runoff_at) t.row_read
        ∙ row_runoff card (soil_of soil) (reading_of e) t.depth t.ranges row t.checks.row_ok_lem
        ∙ ap (λ (b : Amounts). sum_of runoff_at row + b.runoff.0) (sym t.amounts_are)

    pub drain_after : sum_of drain_at (new_row card soil row e) ≡ sum_of drain_at row + a.drain.0
    unfolding step_amounts
    drain_after =
        ap (sum_of drain_at) t.row_read
        ∙ row_drain card (soil_of soil) (reading_of e) t.depth t.ranges row t.checks.row_ok_lem
        ∙ ap (λ (b : Amounts). sum_of drain_at row + b.drain.0) (sym t.amounts_are)

    -- a row in range stays in range
    pub range_after : row_ok card (new_row card soil row e) ≡ true
    range_after = rw t.row_read (row_kept card (soil_of soil) (reading_of e) t.depth t.ranges row t.checks.row_ok_lem room_read)

    pub length_after : length (new_row card soil row e) ≡ row_width card
    length_after = rw t.row_read (row_length card (soil_of soil) (reading_of e) t.depth t.ranges row t.checks.row_ok_lem)

    -- the queue of the row, before and after
    pub queue_long : length (queue_of card.delays row) ≡ card.delays
    queue_long = queue_length card (soil_of soil) (reading_of e) t.depth t.ranges row t.checks.row_ok_lem

    queue_after_lem : queue_of card.delays (new_row card soil row e) ≡ queue_by card (soil_of soil) e t.depth (queue_of card.delays row)
    queue_after_lem =
        ap (queue_of card.delays) t.row_read
        ∙ row_queue card (soil_of soil) (reading_of e) t.depth t.ranges row t.checks.row_ok_lem
        ∙ sym (queue_as card (soil_of soil) (get_or soil 0 (pos 0)) e t.depth t.checks.fields_fine t.ranges (queue_of card.delays row))

    -- the step moves water as it must
    pub moves : Moves (queue_of card.delays row) a (step_delay card soil row e) (step_draws card soil row e) (queue_of card.delays (new_row card soil row e))
    moves = rw queue_after_lem t.moved

    -- each amount is in its range
    pub amounts_in : AmountsIn a
    unfolding step_amounts
    amounts_in =
        let h = t.ranges in
        let d = t.depth in
        let s = soil_of soil in
        let r = reading_of e in
        let q = queue_of card.delays row in
        let w = queue_in card s r d h row t.checks.row_ok_lem in
        rw t.amounts_are (record {
          inflow = omega (arith, given_most card s r d h, h.septic);
          runoff = omega (arith, runoff_given card s r d h, given_most card s r d h);
          plants = omega (arith, plants_pet card s r d h q, h.pet);
          drain = drain_most card s r d h;
          release = release_most card s r d h q w;
          stored = stored_most card s r d h;
          recharge = recharge_most card s r d h q w;
          left =
              omega (
                arith,
                total_in card.delays (queue_after card s r d q) h.delays (after_in card s r d h q w),
                after_length card s r d h q,
                queue_length card s r d h row t.checks.row_ok_lem,
                h.delays,
              );
        })

-- [7] the rain of an accepted reading is at most 600,000
pub rain_taken : (card : Card) (soil : List ℤ) (row : List ℕ) (r : Reading) (a : Amounts) → answer_of card soil row (Entry.Reading r) ≡ Ok a → r.rain ≤ 600000
rain_taken card soil row r a g =
    let t = step_taken card soil row (Entry.Reading r) a g in
    rain_passed (get_or soil 0 (pos 0)) r t.depth t.checks.fields_fine

-- [3] a void in order, with its life and count in range, is accepted wherever card, soil numbers and row are in range: the queue shifts, and the count is used up
module _ (card : Card) (soil : List ℤ) (row : List ℕ) (n : Notice)
    (c : card_ok card ≡ true) (s : soil_ok soil ≡ true) (w : row_ok card row ≡ true) (k : notice_ok n ≡ true) (o : InOrder (life_of row) (next_of row) n) where
  void_checks_lem : Passed card soil row (Entry.Void n) dry_depth
  unfolding fields_verdict unless
  void_checks_lem = record { card_ok_lem = c; soil_ok_lem = s; row_ok_lem = w; not_old = order_old (life_of row) (next_of row) n o; not_gap = order_gap (life_of row) (next_of row) n o; fields_fine = rw k }

  -- [6] 15 is not asked
  void_takes : sums_take card (soil_of soil) (Entry.Void n) dry_depth row ≡ true
  unfolding sums_take
  void_takes = refl

  pub void_through : answer_of card soil row (Entry.Void n) ≡ Ok (shift_amounts (queue_of card.delays row))
  unfolding amounts_by
  void_through = lets_through card soil row (Entry.Void n) dry_depth void_checks_lem void_takes

  -- its sums have grown by 0
  pub void_row : new_row card soil row (Entry.Void n)
      ≡ added drain_at 0 (added runoff_at 0 (n.life ∷ (n.count + 1) ∷ (shifted (queue_of card.delays row) ++ drop card.delays (drop 2 row))))
  unfolding row_after runoff_by drain_by row_moved queue_by
  void_row = row_through card soil row (Entry.Void n) dry_depth void_checks_lem void_takes

-- what an accepted void answers: release is recharge, other amounts are 0 but left
pub record OnlyRelease (a : Amounts) : Type 0 where
  pub inflow : a.inflow.0 ≡ 0
  pub runoff : a.runoff.0 ≡ 0
  pub etvad : a.etvad.0 ≡ 0
  pub etstor : a.etstor.0 ≡ 0
  pub etsat : a.etsat.0 ≡ 0
  pub drain : a.drain.0 ≡ 0
  pub stored : a.stored.0 ≡ 0
  pub recharge : a.recharge.0 ≡ pos a.release.0

pub void_amounts : (card : Card) (soil : List ℤ) (row : List ℕ) (n : Notice) (a : Amounts) → answer_of card soil row (Entry.Void n) ≡ Ok a → OnlyRelease a
unfolding amounts_by shift_amounts
void_amounts card soil row n a g =
    rw (step_taken card soil row (Entry.Void n) a g).amounts_by_lem (record { inflow = refl; runoff = refl; etvad = refl; etstor = refl; etsat = refl; drain = refl; stored = refl; recharge = refl })

-- and it draws from no slot
pub void_draws : (card : Card) (soil : List ℤ) (row : List ℕ) (n : Notice) (i : ℕ) → slot (step_draws card soil row (Entry.Void n)) i ≡ 0
unfolding step_draws judged draws_by
void_draws card soil row n i = go (final_of card soil row (Entry.Void n))
  where
    q : List ℕ
    q = queue_of card.delays row

    go : (v : Verdict) → slot (judged v (λ d. replicate (length q) 0) (λ why. [])) i ≡ 0
    go (Ok d) = slot_cleared (length q) i
    go (Err why) = slot_empty i
