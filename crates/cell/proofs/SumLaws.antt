-- [6] A sum that is put is there, and nothing else of the row changes: not the other sum, life, next count, slots or length. Assumes nothing.
use Rattle.std.specs.Prelude.{◌≡◌, refl, List, [], ◌∷◌, ℕ, ◌+◌, ◌/◌, ◌%◌, ◌≤◌, ◌<◌, true, eqb, take, drop, set}
use Rattle.std.proofs.Math.Path.{ap}
use Rattle.std.proofs.Common.{sym, ◌∙◌, arith, eq-eqb, eqb-true, take-take, get_or-take}
use Rattle.std.proofs.Math.Bool.{and-eq-true_iff}
use Rattle.std.proofs.Math.ListN.{length, get_or, length-set, get_or-eq_default}
use Rattle.std.proofs.Math.Seq.{get_or-set_same, get_or-set_other, take-set-le}
use Rattle.cell.specs.Ranges.{life_of, next_of, slots_of, queue_of, form_ok}
use Rattle.cell.specs.RangeLaws.{form_in, form_ok_lem}
use Rattle.cell.specs.Sums.{front_width, runoff_at, drain_at, sum_numbers, sum_of, with_sum, added, emptied, no_sums}

-- ---- what every form of a row begins with: life, next count and the 30 slots
pub record SameFront (row row' : List ℕ) : Type 0 where
  pub life : life_of row' ≡ life_of row
  pub next : next_of row' ≡ next_of row
  pub slots : slots_of row' ≡ slots_of row

pub front_same : (row : List ℕ) → SameFront row row
front_same row = record { life = refl; next = refl; slots = refl }

pub front_on : {a b c : List ℕ} → SameFront a b → SameFront b c → SameFront a c
front_on p q = record { life = q.life ∙ p.life; next = q.next ∙ p.next; slots = q.slots ∙ p.slots }

-- two rows that begin with the same numbers
pub front_of : (row row' : List ℕ) → take front_width row' ≡ take front_width row → SameFront row row'
unfolding life_of next_of slots_of
front_of row row' e =
    record {
      life = sym (get_or-take front_width row' 0 0 (omega arith)) ∙ ap (λ (t : List ℕ). get_or t 0 0) e ∙ get_or-take front_width row 0 0 (omega arith);
      next = sym (get_or-take front_width row' 1 0 (omega arith)) ∙ ap (λ (t : List ℕ). get_or t 1 0) e ∙ get_or-take front_width row 1 0 (omega arith);
      slots = sym (inner row') ∙ ap (drop 2) e ∙ inner row;
    }
  where
    inner : (l : List ℕ) → drop 2 (take front_width l) ≡ take 30 (drop 2 l)
    inner [] = refl
    inner (x ∷ []) = refl
    inner (x ∷ y ∷ l) = refl

-- the queue is the first M slots
pub queue_slots : (m : ℕ) (row : List ℕ) → m ≤ 30 → queue_of m row ≡ take m (slots_of row)
unfolding queue_of slots_of
queue_slots m row h = sym (take-take m 30 (drop 2 row) h)

pub front_queue : {row row' : List ℕ} (m : ℕ) → m ≤ 30 → SameFront row row' → queue_of m row' ≡ queue_of m row
front_queue {row} {row'} m h f = queue_slots m row' h ∙ ap (take m) f.slots ∙ sym (queue_slots m row h)

-- ---- one sum of a row
module _ (at n : ℕ) (row : List ℕ) where
  pub with_length : length (with_sum at n row) ≡ length row
  unfolding with_sum
  with_length = simp length-set

  -- the sum that is put is there
  pub with_same : at + 2 ≤ length row → sum_of at (with_sum at n row) ≡ n
  unfolding with_sum sum_of
  with_same h =
      let high = n / 4294967296 in
      let low = n % 4294967296 in
      let l : at + 1 < length (set row at high) = simp length-set (omega arith) in
      let a : get_or (set (set row at high) (at + 1) low) at 0 ≡ high = get_or-set_other (set row at high) (at + 1) at low 0 (λ e. omega arith) ∙ get_or-set_same row at high 0 (omega arith) in
      let b : get_or (set (set row at high) (at + 1) low) (at + 1) 0 ≡ low = get_or-set_same (set row at high) (at + 1) low 0 l in
      rw (a, b) (omega arith)

  -- no number at another place differs
  pub with_other : (j : ℕ) → ¬ (j ≡ at) → ¬ (j ≡ at + 1) → get_or (with_sum at n row) j 0 ≡ get_or row j 0
  unfolding with_sum
  with_other j h k = get_or-set_other (set row at (n / 4294967296)) (at + 1) j (n % 4294967296) 0 k ∙ get_or-set_other row at j (n / 4294967296) 0 h

  pub with_apart : (to : ℕ) → at + 2 ≤ to → sum_of to (with_sum at n row) ≡ sum_of to row
  unfolding sum_of
  with_apart to h = rw (with_other to (λ e. omega arith) (λ e. omega arith), with_other (to + 1) (λ e. omega arith) (λ e. omega arith))

  pub with_before : (to : ℕ) → to + 2 ≤ at → sum_of to (with_sum at n row) ≡ sum_of to row
  unfolding sum_of
  with_before to h = rw (with_other to (λ e. omega arith) (λ e. omega arith), with_other (to + 1) (λ e. omega arith) (λ e. omega arith))

  -- what stands in front of the sums stays
  pub with_front : front_width ≤ at → SameFront row (with_sum at n row)
  unfolding with_sum
  with_front h =
      front_of row (with_sum at n row)
      (take-set-le front_width (set row at (n / 4294967296)) (at + 1) (n % 4294967296) (omega arith) ∙ take-set-le front_width row at (n / 4294967296) h)

-- ---- the row of a step, whose sums have grown by a and b
module _ (a b : ℕ) (row : List ℕ) where
  abbrev grown : List ℕ
  grown = added drain_at b (added runoff_at a row)

  pub grown_length : length grown ≡ length row
  unfolding added
  grown_length = with_length drain_at _ (added runoff_at a row) ∙ with_length runoff_at _ row

  pub grown_front : SameFront row grown
  unfolding added
  grown_front = front_on (with_front runoff_at _ row (omega arith)) (with_front drain_at _ (added runoff_at a row) (omega arith))

  module _ (long : drain_at + 2 ≤ length row) where
    pub grown_runoff : sum_of runoff_at grown ≡ sum_of runoff_at row + a
    unfolding added
    grown_runoff = with_before drain_at _ (added runoff_at a row) runoff_at (omega arith) ∙ with_same runoff_at (sum_of runoff_at row + a) row (omega arith)

    pub grown_drain : sum_of drain_at grown ≡ sum_of drain_at row + b
    unfolding added
    grown_drain =
        with_same drain_at (sum_of drain_at (added runoff_at a row) + b) (added runoff_at a row) (omega (arith, with_length runoff_at (sum_of runoff_at row + a) row))
        ∙ ap (λ (k : ℕ). k + b) (with_apart runoff_at (sum_of runoff_at row + a) row drain_at (omega arith))

-- ---- a row whose sums have been collected
module _ (row : List ℕ) where
  pub emptied_length : length (emptied row) ≡ length row
  unfolding emptied
  emptied_length = with_length drain_at 0 (with_sum runoff_at 0 row) ∙ with_length runoff_at 0 row

  pub emptied_front : SameFront row (emptied row)
  unfolding emptied
  emptied_front = front_on (with_front runoff_at 0 row (omega arith)) (with_front drain_at 0 (with_sum runoff_at 0 row) (omega arith))

  -- no number but those of the sums differs
  pub emptied_other : (j : ℕ) → ¬ ((runoff_at ≤ j) × (j < runoff_at + sum_numbers)) → get_or (emptied row) j 0 ≡ get_or row j 0
  unfolding emptied
  emptied_other j n =
      with_other drain_at 0 (with_sum runoff_at 0 row) j (λ (e : j ≡ drain_at). n (omega arith)) (λ (e : j ≡ drain_at + 1). n (omega arith))
      ∙ with_other runoff_at 0 row j (λ (e : j ≡ runoff_at). n (omega arith)) (λ (e : j ≡ runoff_at + 1). n (omega arith))

  module _ (long : drain_at + 2 ≤ length row) where
    pub emptied_runoff : sum_of runoff_at (emptied row) ≡ 0
    unfolding emptied
    emptied_runoff = with_before drain_at 0 (with_sum runoff_at 0 row) runoff_at (omega arith) ∙ with_same runoff_at 0 row (omega arith)

    pub emptied_drain : sum_of drain_at (emptied row) ≡ 0
    unfolding emptied
    emptied_drain = with_same drain_at 0 (with_sum runoff_at 0 row) (omega (arith, with_length runoff_at 0 row))

-- ---- a row without sums, and one with nothing in them
pub no_sum : (at : ℕ) (row : List ℕ) → get_or row at 0 ≡ 0 → get_or row (at + 1) 0 ≡ 0 → sum_of at row ≡ 0
unfolding sum_of
no_sum at row e f = omega arith

-- a row that ends before a sum holds nothing there
pub short_sum : (at : ℕ) (row : List ℕ) → length row ≤ at → sum_of at row ≡ 0
short_sum at row l = no_sum at row (get_or-eq_default row 0 l) (get_or-eq_default row 0 (omega arith))

pub none_held : (row : List ℕ) → sum_of runoff_at row ≡ 0 → sum_of drain_at row ≡ 0 → no_sums row ≡ true
unfolding no_sums
none_held row e f = rw (eq-eqb _ _ e, eq-eqb _ _ f)

pub none_told : (row : List ℕ) → no_sums row ≡ true → (sum_of runoff_at row ≡ 0) × (sum_of drain_at row ≡ 0)
unfolding no_sums
none_told row e =
    let p = (and-eq-true_iff (eqb (sum_of runoff_at row) 0) (eqb (sum_of drain_at row) 0)).0 e in
    (eqb-true _ _ p.0, eqb-true _ _ p.1)

-- a row that begins the same, with nothing in its sums, is in range too
pub form_moved : (m : ℕ) {row row' : List ℕ} → form_ok m row ≡ true → SameFront row row' → front_width ≤ length row' → sum_of runoff_at row' ≡ 0 → sum_of drain_at row' ≡ 0 → form_ok m row' ≡ true
form_moved m {row} {row'} e f l a b =
    let h = form_in m row e in
    form_ok_lem m row' (record {
      least = l;
      life = rw f.life h.life;
      next = rw f.next h.next;
      slots = rw f.slots h.slots;
      runoff = omega arith;
      drain = omega arith;
    })
