-- Laws of the queue: a step's moves slot by slot, in total and in length; and the range of the slots. Assumes nothing.
use Rattle.std.specs.Prelude.{◌≡◌, refl, Bool, true, false, cond, List, [], ◌∷◌, ◌++◌, ℕ, zero, suc, ◌+◌, ◌-◌, ◌*◌, ◌≤◌, ◌<◌, leb, eqb, length, get_or, take, drop, set, replicate}
use Rattle.std.proofs.Common.{ap, arith, le_of_suc-le-suc, not-suc-le-zero, eq-eqb, ne_eqb, le-leb, leb-true, length-set, length-append}
use Rattle.std.proofs.Math.Bool.{and-eq-true_iff}
use Rattle.std.proofs.Math.Nat.{sub-zero}
use Rattle.std.proofs.Math.Dec.{eqb-suc-suc}
use Rattle.std.proofs.lemmas.List.{set-get_or}
use Rattle.cell.specs.Ranges.{slots_ok}
use Rattle.cell.specs.Queue.{slot, just, total, shifted, taken, spared, joined}

-- ---- the shift
padded : (q : List ℕ) (i : ℕ) → get_or (q ++ (0 ∷ [])) i 0 ≡ get_or q i 0
padded [] zero = refl
padded [] (suc i) = refl
padded (s ∷ q) zero = refl
padded (s ∷ q) (suc i) = padded q i

pub slot_shifted : (q : List ℕ) (i : ℕ) → slot (shifted q) (suc i) ≡ slot q (suc (suc i))
unfolding slot shifted
slot_shifted [] i = refl
slot_shifted (s ∷ q) i = padded q i

padded_total : (q : List ℕ) → total (q ++ (0 ∷ [])) ≡ total q
unfolding total
padded_total [] = refl
padded_total (s ∷ q) = ap (λ (n : ℕ). s + n) (padded_total q)

pub total_shifted : (q : List ℕ) → slot q 1 + total (shifted q) ≡ total q
unfolding slot total shifted
total_shifted [] = refl
total_shifted (s ∷ q) = ap (λ (n : ℕ). s + n) (padded_total q)

pub length_shifted : (q : List ℕ) → length (shifted q) ≡ length q
unfolding shifted
length_shifted [] = refl
length_shifted (s ∷ q) = omega (arith, length-append q (0 ∷ []))

-- ---- the draw
pub slot_spared : (lack : ℕ) (q : List ℕ) (i : ℕ) → slot (taken lack q) i + slot (spared lack q) i ≡ slot q i
unfolding slot taken spared
slot_spared lack q zero = refl
slot_spared lack q (suc i) = go lack q i
  where
    go : (lack : ℕ) (q : List ℕ) (i : ℕ) → get_or (taken lack q) i 0 + get_or (spared lack q) i 0 ≡ get_or q i 0
    go lack [] i = refl
    go lack (s ∷ q) zero = omega arith
    go lack (s ∷ q) (suc i) = go (lack - s) q i

-- where nothing is lacking the slots stay
pub spared_none : (q : List ℕ) → spared 0 q ≡ q
unfolding spared
spared_none [] = refl
spared_none (s ∷ q) = let e : 0 - s ≡ 0 = omega arith in rw (e, sub-zero, spared_none q)

pub total_spared : (lack : ℕ) (q : List ℕ) → total (taken lack q) + total (spared lack q) ≡ total q
unfolding total taken spared
total_spared lack [] = refl
total_spared lack (s ∷ q) = omega (arith, total_spared (lack - s) q)

pub taken_le : (lack : ℕ) (q : List ℕ) → total (taken lack q) ≤ lack
unfolding total taken
taken_le lack [] = omega arith
taken_le lack (s ∷ q) = omega (arith, taken_le (lack - s) q)

pub length_taken : (lack : ℕ) (q : List ℕ) → length (taken lack q) ≡ length q
unfolding taken
length_taken lack [] = refl
length_taken lack (s ∷ q) = ap suc (length_taken (lack - s) q)

pub length_spared : (lack : ℕ) (q : List ℕ) → length (spared lack q) ≡ length q
unfolding spared
length_spared lack [] = refl
length_spared lack (s ∷ q) = ap suc (length_spared (lack - s) q)

-- ---- the deposit
pub just_same : (a b f : ℕ) → a ≡ b → just a b f ≡ f
just_same a b f e = rw (eq-eqb a b e)

pub just_other : (a b f : ℕ) → ¬ (a ≡ b) → just a b f ≡ 0
just_other a b f e = rw (ne_eqb a b e)

pub just_none : (a b : ℕ) → just a b 0 ≡ 0
just_none a b = go (eqb a b)
  where
    go : (t : Bool) → ◌≡◌ {A = ℕ} (cond t 0 0) 0
    go true = refl
    go false = refl

pub just_suc : (a b f : ℕ) → just (suc a) (suc b) f ≡ just a b f
just_suc a b f = rw (eqb-suc-suc a b)

added : (q : List ℕ) (i f j : ℕ) → i < length q → get_or (set q i (get_or q i 0 + f)) j 0 ≡ get_or q j 0 + just i j f
added [] i f j h = absurd (not-suc-le-zero h)
added (s ∷ q) zero f zero h = refl
added (s ∷ q) zero f (suc j) h = omega (arith, just_other 0 (suc j) f (λ e. omega arith))
added (s ∷ q) (suc i) f zero h = omega (arith, just_other (suc i) 0 f (λ e. omega arith))
added (s ∷ q) (suc i) f (suc j) h = omega (arith, added q i f j (le_of_suc-le-suc h), just_suc i j f)

added_total : (q : List ℕ) (i f : ℕ) → i < length q → total (set q i (get_or q i 0 + f)) ≡ total q + f
unfolding total
added_total [] i f h = absurd (not-suc-le-zero h)
added_total (s ∷ q) zero f h = omega arith
added_total (s ∷ q) (suc i) f h = omega (arith, added_total q i f (le_of_suc-le-suc h))

pub slot_joined : (k f : ℕ) (q : List ℕ) → k ≤ length q → (i : ℕ) → slot (joined k f q) (suc i) ≡ slot q (suc i) + just k (suc i) f
unfolding slot joined
slot_joined zero f q h i = omega (arith, just_other 0 (suc i) f (λ e. omega arith))
slot_joined (suc k) f q h i = omega (arith, added q k f i h, just_suc k i f)

pub total_joined : (k f : ℕ) (q : List ℕ) → k ≤ length q → (k ≡ 0 → f ≡ 0) → total (joined k f q) ≡ total q + f
unfolding joined
total_joined zero f q h z = omega (arith, z refl)
total_joined (suc k) f q h z = added_total q k f h

-- a deposit adds at most what it brings
pub joined_le : (k f : ℕ) (q : List ℕ) → k ≤ length q → total (joined k f q) ≤ total q + f
unfolding joined
joined_le zero f q h = omega arith
joined_le (suc k) f q h = omega (arith, added_total q k f h)

-- where nothing joins the slots stay
pub joined_none : (k : ℕ) (q : List ℕ) → joined k 0 q ≡ q
unfolding joined
joined_none zero q = refl
joined_none (suc i) q = let e : get_or q i 0 + 0 ≡ get_or q i 0 = omega arith in rw (e, set-get_or)

pub length_joined : (k f : ℕ) (q : List ℕ) → length (joined k f q) ≡ length q
unfolding joined
length_joined zero f q = refl
length_joined (suc k) f q = length-set q k (get_or q k 0 + f)

-- ---- the range of the slots: the first at most 2,000,000 x m, each after it 2,000,000 less
unfoldable pub SlotsIn : ℕ → List ℕ → Type 0
SlotsIn m [] = Unit {0}
SlotsIn m (s ∷ q) = (s ≤ 2000000 * m) × SlotsIn (m - 1) q

pub slots_in : (m : ℕ) (q : List ℕ) → slots_ok m q ≡ true → SlotsIn m q
unfolding slots_ok SlotsIn
slots_in m [] e = tt
slots_in m (s ∷ q) e =
    let p = (and-eq-true_iff (leb s (2000000 * m)) (slots_ok (m - 1) q)).0 e in
    (leb-true _ _ p.0, slots_in (m - 1) q p.1)

pub slots_ok_lem : (m : ℕ) (q : List ℕ) → SlotsIn m q → slots_ok m q ≡ true
unfolding slots_ok SlotsIn
slots_ok_lem m [] h = refl
slots_ok_lem m (s ∷ q) h = rw (le-leb s (2000000 * m) h.0) (slots_ok_lem (m - 1) q h.1)

-- the range of one slot, and of all together
pub slot_in : (m k : ℕ) (q : List ℕ) → SlotsIn m q → slot q (suc k) ≤ 2000000 * (m - k)
unfolding slot SlotsIn
slot_in m k q h = go m k q h
  where
    go : (m k : ℕ) (q : List ℕ) → SlotsIn m q → get_or q k 0 ≤ 2000000 * (m - k)
    go m k [] h = omega arith
    go m zero (s ∷ q) h = omega (arith, h.0)
    go m (suc k) (s ∷ q) h = omega (arith, go (m - 1) k q h.1)

pub total_in : (m : ℕ) (q : List ℕ) → m ≤ 30 → SlotsIn m q → total q ≤ 60000000 * length q
unfolding total SlotsIn
total_in m [] l h = omega arith
total_in m (s ∷ q) l h = omega (arith, h.0, total_in (m - 1) q (omega arith) h.1)

in_up : (n m : ℕ) (q : List ℕ) → n ≤ m → SlotsIn n q → SlotsIn m q
unfolding SlotsIn
in_up n m [] l h = tt
in_up n m (s ∷ q) l h = (omega (arith, h.0), in_up (n - 1) (m - 1) q (omega arith) h.1)

padded_in : (m : ℕ) (q : List ℕ) → SlotsIn m q → SlotsIn m (q ++ (0 ∷ []))
unfolding SlotsIn
padded_in m [] h = (omega arith, tt)
padded_in m (s ∷ q) h = (h.0, padded_in (m - 1) q h.1)

-- after the shift each slot has the range of the next one
pub shifted_in : (m : ℕ) (q : List ℕ) → SlotsIn m q → SlotsIn (m - 1) (shifted q)
unfolding SlotsIn shifted
shifted_in m [] h = tt
shifted_in m (s ∷ q) h = padded_in (m - 1) q h.1

pub spared_in : (m lack : ℕ) (q : List ℕ) → SlotsIn m q → SlotsIn m (spared lack q)
unfolding SlotsIn spared
spared_in m lack [] h = tt
spared_in m lack (s ∷ q) h = (omega (arith, h.0), spared_in (m - 1) (lack - s) q h.1)

put_in : (m i f : ℕ) (q : List ℕ) → i < m → f ≤ 2000000 → SlotsIn (m - 1) q → SlotsIn m (set q i (get_or q i 0 + f))
unfolding SlotsIn
put_in m i f [] l b h = tt
put_in m zero f (s ∷ q) l b h = (omega (arith, h.0), in_up (m - 1 - 1) (m - 1) q (omega arith) h.1)
put_in m (suc i) f (s ∷ q) l b h = (omega (arith, h.0), put_in (m - 1) i f q (omega arith) b h.1)

-- a deposit of at most 2,000,000 brings the slots back into their range
pub joined_in : (m k f : ℕ) (q : List ℕ) → k ≤ m → f ≤ 2000000 → SlotsIn (m - 1) q → SlotsIn m (joined k f q)
unfolding joined
joined_in m zero f q l b h = in_up (m - 1) m q (omega arith) h
joined_in m (suc i) f q l b h = put_in m i f q l b h

-- a first part of the slots, what comes after it, and the two put together
pub take_in : (m n : ℕ) (q : List ℕ) → SlotsIn m q → SlotsIn m (take n q)
unfolding SlotsIn
take_in m zero q h = tt
take_in m (suc n) [] h = tt
take_in m (suc n) (s ∷ q) h = (h.0, take_in (m - 1) n q h.1)

pub drop_in : (m n : ℕ) (q : List ℕ) → SlotsIn m q → SlotsIn (m - n) (drop n q)
unfolding SlotsIn
drop_in m zero q h = rw sub-zero h
drop_in m (suc n) [] h = tt
drop_in m (suc n) (s ∷ q) h = let e : m - suc n ≡ m - 1 - n = omega arith in rw e (drop_in (m - 1) n q h.1)

pub append_in : (m n : ℕ) (q q' : List ℕ) → length q ≡ n → SlotsIn m q → SlotsIn (m - n) q' → SlotsIn m (q ++ q')
unfolding SlotsIn
append_in m n [] q' l h k = let e : m - n ≡ m = omega arith in rw e at k
append_in m n (s ∷ q) q' l h k =
    let e : m - n ≡ m - 1 - length q = omega arith in
    (h.0, append_in (m - 1) (length q) q q' refl h.1 (rw e at k))

-- ---- slots and totals, place by place: what a caller computes with instead of the definitions
pub slot_none : (q : List ℕ) → slot q 0 ≡ 0
unfolding slot
slot_none q = refl

pub slot_empty : (k : ℕ) → slot [] k ≡ 0
unfolding slot
slot_empty zero = refl
slot_empty (suc i) = refl

pub slot_head : (s : ℕ) (q : List ℕ) → slot (s ∷ q) 1 ≡ s
unfolding slot
slot_head s q = refl

pub slot_tail : (s : ℕ) (q : List ℕ) (i : ℕ) → slot (s ∷ q) (suc (suc i)) ≡ slot q (suc i)
unfolding slot
slot_tail s q i = refl

pub total_empty : total [] ≡ 0
unfolding total
total_empty = refl

pub total_more : (s : ℕ) (q : List ℕ) → total (s ∷ q) ≡ s + total q
unfolding total
total_more s q = refl

-- a cleared queue holds nothing
zeros : (m i : ℕ) → ◌≡◌ {A = ℕ} (get_or (replicate m 0) i 0) 0
zeros zero i = refl
zeros (suc m) zero = refl
zeros (suc m) (suc i) = zeros m i

pub slot_cleared : (m k : ℕ) → slot (replicate m 0) k ≡ 0
unfolding slot
slot_cleared m zero = refl
slot_cleared m (suc i) = zeros m i

pub first_zeros : (m n : ℕ) → m ≤ n → ◌≡◌ {A = List ℕ} (take m (replicate n 0)) (replicate m 0)
first_zeros zero n h = refl
first_zeros (suc m) zero h = absurd (not-suc-le-zero h)
first_zeros (suc m) (suc n) h = ap (λ (t : List ℕ). 0 ∷ t) (first_zeros m n (le_of_suc-le-suc h))

pub total_cleared : (m : ℕ) → total (replicate m 0) ≡ 0
unfolding total
total_cleared zero = refl
total_cleared (suc m) = omega (arith, total_cleared m)
