-- Entries of one cell and life whose counts run on: what the form says of those held, as a list. Assumes nothing.
use Rattle.std.specs.Prelude.{◌≡◌, true, ◌⊎◌, List, [], ◌∷◌, ◌++◌, ℕ, zero, suc, ◌+◌, ◌-◌, ◌≤◌, ◌<◌, length, take, drop, replicate}
use Rattle.std.proofs.Math.Path.{refl}
use Rattle.std.proofs.Common.{inl, inr, add-zero, arith, le-leb, lit<, drop_at}
use Rattle.std.proofs.Math.Bool.{and-eq-true_iff}
use Rattle.std.proofs.Math.Numerals.{add-one}
use Rattle.head.specs.PatternLaws.{there_and_back}
use Rattle.cell.specs.declared.Entry.{Entry}
use Rattle.cell.specs.Ranges.{notice_of}
use Rattle.outbox.specs.Outbox.{notice, same, padded, held_of, box_of, oldest_of, spare, is_zero, is_spare, numbers_ok, in_turn, all_spare, form_ok}
use Rattle.outbox.specs.Laws.{same_is, same_self, held_is}

-- x stands somewhere in the list
abbrev pub Among : {A : Type 0} → A → List A → Type 0
Among x [] = ⊥
Among x (y ∷ ys) = (x ≡ y) ⊎ Among x ys

abbrev pub itself : Entry → Entry
itself e = e

module _ {A : Type 0} (entry : A → Entry) (cell life : ℕ) where
  abbrev pub Counted : ℕ → List A → Type 0
  Counted c [] = Unit {0}
  Counted c (x ∷ xs) = (notice_of (entry x) ≡ notice cell life c) × Counted (suc c) xs

  pub counted_more : (c : ℕ) (xs : List A) (x : A) → Counted c xs → notice_of (entry x) ≡ notice cell life (c + length xs) → Counted c (xs ++ (x ∷ []))
  counted_more c [] x k e = (rw (add-zero c) at e, tt)
  counted_more c (y ∷ xs) x k e = (k.0, counted_more (suc c) xs x k.1 (let n : c + suc (length xs) ≡ suc c + length xs = omega arith in rw n at e))

  pub counted_drop : (c k : ℕ) (xs : List A) → Counted c xs → Counted (c + k) (drop k xs)
  counted_drop c zero xs h = rw (add-zero c) h
  counted_drop c (suc k) [] h = tt
  counted_drop c (suc k) (x ∷ xs) h = let n : c + suc k ≡ suc c + k = omega arith in rw n (counted_drop (suc c) k xs h.1)

  pub counted_take : (c k : ℕ) (xs : List A) → Counted c xs → Counted c (take k xs)
  counted_take c zero xs h = tt
  counted_take c (suc k) [] h = tt
  counted_take c (suc k) (x ∷ xs) h = (h.0, counted_take (suc c) k xs h.1)

  -- what stands there has one of the counts, and each count stands there
  pub counted_in : (c : ℕ) (xs : List A) (x : A) → Counted c xs → Among x xs → (i : ℕ) × (i < length xs) × (notice_of (entry x) ≡ notice cell life (c + i))
  counted_in c [] x h e = elim e [ ]
  counted_in c (y ∷ xs) x h (inl e) = (0, omega arith, rw (e, add-zero c) h.0)
  counted_in c (y ∷ xs) x h (inr m) =
      let r = counted_in (suc c) xs x h.1 m in
      let n : c + suc r.0 ≡ suc c + r.0 = omega arith in
      (suc r.0, omega (arith, r.1), rw n r.2)

  pub counted_has : (c : ℕ) (xs : List A) → Counted c xs → (i : ℕ) → i < length xs → (x : A) × Among x xs × (notice_of (entry x) ≡ notice cell life (c + i))
  counted_has c [] h i l = absurd (omega arith)
  counted_has c (x ∷ xs) h zero l = (x, inl refl, rw (add-zero c) h.0)
  counted_has c (x ∷ xs) h (suc i) l =
      let r = counted_has (suc c) xs h.1 i (omega arith) in
      let n : c + suc i ≡ suc c + i = omega arith in
      (r.0, inr r.1, rw n r.2)

-- ---- the form, by what is held
module _ (cell life : ℕ) where
  pub turn_counts : (c : ℕ) (ps : List Entry) → in_turn cell life c ps ≡ true → Counted itself cell life c ps
  unfolding in_turn
  turn_counts c [] e = tt
  turn_counts c (p ∷ ps) e =
      let t = (and-eq-true_iff (same (notice_of p) (notice cell life c)) (in_turn cell life (c + 1) ps)).0 e in
      (same_is (notice_of p) (notice cell life c) t.0, turn_counts (suc c) ps (rw (add-one c) at t.1))

  counts_turn : (c : ℕ) (ps : List Entry) → Counted itself cell life c ps → in_turn cell life c ps ≡ true
  unfolding in_turn
  counts_turn c [] h = refl
  counts_turn c (p ∷ ps) h = rw (h.0, same_self (notice cell life c), add-one c) (counts_turn (suc c) ps h.1)

zero_spare : is_spare spare ≡ true
unfolding is_zero
zero_spare = rw (there_and_back 0 (lit< tt))

spares_ok : (m : ℕ) → all_spare (replicate m spare) ≡ true
unfolding all_spare
spares_ok zero = refl
spares_ok (suc m) = rw zero_spare (spares_ok m)

-- what stands behind those held in an outbox made of a list
rest_of : (cell life next : ℕ) (ps : List Entry) → drop (box_of cell life next ps).held (box_of cell life next ps).places ≡ replicate (30 - length ps) spare
unfolding box_of padded
rest_of cell life next ps = drop_at ps (replicate (30 - length ps) spare) (length ps) refl

numbers_of : (cell life next : ℕ) (ps : List Entry) → cell ≤ 255 → life ≤ 65535 → next ≤ 1000000 → length ps ≤ 30 → length ps ≤ next → numbers_ok (box_of cell life next ps) ≡ true
unfolding numbers_ok box_of
numbers_of cell life next ps c l n k w = rw (le-leb cell 255 c, le-leb life 65535 l, le-leb next 1000000 n, le-leb (length ps) 30 k, le-leb (length ps) next w)

turn_of : (cell life next : ℕ) (ps : List Entry) → Counted itself cell life (next - length ps) ps
    → in_turn (box_of cell life next ps).cell (box_of cell life next ps).life (oldest_of (box_of cell life next ps)) (held_of (box_of cell life next ps)) ≡ true
unfolding box_of
turn_of cell life next ps h = rw (held_is cell life next ps) (counts_turn cell life (next - length ps) ps h)

-- entries with counts up to the next one make an outbox in its form
pub form_of : (cell life next : ℕ) (ps : List Entry) → cell ≤ 255 → life ≤ 65535 → next ≤ 1000000 → length ps ≤ 30 → length ps ≤ next → Counted itself cell life (next - length ps) ps
    → form_ok (box_of cell life next ps) ≡ true
unfolding form_ok
form_of cell life next ps c l n k w h = rw (numbers_of cell life next ps c l n k w, turn_of cell life next ps h, rest_of cell life next ps) (spares_ok (30 - length ps))
