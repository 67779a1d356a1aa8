-- An entry and an outbox come back from their numbers, and their numbers from them. Assumes nothing.
use Rattle.std.specs.Prelude.{◌≡◌, Bool, cond, List, [], ◌∷◌, ◌++◌, ℕ, zero, suc, ◌+◌, ◌*◌, ◌^◌, ◌<◌, length, take, drop, get_or, replicate}
use Rattle.std.proofs.Math.Path.{refl}
use Rattle.std.proofs.Common.{sym, ap, ◌∙◌, inl, inr, arith, eqb-true, lit<, length-append, length-drop, take-append-drop, length-take-le, drop-cons, drop-drop, take_at, drop_at, get_or-take, get_or-drop}
use Rattle.std.proofs.Math.Bool.{true, false, and-eq-true_iff}
use Rattle.std.proofs.Math.Dec.{eqb}
use Rattle.cell.specs.declared.Entry.{Entry}
use Rattle.cell.specs.declared.Notice.{Notice}
use Rattle.cell.specs.declared.Reading.{Reading}
use Rattle.shapes.specs.Shapes.{reading_from, reading_numbers, notice_from, notice_numbers}
use Rattle.shapes.specs.ShapeLaws.{reading_wide, notice_wide, head_is, reading_back, reading_there, notice_back, notice_there, zeros_from}
use Rattle.outbox.specs.declared.Outbox.{Outbox}
use Rattle.outbox.specs.Outbox.{spare}
use Rattle.outbox.specs.Counts.{Among}
use Rattle.outbox.proofs.Back.{Plain}
use Rattle.node.specs.Numbers.{entry_width, zeros, is_entry, entry_from, entry_numbers, box_width, places_from, are_entries, place_numbers, all_entries, box_from, box_numbers}

-- each number of a lent row fits its 32 bits
abbrev pub AllFit : List ℕ → Type 0
AllFit l = (i : ℕ) → get_or l i 0 < 2 ^ 32

-- each reading among these has a head that some 32 bits stand for
abbrev pub AllPlain : List Entry → Type 0
AllPlain ps = (p : Entry) → Among p ps → Plain p

-- ---- an entry
pub entry_wide : (e : Entry) → length (entry_numbers e) ≡ entry_width
unfolding entry_numbers
entry_wide (Entry.Reading r) = omega (arith, reading_wide r)
entry_wide (Entry.Void n) = omega (arith, length-append (notice_numbers n) (replicate 7 0), notice_wide n)

zeros_are : (l : List ℕ) → zeros l ≡ true → l ≡ replicate (length l) 0
unfolding zeros
zeros_are [] e = refl
zeros_are (n ∷ l) e =
    let t = (and-eq-true_iff (eqb n 0) (zeros l)).0 e in
    rw (eqb-true n 0 t.0) (ap (λ (r : List ℕ). 0 ∷ r) (zeros_are l t.1))

zeros_of : (n : ℕ) → zeros (replicate n 0) ≡ true
unfolding zeros
zeros_of zero = refl
zeros_of (suc n) = zeros_of n

-- behind a void's notice
rest_of : (n : Notice) → drop 3 (notice_numbers n ++ replicate 7 0) ≡ replicate 7 0
rest_of n = drop_at (notice_numbers n) (replicate 7 0) 3 (notice_wide n)

pub entry_is : (e : Entry) → is_entry (entry_numbers e) ≡ true
unfolding is_entry entry_numbers
entry_is (Entry.Reading r) = refl
entry_is (Entry.Void n) = rw (rest_of n) (zeros_of 7)

pub entry_back : (e : Entry) → Plain e → entry_from (entry_numbers e) ≡ e
unfolding entry_from entry_numbers
entry_back (Entry.Reading r) h = ap (λ (x : Reading). Entry.Reading x) (reading_back r h.0 h.1 h.2)
entry_back (Entry.Void n) h = ap (λ (x : Notice). Entry.Void x) (ap notice_from (take_at (notice_numbers n) (replicate 7 0) 3 (notice_wide n)) ∙ notice_back n)

module _ (l : List ℕ) (wide : length l ≡ entry_width) where
  kind_first : get_or l 0 0 ∷ drop 1 l ≡ l
  kind_first = sym (drop-cons l 0 0 (omega arith))

  reading_of_lem : get_or l 0 0 ≡ 0 → get_or l 10 0 < 2 ^ 32 → 0 ∷ reading_numbers (reading_from (drop 1 l)) ≡ l
  reading_of_lem k h =
      let b : get_or (drop 1 l) 9 0 < 2 ^ 32 = rw (get_or-drop 1 l 9 0) h in
      rw (reading_there (drop 1 l) (omega (arith, length-drop 1 l)) b) (rw k at kind_first)

  void_of_lem : get_or l 0 0 ≡ 1 → zeros (drop 4 l) ≡ true → 1 ∷ notice_numbers (notice_from (take 3 (drop 1 l))) ++ replicate 7 0 ≡ l
  void_of_lem k z =
      let n : length (drop 4 l) ≡ 7 = omega (arith, length-drop 4 l) in
      let r : replicate 7 0 ≡ drop 3 (drop 1 l) = sym (drop-drop 3 1 l ∙ zeros_are (drop 4 l) z ∙ rw n) in
      rw (notice_there (take 3 (drop 1 l)) (length-take-le 3 (drop 1 l) (omega (arith, length-drop 1 l))), r, take-append-drop 3 (drop 1 l)) (rw k at kind_first)

  pub entry_there : is_entry l ≡ true → get_or l 10 0 < 2 ^ 32 → entry_numbers (entry_from l) ≡ l
  unfolding is_entry entry_from entry_numbers
  entry_there e h = go (eqb (get_or l 0 0) 0) refl e
    where
      go : (k : Bool) → eqb (get_or l 0 0) 0 ≡ k → is_entry l ≡ true → entry_numbers (entry_from l) ≡ l
      go true q e = rw q (reading_of_lem (eqb-true (get_or l 0 0) 0 q) h)
      go false q e =
          let t = (and-eq-true_iff (eqb (get_or l 0 0) 1) (zeros (drop 4 l))).0 (rw q at e) in
          rw q (void_of_lem (eqb-true (get_or l 0 0) 1 t.0) t.1)

-- what is read has such a head
pub entry_plain : (l : List ℕ) → get_or l 10 0 < 2 ^ 32 → Plain (entry_from l)
unfolding entry_from
entry_plain l h = go (eqb (get_or l 0 0) 0)
  where
    go : (k : Bool) → Plain (cond k (Entry.Reading (reading_from (drop 1 l))) (Entry.Void (notice_from (take 3 (drop 1 l)))))
    go true = (get_or (drop 1 l) 9 0, rw (get_or-drop 1 l 9 0) h, head_is (drop 1 l))
    go false = tt

-- spare room is eleven zeros
pub spare_is : entry_numbers spare ≡ replicate entry_width 0
unfolding entry_numbers
spare_is = ap (λ (l : List ℕ). 0 ∷ l) (rw (← zeros_from) (reading_there (replicate 10 0) refl (lit< tt)))

-- ---- the places
pub places_wide : (ps : List Entry) → length (place_numbers ps) ≡ 11 * length ps
unfolding place_numbers
places_wide [] = refl
places_wide (p ∷ ps) = omega (arith, length-append (entry_numbers p) (place_numbers ps), entry_wide p, places_wide ps)

-- the first of them, and the rest
first_is : (p : Entry) (ps : List Entry) → take entry_width (place_numbers (p ∷ ps)) ≡ entry_numbers p
unfolding place_numbers
first_is p ps = take_at (entry_numbers p) (place_numbers ps) entry_width (entry_wide p)

rest_is : (p : Entry) (ps : List Entry) → drop entry_width (place_numbers (p ∷ ps)) ≡ place_numbers ps
unfolding place_numbers
rest_is p ps = drop_at (entry_numbers p) (place_numbers ps) entry_width (entry_wide p)

pub places_are : (ps : List Entry) → are_entries (length ps) (place_numbers ps) ≡ true
unfolding are_entries
places_are [] = refl
places_are (p ∷ ps) = rw (first_is p ps, rest_is p ps, entry_is p) (places_are ps)

pub places_back : (ps : List Entry) → AllPlain ps → places_from (length ps) (place_numbers ps) ≡ ps
unfolding places_from
places_back [] h = refl
places_back (p ∷ ps) h = rw (first_is p ps, rest_is p ps, entry_back p (h p (inl refl)), places_back ps (λ q m. h q (inr m)))

pub places_there : (k : ℕ) (l : List ℕ) → length l ≡ 11 * k → are_entries k l ≡ true → AllFit l → place_numbers (places_from k l) ≡ l
unfolding places_from place_numbers are_entries
places_there zero l w e f = none l w
  where
    none : (l : List ℕ) → length l ≡ 11 * 0 → [] ≡ l
    none [] w = refl
    none (x ∷ l) w = absurd (omega arith)
places_there (suc k) l w e f =
    let t = (and-eq-true_iff (is_entry (take 11 l)) (are_entries k (drop 11 l))).0 e in
    let h : get_or (take 11 l) 10 0 ≡ get_or l 10 0 = get_or-take 11 l 10 0 (omega arith) in
    let a : entry_numbers (entry_from (take 11 l)) ≡ take 11 l = entry_there (take 11 l) (length-take-le 11 l (omega arith)) t.0 (rw h (f 10)) in
    let b : place_numbers (places_from k (drop 11 l)) ≡ drop 11 l = places_there k (drop 11 l) (omega (arith, length-drop 11 l)) t.1 (λ i. rw (get_or-drop 11 l i 0) (f (11 + i))) in
    rw (a, b) (take-append-drop 11 l)

-- ---- an outbox of 30 places
module _ (b : Outbox) (places : length b.places ≡ 30) where
  pub box_wide : length (box_numbers b) ≡ box_width
  unfolding box_numbers
  box_wide = omega (arith, places_wide b.places)

  -- what a call writes is a row of entries
  pub box_is : all_entries (box_numbers b) ≡ true
  unfolding all_entries box_numbers
  box_is = rw (← places) (places_are b.places)

  pub box_back : AllPlain b.places → box_from (box_numbers b) ≡ b
  unfolding box_from box_numbers
  box_back f = let e : places_from 30 (place_numbers b.places) ≡ b.places = rw (← places) (places_back b.places f) in rw e

pub box_there : (l : List ℕ) → length l ≡ box_width → AllFit l → all_entries l ≡ true → box_numbers (box_from l) ≡ l
unfolding box_from box_numbers all_entries
box_there l w f e =
    let p : place_numbers (places_from 30 (drop 4 l)) ≡ drop 4 l = places_there 30 (drop 4 l) (omega (arith, length-drop 4 l)) e (λ i. rw (get_or-drop 4 l i 0) (f (4 + i))) in
    rw (p, ← drop-cons l 3 0 (omega arith), ← drop-cons l 2 0 (omega arith), ← drop-cons l 1 0 (omega arith), ← drop-cons l 0 0 (omega arith))

-- what is read from numbers has such heads
places_plain : (k : ℕ) (l : List ℕ) → AllFit l → AllPlain (places_from k l)
unfolding places_from
places_plain zero l f p m = absurd m
places_plain (suc k) l f p (inl e) = rw e (entry_plain (take 11 l) (rw (get_or-take 11 l 10 0 (omega arith)) (f 10)))
places_plain (suc k) l f p (inr m) = places_plain k (drop 11 l) (λ i. rw (get_or-drop 11 l i 0) (f (11 + i))) p m

pub box_plain : (l : List ℕ) → AllFit l → AllPlain (box_from l).places
unfolding box_from
box_plain l f = places_plain 30 (drop 4 l) (λ i. rw (get_or-drop 4 l i 0) (f (4 + i)))
