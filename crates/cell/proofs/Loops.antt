-- One turn, and the end, of each loop over a list: what the loops' invariants go by. Assumes nothing.
use Rattle.std.proofs.Common.{◌≡◌, refl, ap, sym, ◌∙◌, List, [], ◌∷◌, ◌++◌, append_assoc, Bool, ◌&&◌, ℕ, zero, suc, ◌+◌, ◌-◌, ◌*◌, ◌<◌, ◌≤◌, min, add-one, arith, le-leb, ne_eqb, length, get_or, take, drop, set, take-append-drop, drop_of_length-le, length-drop, take_all, drop-cons, drop-set-lt, take-suc-set, leb, ltb, eqb, ◌⊎◌, sum, inl, inr, zero-add}
use Rattle.std.proofs.Math.Bool.{and_assoc, and-true}
use borrow.Author.Tests.{lt-leb}
use Rattle.std.proofs.Math.Seq.{set-append_seam, paste}
use Rattle.std.proofs.lemmas.List.Sums.{sum_by-cons}
use Rattle.cell.specs.Ranges.{none_of, rising_from, slots_ok}
use Rattle.cell.specs.Parts.{held_under}
use Rattle.cell.specs.Rules.{reach_of}
use Rattle.cell.specs.Queue.{slot, total, shifted, taken, spared, joined}

-- the rest of a list from a place is all of it from there
pub rest_is : {A : Type 0} (at : ℕ) (l : List A) → take (length l - at) (drop at l) ≡ drop at l
rest_is at l = take_all (length l - at) (drop at l) (omega (arith, length-drop at l))

-- ---- a test of each number, gathered: what is known so far and the test of the rest come to the test of all
pub none_turn : (ok : Bool) (i : ℕ) (v : List ℕ) → i < length v → (ok && none_of (drop i v)) ≡ ((ok && eqb (get_or v i 0) 0) && none_of (drop (i + 1) v))
unfolding none_of
none_turn ok i v h = rw (drop-cons v i 0 h, add-one i) (sym (and_assoc ok (eqb (get_or v i 0) 0) (none_of (drop (suc i) v))))

pub none_end : (ok : Bool) (i : ℕ) (v : List ℕ) → length v ≤ i → (ok && none_of (drop i v)) ≡ ok
unfolding none_of
none_end ok i v h = rw (drop_of_length-le v h) (and-true ok)

pub rising_turn : (ok : Bool) (p i : ℕ) (v : List ℕ) → i < length v
    → (ok && rising_from p (drop i v)) ≡ ((ok && (ltb p (get_or v i 0) && leb (get_or v i 0) 1000000000)) && rising_from (get_or v i 0) (drop (i + 1) v))
unfolding rising_from
rising_turn ok p i v h = rw (drop-cons v i 0 h, add-one i) (sym (and_assoc ok (ltb p (get_or v i 0) && leb (get_or v i 0) 1000000000) (rising_from (get_or v i 0) (drop (suc i) v))))

pub rising_end : (ok : Bool) (p i : ℕ) (v : List ℕ) → length v ≤ i → (ok && rising_from p (drop i v)) ≡ ok
unfolding rising_from
rising_end ok p i v h = rw (drop_of_length-le v h) (and-true ok)

pub held_turn : (ok : Bool) (l i : ℕ) (v : List ℕ) → i < length v → (ok && held_under l (drop i v)) ≡ ((ok && leb (get_or v i 0) l) && held_under (l - 2000000) (drop (i + 1) v))
unfolding held_under
held_turn ok l i v h = rw (drop-cons v i 0 h, add-one i) (sym (and_assoc ok (leb (get_or v i 0) l) (held_under (l - 2000000) (drop (suc i) v))))

pub held_end : (ok : Bool) (l i : ℕ) (v : List ℕ) → length v ≤ i → (ok && held_under l (drop i v)) ≡ ok
unfolding held_under
held_end ok l i v h = rw (drop_of_length-le v h) (and-true ok)

-- the slots in range are those in use below their limits and the others 0
at_most_none : (s : ℕ) → leb s 0 ≡ eqb s 0
at_most_none zero = refl
at_most_none (suc s) = lt-leb (suc s) 0 (omega arith) ∙ sym (ne_eqb (suc s) 0 (λ z. omega arith))

pub slots_split : (m : ℕ) (q : List ℕ) → slots_ok m q ≡ (held_under (2000000 * m) (take m q) && none_of (drop m q))
unfolding slots_ok none_of held_under
slots_split zero [] = refl
slots_split (suc m) [] = refl
slots_split zero (s ∷ ss) = rw (at_most_none s) (ap (λ (b : Bool). eqb s 0 && b) (slots_split zero ss))
slots_split (suc m) (s ∷ ss) =
    let e : suc m - 1 ≡ m = omega arith in
    let l : 2000000 * suc m - 2000000 ≡ 2000000 * m = omega arith in
    rw (e, l, slots_split m ss) (sym (and_assoc (leb s (2000000 * suc m)) (held_under (2000000 * m) (take m ss)) (none_of (drop m ss))))

-- ---- the sum of the slots
pub total_sum : (q : List ℕ) → sum q ≡ total q
unfolding total
total_sum [] = refl
total_sum (s ∷ q) = sum_by-cons (λ x. x) s q ∙ ap (λ (n : ℕ). s + n) (total_sum q)

-- ---- the delay: found at k, or as before
pub reach_hit : (ds : List ℕ) (k n : ℕ) → get_or ds k 0 ≤ n → reach_of ds (k + 1) n ≡ k + 1
unfolding reach_of
reach_hit ds k n t = rw (add-one, le-leb _ _ t)

pub reach_miss : (ds : List ℕ) (k n : ℕ) → n < get_or ds k 0 → reach_of ds (k + 1) n ≡ reach_of ds k n
unfolding reach_of
reach_miss ds k n t = rw (add-one, lt-leb _ _ t)

-- ---- a loop that stores from the front: what is done, then what the rest is to become
put_step : (F : List ℕ → List ℕ) (q : List ℕ) (i v : ℕ) → i < length q → take (i + 1) (set q i v) ++ F (drop (i + 1) (set q i v)) ≡ take i q ++ (v ∷ F (drop (i + 1) q))
put_step F q i v h =
    let k : i < i + 1 = omega arith in
    rw (drop-set-lt (i + 1) q i v k, add-one, take-suc-set q i v, append_assoc)

-- the shift: all but the first, one place down, and a 0 in the last
pub shift_none : (q : List ℕ) → length q ≡ 0 → (0 ≡ slot q 1) × (q ≡ shifted q)
unfolding slot shifted
shift_none [] e = (refl, refl)
shift_none (s ∷ q) e = absurd (omega arith)

pub shift_is : (q : List ℕ) → 0 < length q → set (paste q 0 (drop 1 q) (length q - 1)) (length q - 1) 0 ≡ shifted q
unfolding shifted
shift_is [] h = absurd (omega arith)
shift_is (s ∷ q) h =
    let n : length q ≡ length (s ∷ q) - 1 = omega arith in
    let y : ℕ = get_or (s ∷ q) (length q) 0 in
    let t : drop (length q) (s ∷ q) ≡ y ∷ [] =
    drop-cons (s ∷ q) (length q) 0 (omega arith) ∙ ap (λ (l : List ℕ). y ∷ l) (drop_of_length-le q (omega arith)) in
    let e : set (paste (s ∷ q) 0 q (length q)) (length q) 0 ≡ q ++ (0 ∷ []) = rw (zero-add, take_all (length q) q (omega arith), t) (set-append_seam q y [] 0) in
    rw (← n) e

-- the draw: one turn of what is left in the slots, and of what was drawn
spared_at : (w i : ℕ) (q : List ℕ) → i < length q → spared w (drop i q) ≡ (get_or q i 0 - w) ∷ spared (w - get_or q i 0) (drop (i + 1) q)
unfolding spared
spared_at w i q l = rw (drop-cons q i 0 l, add-one)

taken_at : (w i : ℕ) (q : List ℕ) → i < length q → total (taken w (drop i q)) ≡ min w (get_or q i 0) + total (taken (w - get_or q i 0) (drop (i + 1) q))
unfolding taken total
taken_at w i q l = rw (drop-cons q i 0 l, add-one)

pub spared_turn : (w i v w' : ℕ) (q goal : List ℕ) → i < length q → v ≡ get_or q i 0 - w → w' ≡ w - get_or q i 0 → take i q ++ spared w (drop i q) ≡ goal
    → take (i + 1) (set q i v) ++ spared w' (drop (i + 1) (set q i v)) ≡ goal
spared_turn w i v w' q goal h ev ew e =
    put_step (spared w') q i v h ∙ ap (λ (t : List ℕ). take i q ++ t) (rw (ev, ew) (sym (spared_at w i q h))) ∙ e

pub taken_turn : (asked w i v w' n : ℕ) (q : List ℕ) → i < length q → w ≤ asked → w' ≡ w - get_or q i 0 → asked - w + total (taken w (drop i q)) ≡ n
    → asked - w' + total (taken w' (drop (i + 1) (set q i v))) ≡ n
taken_turn asked w i v w' n q h b ew e =
    let k : i < i + 1 = omega arith in
    rw (drop-set-lt (i + 1) q i v k, ew) (omega (arith, taken_at w i q h))

-- nothing asked draws nothing
spared_none : (q : List ℕ) → spared 0 q ≡ q
unfolding spared
spared_none [] = refl
spared_none (s ∷ q) = let e : 0 - s ≡ 0 = omega arith in rw (e, spared_none q) (ap (λ (n : ℕ). n ∷ q) (omega arith))

taken_none : (q : List ℕ) → total (taken 0 q) ≡ 0
unfolding taken total
taken_none [] = refl
taken_none (s ∷ q) = let e : 0 - s ≡ 0 = omega arith in rw e (omega (arith, taken_none q))

-- and nothing is drawn past the end
spared_end : (w n : ℕ) (q : List ℕ) → length q ≤ n → spared w (drop n q) ≡ drop n q
unfolding spared
spared_end w n q h = rw (drop_of_length-le q h)

taken_end : (w n : ℕ) (q : List ℕ) → length q ≤ n → total (taken w (drop n q)) ≡ 0
unfolding taken total
taken_end w n q h = rw (drop_of_length-le q h)

pub draw_end : (asked w i n : ℕ) (q goal : List ℕ) → (length q ≤ i) ⊎ (w ≡ 0) → take i q ++ spared w (drop i q) ≡ goal → asked - w + total (taken w (drop i q)) ≡ n → (asked - w ≡ n) × (q ≡ goal)
draw_end asked w i n q goal (inl h) es et = (omega (arith, taken_end w i q h), sym (take-append-drop i q) ∙ rw (← spared_end w i q h) es)
draw_end asked w i n q goal (inr e) es et =
    let t : asked - 0 + total (taken 0 (drop i q)) ≡ n = rw e at et in
    (omega (arith, e, taken_none (drop i q)), sym (take-append-drop i q) ∙ (rw (e, spared_none) at es))

-- ---- the deposit
pub joined_is : {k i : ℕ} (f : ℕ) (q : List ℕ) → (1 ≤ k) × (i ≡ k - 1) → set q i (get_or q i 0 + f) ≡ joined k f q
unfolding joined
joined_is {k = zero} f q h = absurd (omega (arith, h.0))
joined_is {k = suc k} {i = i} f q h =
    let e : i ≡ k = omega (arith, h.1) in
    rw e

pub joined_none : {k : ℕ} (f : ℕ) (q : List ℕ) → ¬ (1 ≤ k) → q ≡ joined k f q
unfolding joined
joined_none {k = zero} f q h = refl
joined_none {k = suc k} f q h = absurd (h (omega arith))

-- no slot holds more than all together
pub total_elem : (i : ℕ) (q : List ℕ) → get_or q i 0 ≤ total q
unfolding total
total_elem i [] = omega arith
total_elem zero (s ∷ q) = omega arith
total_elem (suc i) (s ∷ q) = omega (arith, total_elem i q)
