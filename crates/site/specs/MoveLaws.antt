-- [6] Laws of rows in another form, over the width, the place and how many numbers: each row is the one it comes from, cut anew; and back after over is the very slice. Assumes nothing.
use Rattle.std.proofs.Math.Path.{◌≡◌, refl, ap}
use Rattle.std.proofs.Common.{sym, ◌∙◌, eq-or-lt_of_le, le_of_suc-le-suc, take-append-drop, take_at, drop_at, take_all}
use Rattle.std.specs.Prelude.{Result, Ok, Err, [], ◌∷◌, Bool, cond, ◌&&◌, eqb, replicate}
use Rattle.std.proofs.Math.Bool.{true, false, and-eq-true_iff}
use Rattle.std.proofs.Math.Logic.{⊎_elim}
use mathlib.Core.List.{List, ◌++◌, append_assoc}
use Prim.Native.Nat.{ℕ, zero, suc, ◌+◌, ◌-◌, ◌*◌, ◌≤◌, ◌<◌}
use Rattle.std.proofs.Math.Nat.{mul-le-mul_left, mul-suc}
use native.Mathlib.Omega.{arith}
use Rattle.std.proofs.Common.{eqb-true, eq-eqb, ne_eqb}
use Rattle.std.proofs.Math.ListN.{length, get_or, take, drop, length-append, length-take, length-drop, length-replicate, get_or-append}
use Rattle.std.proofs.Math.Seq.{length-take-le, take-add, take-append-le, take-take, get_or-take, get_or-drop, get_or-append-add}
use Rattle.std.proofs.lemmas.List.{drop-append-le}
use Rattle.cell.specs.declared.Card.{Card}
use Rattle.cell.specs.declared.Refusal.{Refusal}
use Rattle.cell.specs.declared.Refusal.TheVariants.{BadCard, BadLengths, BadCell, BadSoil, BadRow, Old, Gap, BadReading, JammedBucket, UnusableHead, InactiveHead, FullSums}
use Rattle.cell.specs.Ranges.{card_ok, form_ok}
use Rattle.cell.specs.Sums.{no_sums}
use Rattle.site.specs.declared.moves.Unmoved.{Unmoved}
use Rattle.site.specs.declared.moves.Unmoved.TheVariants.{Refused, Uncollected}
use Rattle.site.specs.Rows.{part_at}
use Rattle.cell.specs.Collect.{list_by}
use Rattle.site.specs.Moves.{recut, width_after, recut_all, all_rows, Cut, moved_number, move_number, MoveGives}

zeros_at : (n i : ℕ) → ◌≡◌ {A = ℕ} (get_or (replicate n 0) i 0) 0
zeros_at zero i = refl
zeros_at (suc n) zero = refl
zeros_at (suc n) (suc i) = zeros_at n i

-- ---- one row
module _ (p out more : ℕ) (row : List ℕ) (fits : p + out ≤ length row) where
  pub recut_length : length (recut p out more row) ≡ width_after (length row) out more
  unfolding recut
  recut_length =
      omega (arith, length-append (take p row) (replicate more 0 ++ drop (p + out) row), length-append (replicate more 0) (drop (p + out) row), length-replicate {A = ℕ} more 0, length-drop (p + out) row, length-take-le p row (omega arith))

  -- what stands before the place stays
  pub recut_first : (k : ℕ) → k ≤ p → take k (recut p out more row) ≡ take k row
  unfolding recut
  recut_first k h =
      take-append-le k (take p row) (replicate more 0 ++ drop (p + out) row) (omega (arith, length-take-le p row (omega arith)))
      ∙ take-take k p row h

  -- number by number: before the place, among the zeros, after them
  head_long : length (take p row) ≡ p
  head_long = length-take-le p row (omega arith)

  pub recut_before : (j : ℕ) → j < p → get_or (recut p out more row) j 0 ≡ get_or row j 0
  unfolding recut
  recut_before j h = get_or-append (take p row) (replicate more 0 ++ drop (p + out) row) 0 j (omega (arith, head_long)) ∙ get_or-take p row j 0 h

  pub recut_zero : (j : ℕ) → p ≤ j → j < p + more → get_or (recut p out more row) j 0 ≡ 0
  unfolding recut
  recut_zero j h k =
      let i : ℕ = j - p in
      let e : j ≡ length (take p row) + i = omega (arith, head_long) in
      ap (λ (n : ℕ). get_or (take p row ++ (replicate more 0 ++ drop (p + out) row)) n 0) e
      ∙ get_or-append-add (take p row) (replicate more 0 ++ drop (p + out) row) i 0
      ∙ get_or-append (replicate more 0) (drop (p + out) row) 0 i (omega (arith, length-replicate {A = ℕ} more 0))
      ∙ zeros_at more i

  pub recut_after : (j : ℕ) → p + more ≤ j → get_or (recut p out more row) j 0 ≡ get_or row (j - more + out) 0
  unfolding recut
  recut_after j h =
      let i : ℕ = j - p - more in
      let e : j ≡ length (take p row) + (length (replicate {A = ℕ} more 0) + i) = omega (arith, head_long, length-replicate {A = ℕ} more 0) in
      let f : p + out + i ≡ j - more + out = omega arith in
      ap (λ (n : ℕ). get_or (take p row ++ (replicate more 0 ++ drop (p + out) row)) n 0) e
      ∙ get_or-append-add (take p row) (replicate more 0 ++ drop (p + out) row) (length (replicate {A = ℕ} more 0) + i) 0
      ∙ get_or-append-add (replicate more 0) (drop (p + out) row) i 0
      ∙ get_or-drop (p + out) row i 0
      ∙ ap (λ (n : ℕ). get_or row n 0) f

-- zeros put in and taken out again
pub recut_back : (p k : ℕ) (row : List ℕ) → p ≤ length row → recut p k 0 (recut p 0 k row) ≡ row
unfolding recut
recut_back p k row h =
    let a = take p row in
    let b = drop (p + 0) row in
    let la : length a ≡ p = length-take-le p row h in
    let z : List ℕ = replicate k 0 in
    let e : a ++ (z ++ b) ≡ (a ++ z) ++ b = sym (append_assoc a z b) in
    let f : drop (p + k) (a ++ (z ++ b)) ≡ b = ap (drop (p + k)) e ∙ drop_at (a ++ z) b (p + k) (omega (arith, length-append a z, la, length-replicate {A = ℕ} k 0)) in
    let g : p + 0 ≡ p = omega arith in
    rw (take_at a (z ++ b) p la, f, g) (take-append-drop p row)

-- ---- two slices with the same rows are the same
module _ (w : ℕ) (l l' : List ℕ) where
  firsts : (n : ℕ) → ((c : ℕ) → c < n → part_at w c l ≡ part_at w c l') → take (w * n) l ≡ take (w * n) l'
  unfolding part_at
  firsts zero h = let e : w * 0 ≡ 0 = omega arith in rw e
  firsts (suc n) h = one (firsts n (λ c k. h c (omega arith)))
    where
      grow : (m : List ℕ) → take (w * suc n) m ≡ take (w * n) m ++ part_at w n m
      grow m = ap (λ (k : ℕ). take k m) (mul-suc w n) ∙ take-add (w * n) w m

      one : take (w * n) l ≡ take (w * n) l' → take (w * suc n) l ≡ take (w * suc n) l'
      one e = grow l ∙ ap (λ (t : List ℕ). t ++ part_at w n l) e ∙ ap (λ (t : List ℕ). take (w * n) l' ++ t) (h n (omega arith)) ∙ sym (grow l')

  pub parts_same : (n : ℕ) → length l ≡ w * n → length l' ≡ w * n → ((c : ℕ) → c < n → part_at w c l ≡ part_at w c l') → l ≡ l'
  parts_same n e e' h = sym (take_all (w * n) l (omega arith)) ∙ firsts n h ∙ take_all (w * n) l' (omega arith)

-- ---- every row of a slice
module _ (w p out more : ℕ) (cut : Cut w p out more) (l : List ℕ) where
  abbrev v : ℕ
  v = width_after w out more

  part_long : (n c : ℕ) → c < n → w * n ≤ length l → length (part_at w c l) ≡ w
  unfolding part_at
  part_long n c h r =
      let k : suc c ≤ n = h in
      omega (arith, length-take w (drop (w * c) l), length-drop (w * c) l, mul-le-mul_left w k)

  row_long : (n c : ℕ) → c < n → w * n ≤ length l → length (recut p out more (part_at w c l)) ≡ v
  row_long n c h r =
      let e = part_long n c h r in
      let f : p + out ≤ length (part_at w c l) = omega (arith, cut.inside) in
      recut_length p out more (part_at w c l) f ∙ ap (λ (k : ℕ). width_after k out more) e

  pub all_length : (n : ℕ) → w * n ≤ length l → length (recut_all n w p out more l) ≡ v * n
  unfolding recut_all
  all_length zero r = omega arith
  all_length (suc n) r =
      let k : w * n ≤ length l = omega arith in
      omega (arith, length-append (recut_all n w p out more l) (recut p out more (part_at w n l)), all_length n k, row_long (suc n) n (omega arith) r, mul-suc v n)

  -- each row is the one it comes from, cut anew
  pub all_part : (n c : ℕ) → c < n → w * n ≤ length l → part_at v c (recut_all n w p out more l) ≡ recut p out more (part_at w c l)
  unfolding part_at recut_all
  all_part zero c h r = absurd (omega arith)
  all_part (suc n) c h r = ⊎_elim last (λ (b : c < n). before (λ q. all_part n c b q) b) (eq-or-lt_of_le (le_of_suc-le-suc h))
    where
      k : w * n ≤ length l
      k = omega arith

      done : List ℕ
      done = recut_all n w p out more l

      new : List ℕ
      new = recut p out more (part_at w n l)

      long : length done ≡ v * n
      long = all_length n k

      last : c ≡ n → part_at v c (recut_all (suc n) w p out more l) ≡ recut p out more (part_at w c l)
      last e = rw e (ap (take v) (drop_at done new (v * n) long) ∙ take_all v new (omega (arith, row_long (suc n) n (omega arith) r)))

      before : (w * n ≤ length l → part_at v c (recut_all n w p out more l) ≡ recut p out more (part_at w c l)) → c < n → part_at v c (recut_all (suc n) w p out more l) ≡ recut p out more (part_at w c l)
      before up b =
          let s : suc c ≤ n = b in
          let q : v * c + v ≤ length done = omega (arith, mul-le-mul_left v s, long) in
          ap (take v) (drop-append-le (v * c) done new (omega arith))
          ∙ take-append-le v (drop (v * c) done) new (omega (arith, length-drop (v * c) done))
          ∙ up k

-- BACK AFTER OVER: k zeros put into every row at place p and taken out again leave the very slice
pub back_after_over : (w p k n : ℕ) (l : List ℕ) → p ≤ w → w + k ≤ 500 → length l ≡ w * n → recut_all n (w + k) p k 0 (recut_all n w p 0 k l) ≡ l
back_after_over w p k n l hp hk len =
    parts_same w (recut_all n (w + k) p k 0 over) l n (rw e₁ at (all_length (w + k) p k 0 back over n (omega (arith, long)))) len
    (λ c h. (rw e₁ at (all_part (w + k) p k 0 back over n c h (omega (arith, long))))
    ∙ ap (recut p k 0) (rw e₀ at (all_part w p 0 k there l n c h (omega arith)))
    ∙ recut_back p k (part_at w c l) (omega (arith, part_long w p 0 k there l n c h (omega arith))))
  where
    over : List ℕ
    over = recut_all n w p 0 k l

    there : Cut w p 0 k
    there = record { inside = omega arith; small = omega arith }

    back : Cut (w + k) p k 0
    back = record { inside = omega arith; small = omega arith }

    e₀ : width_after w 0 k ≡ w + k
    e₀ = omega arith

    e₁ : width_after (w + k) k 0 ≡ w
    e₁ = omega arith

    long : length over ≡ (w + k) * n
    long = rw e₀ at (all_length w p 0 k there l n (omega arith))

-- ---- a test of every row tells it of each
pub all_told : (ok : List ℕ → Bool) (n w : ℕ) (l : List ℕ) → all_rows ok n w l ≡ true → (c : ℕ) → c < n → ok (part_at w c l) ≡ true
unfolding all_rows
all_told ok zero w l e c h = absurd (omega arith)
all_told ok (suc n) w l e c h =
    let q = (and-eq-true_iff (all_rows ok n w l) (ok (part_at w n l))).0 e in
    ⊎_elim (λ (i : c ≡ n). rw i q.1) (λ (b : c < n). all_told ok n w l q.0 c b) (eq-or-lt_of_le (le_of_suc-le-suc h))

pub all_from : (ok : List ℕ → Bool) (n w : ℕ) (l : List ℕ) → ((c : ℕ) → c < n → ok (part_at w c l) ≡ true) → all_rows ok n w l ≡ true
unfolding all_rows
all_from ok zero w l h = refl
all_from ok (suc n) w l h = rw (all_from ok n w l (λ c k. h c (omega arith)), h n (omega arith))

-- ---- a move by its checks
module _ (w v : ℕ) (empty : Bool) (card : Card) (from to : List ℕ) where
  abbrev long : Bool
  long = eqb (length from) (w * card.cells) && eqb (length to) (v * card.cells)

  abbrev forms : Bool
  forms = all_rows (form_ok card.delays) card.cells w from

  abbrev bare : Bool
  bare = cond empty (all_rows no_sums card.cells w from) true

  pub from_off : ¬ (length from ≡ w * card.cells) → long ≡ false
  from_off n = rw (ne_eqb _ _ n)

  pub to_off : length from ≡ w * card.cells → ¬ (length to ≡ v * card.cells) → long ≡ false
  to_off e n = rw (eq-eqb _ _ e, ne_eqb _ _ n)

  pub both_long : length from ≡ w * card.cells → length to ≡ v * card.cells → long ≡ true
  both_long e f = rw (eq-eqb _ _ e, eq-eqb _ _ f)

  pub move_by : {a b c d : Bool} → card_ok card ≡ a → long ≡ b → forms ≡ c → bare ≡ d → cond a (cond b (cond c (cond d 0 16) 5) 2) 1 ≡ move_number w v empty card from to
  unfolding move_number
  move_by p q s t = rw (p, q, s, t)

  pub record Movable : Type 0 where
    pub card_ok_lem : card_ok card ≡ true
    pub from_long : length from ≡ w * card.cells
    pub to_long : length to ≡ v * card.cells
    pub rows_ok : forms ≡ true
    pub sums_ok : bare ≡ true

  pub move_passed : move_number w v empty card from to ≡ 0 → Movable
  unfolding move_number
  move_passed z = go (card_ok card) refl long refl forms refl bare refl z
    where
      go : (a : Bool) → card_ok card ≡ a → (b : Bool) → long ≡ b → (c : Bool) → forms ≡ c → (d : Bool) → bare ≡ d → ◌≡◌ {A = ℕ} (cond a (cond b (cond c (cond d 0 16) 5) 2) 1) 0 → Movable
      go true p true q true s true t e =
          let k = (and-eq-true_iff (eqb (length from) (w * card.cells)) (eqb (length to) (v * card.cells))).0 q in
          record { card_ok_lem = p; from_long = eqb-true _ _ k.0; to_long = eqb-true _ _ k.1; rows_ok = s; sums_ok = t }
      go true p true q true s false t e = absurd (omega arith)
      go true p true q false s d t e = absurd (omega arith)
      go true p false q c s d t e = absurd (omega arith)
      go false p b q c s d t e = absurd (omega arith)

  pub move_fine : Movable → move_number w v empty card from to ≡ 0
  move_fine m = sym (move_by m.card_ok_lem (both_long m.from_long m.to_long) m.rows_ok m.sums_ok)

-- a list by a number that is not 0 is as it came
list_kept : (n : ℕ) (after before : List ℕ) → ¬ (n ≡ 0) → before ≡ list_by n after before
list_kept zero after before h = absurd (h refl)
list_kept (suc n) after before h = refl

module _ (w p out more : ℕ) (empty : Bool) (card : Card) (from to : List ℕ) {n : ℕ} (e : n ≡ move_number w (width_after w out more) empty card from to) where
  pub move_refused : ¬ (n ≡ 0) → MoveGives w p out more empty card from to n to
  move_refused h =
      let new = recut_all card.cells w p out more from in
      record { number_is = e; rows_are = list_kept n new to h ∙ ap (λ (k : ℕ). list_by k new to) e }

  pub move_done : n ≡ 0 → {after : List ℕ} → after ≡ recut_all card.cells w p out more from → MoveGives w p out more empty card from to n after
  move_done z f = record { number_is = e; rows_are = rw (sym e ∙ z) f }

-- ---- what a move answers, by its number
abbrev refused : Refusal → Result (Unit {0}) Unmoved
refused why = Err (Refused why)

abbrev answer_by : ℕ → Result (Unit {0}) Unmoved
answer_by n =
    get_or
    (Ok tt ∷ refused BadCard ∷ refused BadLengths ∷ refused BadCell ∷ refused BadSoil ∷ refused BadRow ∷ refused Old ∷ refused Gap ∷ refused BadReading ∷ refused UnusableHead
    ∷ refused InactiveHead ∷ Ok tt ∷ Ok tt ∷ Ok tt ∷ Ok tt ∷ refused FullSums ∷ Err Uncollected ∷ refused JammedBucket ∷ []) n (Ok tt)

by_number : (r : Result (Unit {0}) Unmoved) → answer_by (moved_number r) ≡ r
by_number (Ok tt) = refl
by_number (Err Uncollected) = refl
by_number (Err (Refused BadCard)) = refl
by_number (Err (Refused BadLengths)) = refl
by_number (Err (Refused BadCell)) = refl
by_number (Err (Refused BadSoil)) = refl
by_number (Err (Refused BadRow)) = refl
by_number (Err (Refused Old)) = refl
by_number (Err (Refused Gap)) = refl
by_number (Err (Refused BadReading)) = refl
by_number (Err (Refused JammedBucket)) = refl
by_number (Err (Refused UnusableHead)) = refl
by_number (Err (Refused InactiveHead)) = refl
by_number (Err (Refused FullSums)) = refl

-- no two answers have the same number
pub number_tells : (r r' : Result (Unit {0}) Unmoved) → moved_number r ≡ moved_number r' → r ≡ r'
number_tells r r' e = sym (by_number r) ∙ ap answer_by e ∙ by_number r'
