-- A host's numbers that are an answer, or a sheet, can be printed. Assumes nothing.
use mathlib.Core.Path.{◌≡◌, refl, sym}
use mathlib.Core.Bool.{Bool, true, false, false≢true, not, ◌||◌}
use mathlib.Core.List.{List, [], ◌∷◌}
use Prim.Native.Nat.{ℕ, zero, suc, ◌+◌, ◌≤◌, ◌<◌}
use native.Mathlib.Nat.{add-zero, zero-add}
use native.Mathlib.Omega.{arith}
use borrow.Author.Tests.{le-leb, eqb-true}
use lib.Dec.{eqb, leb}
use lib.IntN.{ℤ, pos, negsuc, nat_abs}
use lib.ListN.{length, get_or}
use mir.Syntax.{w64}
use mir.Val.{SFits}
use Rattle.form.specs.Signed.{is_neg}
use Rattle.form.specs.FormLaws.{and_1, and_2}
use Rattle.text.specs.Printed.{most, amounts_printable, sheet_printable}
use Rattle.text.proofs.PrintLaws.{small_amounts, small_sums}
use Rattle.gateway.specs.Shapes.{AllFit, amounts_from, sheet_from, signs_from, zeros, amounts_recharge, sheet_recharge}
use Rattle.gateway.specs.Calls.{is_answer}

past : (l : List ℤ) (i : ℕ) → length l ≤ i → get_or l i (pos 0) ≡ pos 0
past [] i h = refl
past (z ∷ l) zero h = absurd (omega arith)
past (z ∷ l) (suc i) h = past l i (omega arith)

-- ten numbers fit, and what stands behind them counts as 0
pub ten_fit : (l : List ℤ) → length l ≡ 10
    → SFits w64 (get_or l 0 (pos 0))
    → SFits w64 (get_or l 1 (pos 0))
    → SFits w64 (get_or l 2 (pos 0))
    → SFits w64 (get_or l 3 (pos 0))
    → SFits w64 (get_or l 4 (pos 0))
    → SFits w64 (get_or l 5 (pos 0))
    → SFits w64 (get_or l 6 (pos 0))
    → SFits w64 (get_or l 7 (pos 0))
    → SFits w64 (get_or l 8 (pos 0))
    → SFits w64 (get_or l 9 (pos 0))
    → AllFit l
ten_fit l ten a b c d e f g h i j zero = a
ten_fit l ten a b c d e f g h i j (suc zero) = b
ten_fit l ten a b c d e f g h i j (suc (suc zero)) = c
ten_fit l ten a b c d e f g h i j (suc (suc (suc zero))) = d
ten_fit l ten a b c d e f g h i j (suc (suc (suc (suc zero)))) = e
ten_fit l ten a b c d e f g h i j (suc (suc (suc (suc (suc zero))))) = f
ten_fit l ten a b c d e f g h i j (suc (suc (suc (suc (suc (suc zero)))))) = g
ten_fit l ten a b c d e f g h i j (suc (suc (suc (suc (suc (suc (suc zero))))))) = h
ten_fit l ten a b c d e f g h i j (suc (suc (suc (suc (suc (suc (suc (suc zero)))))))) = i
ten_fit l ten a b c d e f g h i j (suc (suc (suc (suc (suc (suc (suc (suc (suc zero))))))))) = j
ten_fit l ten a b c d e f g h i j (suc (suc (suc (suc (suc (suc (suc (suc (suc (suc n)))))))))) = rw (past l (suc (suc (suc (suc (suc (suc (suc (suc (suc (suc n)))))))))) (omega arith)) (record { sfits = omega arith })

-- a number that is not negative, and one that is 0, can be printed
plain_fits : (z : ℤ) → SFits w64 z → is_neg z ≡ false → leb (nat_abs z) most ≡ true
plain_fits (pos n) f e = le-leb n most (omega (arith, f.sfits))
plain_fits (negsuc n) f e = absurd (false≢true (sym e))

zero_fits : (z : ℤ) → eqb (nat_abs z) 0 ≡ true → leb (nat_abs z) most ≡ true
zero_fits z e = rw (eqb-true (nat_abs z) 0 e)

-- the number at a place of a row, by what is known of all of them
signs_at : (k : ℕ) (l : List ℤ) (j i : ℕ) → signs_from j k l ≡ true → i < length l → eqb (j + i) k ≡ false → is_neg (get_or l i (pos 0)) ≡ false
unfolding signs_from
signs_at k [] j i e h n = absurd (omega arith)
signs_at k (z ∷ l) j zero e h n =
    let a : eqb j k ≡ false = rw (add-zero j) at n in
    let b : (eqb j k || not (is_neg z)) ≡ true = and_1 (eqb j k || not (is_neg z)) (signs_from (suc j) k l) e in
    go (is_neg z) refl (rw a at b)
  where
    go : (x : Bool) → is_neg z ≡ x → not (is_neg z) ≡ true → is_neg z ≡ false
    go true p q = absurd (false≢true (rw p at q))
    go false p q = p
signs_at k (z ∷ l) j (suc i) e h n =
    let m : j + suc i ≡ suc j + i = omega arith in
    signs_at k l (suc j) i (and_2 (eqb j k || not (is_neg z)) (signs_from (suc j) k l) e) (omega arith) (rw m at n)

zeros_at : (l : List ℤ) (i : ℕ) → zeros l ≡ true → i < length l → eqb (nat_abs (get_or l i (pos 0))) 0 ≡ true
unfolding zeros
zeros_at [] i e h = absurd (omega arith)
zeros_at (z ∷ l) zero e h = and_1 (eqb (nat_abs z) 0) (zeros l) e
zeros_at (z ∷ l) (suc i) e h = zeros_at l i (and_2 (eqb (nat_abs z) 0) (zeros l) e) (omega arith)

-- ---- ten numbers
module _ (l : List ℤ) (ten : length l ≡ 10) (fit : AllFit l) where
  place : (k : ℕ) → signs_from 0 k l ≡ true → (i : ℕ) → i < 10 → eqb i k ≡ false → leb (nat_abs (get_or l i (pos 0))) most ≡ true
  place k e i h n = plain_fits (get_or l i (pos 0)) (fit i) (signs_at k l 0 i e (omega arith) (rw (zero-add i) n))

  empty : zeros l ≡ true → (i : ℕ) → i < 10 → leb (nat_abs (get_or l i (pos 0))) most ≡ true
  empty e i h = zero_fits (get_or l i (pos 0)) (zeros_at l i e (omega arith))

  pub sheet_prints : signs_from 0 sheet_recharge l ≡ true → sheet_printable (sheet_from l) ≡ true
  unfolding sheet_from
  sheet_prints e =
      small_sums (sheet_from l)
      (place 9 e 0 (omega arith) refl)
      (place 9 e 1 (omega arith) refl)
      (place 9 e 2 (omega arith) refl)
      (place 9 e 3 (omega arith) refl)
      (place 9 e 4 (omega arith) refl)
      (place 9 e 5 (omega arith) refl)
      (place 9 e 6 (omega arith) refl)
      (place 9 e 7 (omega arith) refl)
      (place 9 e 8 (omega arith) refl)

  amounts_print : ((i : ℕ) → i < 10 → eqb i amounts_recharge ≡ false → leb (nat_abs (get_or l i (pos 0))) most ≡ true) → amounts_printable (amounts_from l) ≡ true
  unfolding amounts_from
  amounts_print h =
      small_amounts (amounts_from l)
      (h 0 (omega arith) refl)
      (h 1 (omega arith) refl)
      (h 2 (omega arith) refl)
      (h 3 (omega arith) refl)
      (h 4 (omega arith) refl)
      (h 5 (omega arith) refl)
      (h 6 (omega arith) refl)
      (h 7 (omega arith) refl)
      (h 9 (omega arith) refl)

  pub answer_prints : (n : ℕ) → is_answer n l ≡ true → amounts_printable (amounts_from l) ≡ true
  unfolding is_answer
  answer_prints n e = go (eqb n 0) refl
    where
      go : (b : Bool) → eqb n 0 ≡ b → amounts_printable (amounts_from l) ≡ true
      go true q = amounts_print (place 8 (rw q at e))
      go false q = amounts_print (λ i h k. empty (and_2 (leb n 10 || eqb n 15 || eqb n 17) (zeros l) (rw q at e)) i h)
