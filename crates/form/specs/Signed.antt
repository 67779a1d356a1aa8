-- Signed numbers and their sizes. Assumes nothing.
use Rattle.std.specs.Prelude.{◌≡◌, refl, Bool, true, false, ℕ, zero, suc, ◌<◌, ◌^◌, ℤ, pos, negsuc, ◌-ℤ◌, nat_abs}
use Rattle.std.proofs.Common.{sym, ap, zero-add, arith, SFits, to_z, of_z, to_z-of_z, le-ltb, ltb-true}
use Rattle.std.proofs.lemmas.Bool.{false≢true}
use Rattle.std.specs.Int.Signed.{lt_z}
use Rattle.std.specs.Int.{w64}

pub sub_neg : (k : ℕ) → negsuc 0 -ℤ pos k ≡ negsuc k
sub_neg zero = refl
sub_neg (suc k) = rw (zero-add k)

pub sub_one : (n : ℕ) → negsuc 0 -ℤ negsuc n ≡ pos n
sub_one n = rw (le-ltb (suc n) 1 (omega arith)) (ap pos (omega arith))

-- the two kinds of number, by the test against 0
pub below_zero : (z : ℤ) → SFits w64 z → lt_z z (pos 0) ≡ true → (n : ℕ) × (z ≡ negsuc n) × (n < 2 ^ 63)
below_zero (pos n) f e = absurd (omega (arith, ltb-true n 0 e))
below_zero (negsuc n) f e = (n, refl, f.sfits)

pub not_below : (z : ℤ) → SFits w64 z → lt_z z (pos 0) ≡ false → (n : ℕ) × (z ≡ pos n) × (n < 2 ^ 63)
not_below (pos n) f e = (n, refl, f.sfits)
not_below (negsuc n) f e = absurd (false≢true (sym e))

abbrev pub is_neg : ℤ → Bool
is_neg (pos n) = false
is_neg (negsuc n) = true

pub is_neg_lem : (z : ℤ) → SFits w64 z → lt_z (to_z w64 (of_z w64 z)) (pos 0) ≡ is_neg z
is_neg_lem (pos n) f = rw (to_z-of_z f) (le-ltb n 0 (omega arith))
is_neg_lem (negsuc n) f = rw (to_z-of_z f)

pub size_fits : (z : ℤ) → SFits w64 z → nat_abs z < 2 ^ 64
size_fits (pos n) f = omega (arith, f.sfits)
size_fits (negsuc n) f = omega (arith, f.sfits)
