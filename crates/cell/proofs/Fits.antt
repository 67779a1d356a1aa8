-- What the machine asks of a number: a difference with a sign fits and is read back.
-- A signed local holds bits, so a value that the code computes stands as `bits z`. Assumes nothing.
use Rattle.std.proofs.Common.{◌≡◌, refl, ℕ, ◌+◌, ◌≤◌, ◌<◌, ◌^◌, arith, ℤ, pos, negsuc, nat_abs, ◌-ℤ◌, w64, SFits, to_z, of_z, to_z-of_z}
use Rattle.std.specs.Int.Signed.{mag}
use mir.Facts.{to_z_pos}
use Rattle.cell.specs.Bounds.{abs_sub}

abbrev pub bits : ℤ → ℤ
bits z = to_z w64 (of_z w64 z)

mag_abs : (z : ℤ) → mag z ≤ nat_abs z
mag_abs (pos n) = omega arith
mag_abs (negsuc n) = omega arith

-- a number of size at most n, with n below 2 ^ 63, fits an i64, and is read back as it was
pub sfits : (z : ℤ) (n : ℕ) → nat_abs z ≤ n → n < 2 ^ 63 → SFits w64 z
sfits z n h k = record { sfits = omega (arith, mag_abs z) }

pub back : (z : ℤ) (n : ℕ) → nat_abs z ≤ n → n < 2 ^ 63 → bits z ≡ z
back z n h k = to_z-of_z (sfits z n h k)

-- two amounts cast to i64, and their difference: `(a as i64) - (b as i64)`
module _ (a b n : ℕ) (ha : a ≤ n) (hb : b ≤ n) (k : n < 2 ^ 62) where
  casts : to_z w64 a -ℤ to_z w64 b ≡ pos a -ℤ pos b
  casts = rw (to_z_pos w64 {n = a} (omega arith), to_z_pos w64 {n = b} (omega arith)) refl

  size : nat_abs (pos a -ℤ pos b) ≤ n + n
  size = abs_sub (pos a) (pos b) n n ha hb

  pub net_fits : SFits w64 (to_z w64 a -ℤ to_z w64 b)
  net_fits = rw casts (sfits (pos a -ℤ pos b) (n + n) size (omega arith))

  pub net_is : bits (to_z w64 a -ℤ to_z w64 b) ≡ pos a -ℤ pos b
  net_is = rw casts (back (pos a -ℤ pos b) (n + n) size (omega arith))
