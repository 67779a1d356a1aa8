-- What stands at a place as a value, by its mark. Assumes nothing.
use Rattle.std.proofs.Common.{◌∙◌, ◌<◌, ◌≤◌, length, get_or, drop_of_length-le, ◌≡◌, ℕ, zero, suc, ◌+◌, ◌-◌, Option, Some, None, List, negsuc, refl, add-one, arith, eq-eqb, ne_eqb}
use Rattle.form.specs.Dec.{num_at, num_start}
use Rattle.form.specs.Hex.{hex_at}
use Rattle.form.specs.FormLaws.{byte_in, byte_end}
use Rattle.form.specs.Form.{byte_at, pos_of, neg_of, val_at}

module _ (s : List ℕ) (at : ℕ) {r : Option (ℕ × ℕ)} where
  pub word_value : r ≡ num_at 4294967295 s at → val_at 35 s at ≡ pos_of r
  unfolding val_at
  word_value e = rw e

  pub hex_value : r ≡ hex_at s at → val_at 37 s at ≡ pos_of r
  unfolding val_at
  hex_value e = rw e

  -- the byte x there is a minus, or it is not
  module _ {x : ℕ} (h : at < length s) (g : x ≡ get_or s at x) where
    pub minus_value : x ≡ 45 → r ≡ num_at 9223372036854775808 s (at + 1) → val_at 36 s at ≡ neg_of r
    unfolding val_at
    minus_value k e = rw (eq-eqb (byte_at s at) 45 (byte_in s at x h g ∙ k), e, add-one at)

    pub plus_value : (x ≡ 45 → ⊥) → r ≡ num_at 9223372036854775807 s at → val_at 36 s at ≡ pos_of r
    unfolding val_at
    plus_value k e = rw (byte_in s at x h g, ne_eqb x 45 k, e)

pub end_value : (s : List ℕ) (at : ℕ) → length s ≤ at → val_at 36 s at ≡ None
unfolding val_at num_at num_start
end_value s at h = rw (byte_end s at h, drop_of_length-le s h)

-- there is no -0
pub neg_zero : (n i : ℕ) → n ≡ 0 → neg_of (Some (n, i)) ≡ None
neg_zero n i e = rw e

pub neg_more : (n i : ℕ) → (n ≡ 0 → ⊥) → neg_of (Some (n, i)) ≡ Some (negsuc (n - 1), i)
neg_more zero i h = absurd (h refl)
neg_more (suc n) i h = let e : suc n - 1 ≡ n = omega arith in rw e
