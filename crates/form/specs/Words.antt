-- Values as numbers of 32 bits. Assumes nothing.
use Rattle.std.specs.Prelude.{ℕ, ◌<◌, ◌≤◌, ◌≡◌, refl, ℤ, pos, negsuc, nat_abs, Bool, true, false, cond, ltb}
use Rattle.std.proofs.Common.{sym, arith, lt-ltb, le-ltb, ltb-true}
use Rattle.form.specs.Signed.{is_neg}
use Rattle.std.proofs.lemmas.Bool.{false≢true}

-- what a value that fits 32 bits is; 0 otherwise
abbrev pub word_of : ℤ → ℕ
word_of (pos n) = cond (ltb n 4294967296) n 0
word_of (negsuc n) = 0

pub word_neg : (z : ℤ) → is_neg z ≡ true → 0 ≡ word_of z
word_neg (pos n) e = absurd (false≢true e)
word_neg (negsuc n) e = refl

pub word_big : (z : ℤ) → 4294967295 < nat_abs z → 0 ≡ word_of z
word_big (pos n) h = rw (le-ltb n 4294967296 (omega arith))
word_big (negsuc n) h = refl

pub word_small : (z : ℤ) → is_neg z ≡ false → nat_abs z ≤ 4294967295 → nat_abs z ≡ word_of z
word_small (pos n) e h = rw (lt-ltb n 4294967296 (omega arith))
word_small (negsuc n) e h = absurd (false≢true (sym e))

-- it always fits 32 bits
pub word_lt : (z : ℤ) → word_of z < 4294967296
word_lt (pos n) = go (ltb n 4294967296) refl
  where
    go : (b : Bool) → ltb n 4294967296 ≡ b → cond b n 0 < 4294967296
    go true e = ltb-true n 4294967296 e
    go false e = omega arith
word_lt (negsuc n) = omega arith
