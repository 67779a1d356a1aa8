-- Decimal numbers: the one text of a number, and what reading a number at a place finds. Definitions only.
use Rattle.std.specs.Prelude.{Option, Some, None, ℕ, zero, suc, ◌+◌, ◌-◌, ◌*◌, ◌/◌, ◌%◌, List, [], ◌∷◌, ◌++◌, cond, drop, ltb, eqb}

-- the decimal digits of n, most significant first, as bytes; k bounds their count from above
unfoldable pub dec_f : ℕ → ℕ → List ℕ
dec_f zero n = []
dec_f (suc k) n = let r = dec_f k (n / 10) ++ ((48 + n % 10) ∷ []) in cond (ltb n 10) ((48 + n) ∷ []) r

-- the one decimal text of n
unfoldable pub dec : ℕ → List ℕ
dec n = dec_f (suc n) n

-- what a byte stands for as a digit; 10 where it is none
abbrev pub digit_of : ℕ → ℕ
digit_of c = cond (ltb c 48) 10 (cond (ltb 57 c) 10 (c - 48))

-- v was read before the place i, and t stands from i on: all digits that follow are taken; a digit after a 0, or one that makes the value more than max, is bad
unfoldable pub num_go : ℕ → ℕ → ℕ → List ℕ → Option (ℕ × ℕ)
num_go max v i [] = Some (v, i)
num_go max v i (c ∷ t) =
    cond (ltb 9 (digit_of c)) (Some (v, i))
    (cond (eqb v 0) None
    (cond (ltb max (v * 10 + digit_of c)) None (num_go max (v * 10 + digit_of c) (suc i) t)))

-- a number that starts at the place i, where t stands; max is at least 9, so that its first digit is never above it
unfoldable pub num_start : ℕ → ℕ → List ℕ → Option (ℕ × ℕ)
num_start max i [] = None
num_start max i (c ∷ t) = cond (ltb 9 (digit_of c)) None (num_go max (digit_of c) (suc i) t)

unfoldable pub num_at : ℕ → List ℕ → ℕ → Option (ℕ × ℕ)
num_at max s at = num_start max at (drop at s)
