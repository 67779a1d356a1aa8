-- A row number by number. Assumes nothing.
use Rattle.std.specs.Prelude.{◌≡◌, List, [], ◌∷◌, ℕ, zero, suc, ◌+◌, length, drop, get_or}
use Rattle.std.proofs.Common.{ap, arith, drop_of_length-le, drop-cons}

-- so many numbers from a place on
abbrev pub spread : List ℕ → ℕ → ℕ → List ℕ
spread l i zero = []
spread l i (suc n) = get_or l i 0 ∷ spread l (suc i) n

pub spread_is : (l : List ℕ) (i n : ℕ) → length l ≡ i + n → spread l i n ≡ drop i l
spread_is l i zero e = rw (drop_of_length-le l {i = i} (omega arith))
spread_is l i (suc n) e = rw (drop-cons l i 0 (omega arith)) (ap (λ (r : List ℕ). get_or l i 0 ∷ r) (spread_is l (suc i) n (omega arith)))
