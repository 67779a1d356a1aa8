-- Lowercase hex numbers of a fixed count of digits: the one text, and what reading one at a place finds. Definitions only.
use Rattle.std.specs.Prelude.{Option, Some, None, ℕ, zero, suc, ◌+◌, ◌-◌, ◌*◌, ◌/◌, ◌%◌, List, [], ◌∷◌, ◌++◌, cond, drop, ltb}

-- what a byte stands for as a hex digit; 16 where it is none
abbrev pub hex_of : ℕ → ℕ
hex_of c = cond (ltb c 48) 16 (cond (ltb c 58) (c - 48) (cond (ltb c 97) 16 (cond (ltb c 103) (c - 87) 16)))

abbrev pub hex_byte : ℕ → ℕ
hex_byte d = cond (ltb d 10) (48 + d) (87 + d)

-- the last k hex digits of n
unfoldable pub hex : ℕ → ℕ → List ℕ
hex zero n = []
hex (suc k) n = hex k (n / 16) ++ (hex_byte (n % 16) ∷ [])

-- k digits that follow v, at the place i, where t stands
unfoldable pub hex_go : ℕ → ℕ → ℕ → List ℕ → Option (ℕ × ℕ)
hex_go zero v i t = Some (v, i)
hex_go (suc k) v i [] = None
hex_go (suc k) v i (c ∷ t) = cond (ltb 15 (hex_of c)) None (hex_go k (v * 16 + hex_of c) (suc i) t)

unfoldable pub hex_at : List ℕ → ℕ → Option (ℕ × ℕ)
hex_at s at = hex_go 8 0 at (drop at s)
