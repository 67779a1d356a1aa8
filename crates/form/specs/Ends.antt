-- The lines of a text: how many end, and the first of them. Definitions only.
use Rattle.std.specs.Prelude.{ℕ, zero, suc, cond, List, [], ◌∷◌, eqb}

-- how many bytes of a text are LF
abbrev pub line_ends : List ℕ → ℕ
line_ends [] = 0
line_ends (c ∷ s) = let r = line_ends s in cond (eqb c 10) (suc r) r

-- the bytes of a text up to and with its n-th LF; all of it where it has fewer
unfoldable pub first_lines : ℕ → List ℕ → List ℕ
first_lines zero s = []
first_lines (suc n) [] = []
first_lines (suc n) (c ∷ s) =
    let a = first_lines n s in
    let b = first_lines (suc n) s in
    c ∷ cond (eqb c 10) a b

abbrev pub first_line : List ℕ → List ℕ
first_line s = first_lines 1 s
