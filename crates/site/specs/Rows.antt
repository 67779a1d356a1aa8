-- Numbers kept per cell in one slice, w for each: those of a cell, and the slice with them replaced. Definitions only.
use Rattle.std.specs.Prelude.{List, ◌++◌, ℕ, ◌+◌, ◌*◌, take, drop}

unfoldable pub part_at : {A : Type 0} → ℕ → ℕ → List A → List A
part_at w cell l = take w (drop (w * cell) l)

unfoldable pub put_at : {A : Type 0} → ℕ → ℕ → List A → List A → List A
put_at w cell part l = take (w * cell) l ++ (part ++ drop (w * cell + w) l)
