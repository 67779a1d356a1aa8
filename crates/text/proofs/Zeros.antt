-- Looking whether all numbers of a list are 0. Assumes nothing.
use Rattle.std.specs.Prelude.{◌≡◌, ℕ, List, [], ◌∷◌, ◌&&◌, eqb}
use Rattle.std.specs.List.{list_all}
use Rattle.std.proofs.Common.{sym, ap, ◌∙◌}
use Rattle.cell.specs.Ranges.{none_of}
use Rattle.cell.specs.RangeLaws.{none_ends, none_more}

pub all_zero : (xs : List ℕ) → list_all (λ x. eqb x 0) xs ≡ none_of xs
all_zero [] = sym none_ends
all_zero (x ∷ xs) = ap (λ b. eqb x 0 && b) (all_zero xs) ∙ sym (none_more x xs)
