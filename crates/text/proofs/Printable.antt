-- The numbers of a line that can be printed are below 2 ^ 63, place by place. Assumes nothing.
use Rattle.std.proofs.Common.{◌≡◌, Bool, true, List, [], ◌∷◌, ℕ, zero, suc, ◌<◌, ◌^◌, leb, get_or, arith, leb-true}
use Rattle.cell.specs.declared.Amounts.{Amounts}
use Rattle.cell.specs.Conj.{told}
use Rattle.site.specs.declared.Sheet.{Sheet}
use Rattle.text.specs.Printed.{most, amounts_printable, sheet_printable}

abbrev pub tests : List ℕ → List Bool
tests [] = []
tests (n ∷ ns) = leb n most ∷ tests ns

at_most : (ns : List ℕ) → ((k : ℕ) → get_or (tests ns) k true ≡ true) → (k : ℕ) → get_or ns k 0 < 2 ^ 63
at_most [] h k = omega arith
at_most (n ∷ ns) h zero = omega (arith, leb-true n most (h 0))
at_most (n ∷ ns) h (suc k) = at_most ns (λ j. h (suc j)) k

abbrev pub amount_numbers : Amounts → List ℕ
amount_numbers a = a.inflow.0 ∷ a.runoff.0 ∷ a.etvad.0 ∷ a.etstor.0 ∷ a.etsat.0 ∷ a.drain.0 ∷ a.release.0 ∷ a.stored.0 ∷ a.left.0 ∷ []

pub amount_small : (a : Amounts) → amounts_printable a ≡ true → (k : ℕ) → get_or (amount_numbers a) k 0 < 2 ^ 63
unfolding amounts_printable
amount_small a e = at_most (amount_numbers a) (told (leb a.inflow.0 most) (tests (a.runoff.0 ∷ a.etvad.0 ∷ a.etstor.0 ∷ a.etsat.0 ∷ a.drain.0 ∷ a.release.0 ∷ a.stored.0 ∷ a.left.0 ∷ [])) e)

abbrev pub sheet_numbers : Sheet → List ℕ
sheet_numbers s = s.steps ∷ s.inflow.0 ∷ s.runoff.0 ∷ s.etvad.0 ∷ s.etstor.0 ∷ s.etsat.0 ∷ s.drain.0 ∷ s.release.0 ∷ s.stored.0 ∷ []

pub sheet_small : (s : Sheet) → sheet_printable s ≡ true → (k : ℕ) → get_or (sheet_numbers s) k 0 < 2 ^ 63
unfolding sheet_printable
sheet_small s e = at_most (sheet_numbers s) (told (leb s.steps most) (tests (s.inflow.0 ∷ s.runoff.0 ∷ s.etvad.0 ∷ s.etstor.0 ∷ s.etsat.0 ∷ s.drain.0 ∷ s.release.0 ∷ s.stored.0 ∷ [])) e)
