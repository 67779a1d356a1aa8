-- What writing a text into a buffer gives. Definitions only.
use Rattle.std.specs.Prelude.{ℕ, ◌≡◌, Bool, cond, Result, Ok, Err, List, ◌++◌, leb, eqb, length, drop}
use Rattle.cell.specs.declared.Refusal.TheVariants.{BadLengths}
use Rattle.cell.specs.Refusals.{first_failing, refusal_number, malformed}
use Rattle.text.specs.declared.Unwritten.{Unwritten}
use Rattle.text.specs.declared.Unwritten.TheVariants.{Unfit, SoilLength}

-- the number, and the length of the text
pub record Written : Type 0 where
  pub number : ℕ
  pub len : ℕ

-- case by case: 12 for what no text gives and for a short buffer, 2 for a soil slice that is not the card's
abbrev pub unwritten_number : Unwritten → ℕ
unwritten_number Unfit = malformed
unwritten_number SoilLength = refusal_number BadLengths

abbrev pub written_given : Result ℕ Unwritten → Written
written_given (Ok n) = record { number = 0; len = n }
written_given (Err e) = record { number = unwritten_number e; len = 0 }

-- the buffer has room for the text: the last check of each writer
abbrev pub fits_in : List ℕ → List ℕ → Bool
fits_in t b = leb (length t) (length b)

-- the number of the first check that fails, and the length, 0 on refusal
abbrev pub written : List (ℕ × Bool) → List ℕ → Written
written checks t = record { number = first_failing checks; len = cond (eqb (first_failing checks) 0) (length t) 0 }

-- on refusal the buffer stays; else the text stands at its start and no byte after it changes
abbrev pub buffer : List (ℕ × Bool) → List ℕ → List ℕ → List ℕ
buffer checks t b = cond (eqb (first_failing checks) 0) (t ++ drop (length t) b) b

-- what a writer gives, and the buffer at exit
pub record Writes (checks : List (ℕ × Bool)) (t b : List ℕ) (w : Written) (after : List ℕ) : Type 0 where
  pub written_is : w ≡ written checks t
  pub buffer_is : after ≡ buffer checks t b
