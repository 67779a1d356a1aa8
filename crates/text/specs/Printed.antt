-- The lines that the program prints: one for an answer, one for the sheet. Definitions only.
use Rattle.std.specs.Prelude.{ℕ, Bool, ◌&&◌, List, [], ◌∷◌, leb, ℤ, pos}
use Rattle.form.specs.Form.{form_text}
use Rattle.cell.specs.Answers.{Answer}
use Rattle.cell.specs.declared.Amounts.{Amounts}
use Rattle.cell.specs.Refusals.{malformed, number_of, amounts_of}
use Rattle.site.specs.declared.Sheet.{Sheet}
use Rattle.text.specs.Lines.{answer_form, sheet_form}
use Rattle.text.specs.Written.{fits_in}

-- cell as read, number, the ten amounts
abbrev pub answer_vals : ℕ → ℕ → Amounts → List ℤ
answer_vals cell number a =
    pos cell
    ∷ pos number
    ∷ pos a.inflow.0
    ∷ pos a.runoff.0
    ∷ pos a.etvad.0
    ∷ pos a.etstor.0
    ∷ pos a.etsat.0
    ∷ pos a.drain.0
    ∷ pos a.release.0
    ∷ pos a.stored.0
    ∷ a.recharge.0
    ∷ pos a.left.0
    ∷ []

unfoldable pub line_text : ℕ → ℕ → Amounts → List ℕ
line_text cell number a = form_text answer_form (answer_vals cell number a)

unfoldable pub answer_text : ℕ → Answer → List ℕ
answer_text cell answer = line_text cell (number_of answer) (amounts_of answer)

-- steps and the nine sums
abbrev pub sheet_vals : Sheet → List ℤ
sheet_vals s =
    pos s.steps
    ∷ pos s.inflow.0
    ∷ pos s.runoff.0
    ∷ pos s.etvad.0
    ∷ pos s.etstor.0
    ∷ pos s.etsat.0
    ∷ pos s.drain.0
    ∷ pos s.release.0
    ∷ pos s.stored.0
    ∷ s.recharge.0
    ∷ []

unfoldable pub sheet_text : Sheet → List ℕ
sheet_text s = form_text sheet_form (sheet_vals s)

-- each number fits a signed 64-bit one; a line with one that does not is nothing that can be written
abbrev pub most : ℕ
most = 9223372036854775807

unfoldable pub amounts_printable : Amounts → Bool
amounts_printable a =
    leb a.inflow.0 most
    && leb a.runoff.0 most
    && leb a.etvad.0 most
    && leb a.etstor.0 most
    && leb a.etsat.0 most
    && leb a.drain.0 most
    && leb a.release.0 most
    && leb a.stored.0 most
    && leb a.left.0 most

unfoldable pub sheet_printable : Sheet → Bool
sheet_printable s =
    leb s.steps most
    && leb s.inflow.0 most
    && leb s.runoff.0 most
    && leb s.etvad.0 most
    && leb s.etstor.0 most
    && leb s.etsat.0 most
    && leb s.drain.0 most
    && leb s.release.0 most
    && leb s.stored.0 most

-- the checks of a printed line: whether it can be written, and the room for it
abbrev pub line_checks : Bool → List ℕ → List ℕ → List (ℕ × Bool)
line_checks printable t b = (malformed, printable) ∷ (malformed, fits_in t b) ∷ []
