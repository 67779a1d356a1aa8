-- A step of the site, and clearing. Definitions only.
use Rattle.std.specs.Prelude.{ℕ, ◌*◌, ◌≡◌, Bool, true, false, cond, not, ◌&&◌, List, [], ◌∷◌, ◌++◌, ltb, eqb, ℤ, length, replicate, Result, Ok, Err}
use Rattle.cell.specs.Answers.{Answer}
use Rattle.cell.specs.declared.Card.{Card}
use Rattle.cell.specs.declared.Entry.{Entry}
use Rattle.cell.specs.declared.Refusal.{Refusal}
use Rattle.cell.specs.declared.Refusal.TheVariants.{BadCard, BadLengths, BadCell}
use Rattle.cell.specs.Ranges.{card_ok, soil_ok, row_width, row_ok, life_of, next_of, notice_of, cell_of}
use Rattle.cell.specs.Refusals.{refusal_number, first_failing, number_of, nothing, amounts_of, is_old, is_gap, field_checks}
use Rattle.cell.specs.Step.{sum_checks, answer_of, new_row}
use Rattle.site.specs.Rows.{part_at, put_at}

-- 5 soil numbers per cell; how many numbers a stored row has is the card's
abbrev pub soil_width : ℕ
soil_width = 5

-- 2. the two slices are as long as the card says
unfoldable pub soil_fits : Card → List ℤ → Bool
soil_fits card soil = eqb (length soil) (soil_width * card.cells)

unfoldable pub rows_fit : Card → List ℕ → Bool
rows_fit card rows = eqb (length rows) (row_width card * card.cells)

-- 3. the cell number is below cells
unfoldable pub cell_fits : Card → Entry → Bool
cell_fits card e = ltb (cell_of e) card.cells

-- the checks of a step, 1 to 8, 17 [7], 9, 10 and 15 [6], of a void [3] 1 to 8: the number of each, and whether it is passed
unfoldable pub checks_of : Card → List ℤ → List ℕ → Entry → List (ℕ × Bool)
checks_of card soil rows e =
    let own : List ℤ = part_at soil_width (cell_of e) soil in
    let row : List ℕ = part_at (row_width card) (cell_of e) rows in
    (1, card_ok card)
    ∷ (2, soil_fits card soil && rows_fit card rows)
    ∷ (3, cell_fits card e)
    ∷ (4, soil_ok own)
    ∷ (5, row_ok card row)
    ∷ (6, not (is_old (life_of row) (next_of row) (notice_of e)))
    ∷ (7, not (is_gap (life_of row) (next_of row) (notice_of e)))
    ∷ (field_checks e ++ sum_checks card own row e)

-- a check: refused with `why` where it fails, else what comes next
unfoldable pub refuse : {A : Type 0} → Bool → Refusal → Result A Refusal → Result A Refusal
refuse true why next = next
refuse false why next = Err why

-- checks 1, 2 and 3, then the step of the named cell's row with its soil numbers
unfoldable pub site_answer : Card → List ℤ → List ℕ → Entry → Answer
site_answer card soil rows e =
    refuse (card_ok card) BadCard
    (refuse (soil_fits card soil && rows_fit card rows) BadLengths
    (refuse (cell_fits card e) BadCell
    (answer_of card (part_at soil_width (cell_of e) soil) (part_at (row_width card) (cell_of e) rows) e)))

-- a slice by an answer: as it came where it was refused
unfoldable pub rows_by : Answer → List ℕ → List ℕ → List ℕ
rows_by (Ok a) after rows = after
rows_by (Err why) after rows = rows

-- the rows after a step: accepted, the named cell's row is the new one and no other number changes
unfoldable pub site_rows : Card → List ℤ → List ℕ → Entry → List ℕ
site_rows card soil rows e =
    rows_by (site_answer card soil rows e)
    (put_at (row_width card) (cell_of e) (new_row card (part_at soil_width (cell_of e) soil) (part_at (row_width card) (cell_of e) rows) e) rows)
    rows

-- what a step of the site gives, for every input: the number of the first check that fails and ten zero amounts; or 0 and the named row's amounts
pub record SiteGives (card : Card) (soil : List ℤ) (rows : List ℕ) (e : Entry) (answer : Answer) (after : List ℕ) : Type 0 where
  pub answer_is : answer ≡ site_answer card soil rows e
  pub number_is : number_of answer ≡ first_failing (checks_of card soil rows e)
  pub amounts_are : amounts_of answer
      ≡ cond (eqb (first_failing (checks_of card soil rows e)) 0) (amounts_of (answer_of card (part_at soil_width (cell_of e) soil) (part_at (row_width card) (cell_of e) rows) e)) nothing
  pub rows_are : after ≡ site_rows card soil rows e

-- ---- clearing: knows 1 and the row part of 2 only
unfoldable pub clear_number : Card → List ℕ → ℕ
clear_number card rows = first_failing ((refusal_number BadCard, card_ok card) ∷ (refusal_number BadLengths, rows_fit card rows) ∷ [])

-- nothing to say, or the refusal of the check that fails
unfoldable pub clear_answer : Card → List ℕ → Result (Unit {0}) Refusal
clear_answer card rows = refuse (card_ok card) BadCard (refuse (rows_fit card rows) BadLengths (Ok tt))

-- sets all rows of the site to 0; refused, the slice is as it came
unfoldable pub clear_rows : Card → List ℕ → List ℕ
clear_rows card rows = cond (eqb (clear_number card rows) 0) (replicate (length rows) 0) rows

pub record ClearGives (card : Card) (rows : List ℕ) (answer : Result (Unit {0}) Refusal) (after : List ℕ) : Type 0 where
  pub answer_is : answer ≡ clear_answer card rows
  pub number_is : number_of answer ≡ clear_number card rows
  pub rows_are : after ≡ clear_rows card rows
