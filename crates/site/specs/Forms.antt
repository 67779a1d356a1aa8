-- [6] The two forms of stored rows, without sums and with them: the move over and back; and collecting a cell. Definitions only.
use Rattle.std.specs.Prelude.{ℕ, ◌+◌, ◌≡◌, true, false, List, [], ◌∷◌, ltb, Result}
use Rattle.cell.specs.declared.Card.{Card}
use Rattle.cell.specs.declared.Collected.{Collected}
use Rattle.cell.specs.declared.Refusal.{Refusal}
use Rattle.cell.specs.declared.Refusal.TheVariants.{BadCard, BadLengths, BadCell, BadRow}
use Rattle.cell.specs.Ranges.{card_ok, row_width, row_ok}
use Rattle.cell.specs.Refusals.{refusal_number, first_failing, number_of}
use Rattle.cell.specs.Sums.{front_width, runoff_at, sum_numbers, emptied}
use Rattle.cell.specs.Collect.{collected_by, sums_of, collect_answer, list_by}
use Rattle.site.specs.Rows.{part_at, put_at}
use Rattle.site.specs.Site.{rows_fit, refuse}
use Rattle.site.specs.Moves.{recut_all, move_number, MoveGives}

-- a row with sums
abbrev pub sums_width : ℕ
sums_width = front_width + sum_numbers

-- ---- the move over: each row gets its sums after the slots, at 0
abbrev pub grow_number : Card → List ℕ → List ℕ → ℕ
grow_number card old new = move_number front_width sums_width false card old new

abbrev pub grown_rows : Card → List ℕ → List ℕ
grown_rows card old = recut_all card.cells front_width runoff_at 0 sum_numbers old

abbrev pub GrowGives : Card → List ℕ → List ℕ → ℕ → List ℕ → Type 0
GrowGives card old new number after = MoveGives front_width runoff_at 0 sum_numbers false card old new number after

-- ---- the move back: the sums, which must all be 0, are taken out
abbrev pub shrink_number : Card → List ℕ → List ℕ → ℕ
shrink_number card new old = move_number sums_width front_width true card new old

abbrev pub shrunk_rows : Card → List ℕ → List ℕ
shrunk_rows card new = recut_all card.cells sums_width runoff_at sum_numbers 0 new

abbrev pub ShrinkGives : Card → List ℕ → List ℕ → ℕ → List ℕ → Type 0
ShrinkGives card new old number after = MoveGives sums_width runoff_at sum_numbers 0 true card new old number after

-- ---- collecting a cell: 1, 2, 3, and 5 for its row
unfoldable pub collecting_number : Card → List ℕ → ℕ → ℕ
collecting_number card rows cell =
    first_failing
    ((refusal_number BadCard, card_ok card)
    ∷ (refusal_number BadLengths, rows_fit card rows)
    ∷ (refusal_number BadCell, ltb cell card.cells)
    ∷ (refusal_number BadRow, row_ok card (part_at (row_width card) cell rows))
    ∷ [])

unfoldable pub collected_rows : Card → ℕ → List ℕ → List ℕ
collected_rows card cell rows = put_at (row_width card) cell (emptied (part_at (row_width card) cell rows)) rows

-- both sums, or the refusal of the check that fails
unfoldable pub collecting_answer : Card → List ℕ → ℕ → Result Collected Refusal
collecting_answer card rows cell =
    refuse (card_ok card) BadCard
    (refuse (rows_fit card rows) BadLengths
    (refuse (ltb cell card.cells) BadCell
    (collect_answer card (part_at (row_width card) cell rows))))

-- both sums of the cell, which are then 0, and no other number of the slice changes
pub record SumsGive (card : Card) (rows : List ℕ) (cell : ℕ) (got : Result Collected Refusal) (after : List ℕ) : Type 0 where
  pub answer_is : got ≡ collecting_answer card rows cell
  pub number_is : number_of got ≡ collecting_number card rows cell
  pub got_is : sums_of got ≡ collected_by (collecting_number card rows cell) (part_at (row_width card) cell rows)
  pub rows_are : after ≡ list_by (collecting_number card rows cell) (collected_rows card cell rows) rows
