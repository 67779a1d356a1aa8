-- [6] Collecting the sums of a row. Definitions only.
use Rattle.std.specs.Prelude.{ℕ, zero, suc, ◌≡◌, List, [], ◌∷◌, Result, Ok, Err}
use Rattle.cell.specs.declared.Card.{Card}
use Rattle.cell.specs.declared.Collected.{Collected}
use Rattle.cell.specs.declared.Refusal.{Refusal}
use Rattle.cell.specs.declared.Refusal.TheVariants.{BadCard, BadRow}
use Rattle.cell.specs.Water.{water}
use Rattle.cell.specs.Ranges.{card_ok, row_ok}
use Rattle.cell.specs.Refusals.{refusal_number, first_failing, number_of, unless}
use Rattle.cell.specs.Sums.{runoff_at, drain_at, sum_of, emptied}

-- checks 1 and 5; 2 and 3 are the site's
unfoldable pub collect_number : Card → List ℕ → ℕ
collect_number card row = first_failing ((refusal_number BadCard, card_ok card) ∷ (refusal_number BadRow, row_ok card row) ∷ [])

-- both sums of the row
abbrev pub sums_in : List ℕ → Collected
sums_in row = record { runoff = water (sum_of runoff_at row); drain = water (sum_of drain_at row) }

-- those by a number: nothing where it is not 0
abbrev pub collected_by : ℕ → List ℕ → Collected
collected_by zero row = sums_in row
collected_by (suc n) row = record { runoff = water 0; drain = water 0 }

-- what was collected: nothing where the call was refused
abbrev pub sums_of : Result Collected Refusal → Collected
sums_of (Ok sums) = sums
sums_of (Err why) = record { runoff = water 0; drain = water 0 }

-- what the call answers: both sums, or the refusal of the check that fails
unfoldable pub collect_answer : Card → List ℕ → Result Collected Refusal
collect_answer card row = unless (card_ok card) BadCard (unless (row_ok card row) BadRow (Ok (sums_in row)))

-- a list by a number: as it came where the call was refused
abbrev pub list_by : ℕ → List ℕ → List ℕ → List ℕ
list_by zero after before = after
list_by (suc n) after before = before

-- what collecting a row gives: both sums, which are then 0, and nothing else changes
pub record CollectGives (card : Card) (row : List ℕ) (got : Result Collected Refusal) (after : List ℕ) : Type 0 where
  pub answer_is : got ≡ collect_answer card row
  pub number_is : number_of got ≡ collect_number card row
  pub got_is : sums_of got ≡ collected_by (collect_number card row) row
  pub row_is : after ≡ list_by (collect_number card row) (emptied row) row
