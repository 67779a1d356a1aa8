-- [6] A site whose rows are kept in either form: steps, collections and moves one after the other, what they gave, and what a plot's sums hold. Definitions only.
use Rattle.std.specs.Prelude.{cond, List, [], ◌∷◌, ℕ, ◌+◌, ◌*◌, eqb, length, Result}
use Rattle.cell.specs.Answers.{Answer}
use Rattle.cell.specs.declared.Amounts.{Amounts}
use Rattle.cell.specs.declared.Card.{Card}
use Rattle.cell.specs.declared.Collected.{Collected}
use Rattle.cell.specs.Ranges.{row_width}
use Rattle.cell.specs.Sums.{front_width, runoff_at, drain_at, sum_of}
use Rattle.cell.specs.declared.Refusal.{Refusal}
use Rattle.cell.specs.Collect.{sums_of, list_by}
use Rattle.site.specs.Rows.{part_at}
use Rattle.site.specs.Site.{SiteGives}
use Rattle.site.specs.Forms.{SumsGive, GrowGives, ShrinkGives}
use Rattle.account.specs.Ledger.{History}
use Rattle.account.specs.Run.{Call, noted}

-- the row of a plot: in a slice of 32 numbers for each cell it has no sums; any other slice is read as the card says
abbrev pub width_in : Card → List ℕ → ℕ
width_in card rows = cond (eqb (length rows) (front_width * card.cells)) front_width (row_width card)

abbrev pub row_in : Card → ℕ → List ℕ → List ℕ
row_in card p rows = part_at (width_in card rows) p rows

-- a call: a step, collecting a cell, the move over and the move back, each into the slice that it is lent
pub data Act : Type 0 where
  enter : Call → Act
  collect : ℕ → Act
  over : List ℕ → Act
  back : List ℕ → Act

-- what it gave: an answer, sums or why there are none, or the number of a move
pub data Outcome : Type 0 where
  answered : Answer → Outcome
  got : Result Collected Refusal → Outcome
  moved : ℕ → Outcome

-- what calls gave one after the other: any outcomes and rows that meet the contracts of `site::step`, `collect`, `grow` and `shrink`.
-- After a move that was made the site goes on with the slice that was written, after one that was refused with the slice that it had
pub data Went (card : Card) : List ℕ → List Act → List Outcome → List ℕ → Type 0 where
  done : {rows : List ℕ} → Went card rows [] [] rows
  entered : {rows next after : List ℕ} {c : Call} {answer : Answer} {acts : List Act} {outs : List Outcome}
      → SiteGives card c.soil rows c.entry answer next → Went card next acts outs after → Went card rows (enter c ∷ acts) (answered answer ∷ outs) after
  collected : {rows next after : List ℕ} {cell : ℕ} {sums : Result Collected Refusal} {acts : List Act} {outs : List Outcome}
      → SumsGive card rows cell sums next → Went card next acts outs after → Went card rows (collect cell ∷ acts) (got sums ∷ outs) after
  went_over : {rows to new after : List ℕ} {number : ℕ} {acts : List Act} {outs : List Outcome}
      → GrowGives card rows to number new → Went card (list_by number new rows) acts outs after → Went card rows (over to ∷ acts) (moved number ∷ outs) after
  went_back : {rows to old after : List ℕ} {number : ℕ} {acts : List Act} {outs : List Outcome}
      → ShrinkGives card rows to number old → Went card (list_by number old rows) acts outs after → Went card rows (back to ∷ acts) (moved number ∷ outs) after

-- the history of plot p after such calls, h before them: neither collecting nor a move is a step
abbrev pub history_in : {card : Card} {rows after : List ℕ} {acts : List Act} {outs : List Outcome} → ℕ → History → Went card rows acts outs after → History
history_in p h done = h
history_in {card} p h (entered {rows = rows} {c = c} {answer = answer} g went) = history_in p (noted card p rows c answer h) went
history_in p h (collected g went) = history_in p h went
history_in p h (went_over g went) = history_in p h went
history_in p h (went_back g went) = history_in p h went

-- ---- the two sums: where each stands in a row, which amount of an answer it adds up, what collecting gives of it, and the most that a step adds
pub data Sum : Type 0 where
  ran_off : Sum
  drained : Sum

abbrev pub place_of : Sum → ℕ
place_of ran_off = runoff_at
place_of drained = drain_at

abbrev pub amount_of : Sum → Amounts → ℕ
amount_of ran_off a = a.runoff.0
amount_of drained a = a.drain.0

abbrev pub got_of : Sum → Collected → ℕ
got_of ran_off c = c.runoff.0
got_of drained c = c.drain.0

abbrev pub most_of : Sum → ℕ
most_of ran_off = 2000000
most_of drained = 20000000000

-- what plot p's row still holds of a sum
abbrev pub held_in : Card → ℕ → Sum → List ℕ → ℕ
held_in card p k rows = sum_of (place_of k) (row_in card p rows)

-- what the calls gave of it, together
abbrev pub collected_of : {card : Card} {rows after : List ℕ} {acts : List Act} {outs : List Outcome} → ℕ → Sum → Went card rows acts outs after → ℕ
collected_of p k done = 0
collected_of p k (entered g went) = collected_of p k went
collected_of p k (collected {cell = cell} {sums = sums} g went) = cond (eqb cell p) (got_of k (sums_of sums)) 0 + collected_of p k went
collected_of p k (went_over g went) = collected_of p k went
collected_of p k (went_back g went) = collected_of p k went

-- so many accepted steps since the sums were 0 never meet 15
abbrev pub safe_steps : ℕ
safe_steps = 50000000
