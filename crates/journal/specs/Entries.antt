-- The entries of a journal, readings and voids, read first, then answered. Definitions only.
use Rattle.std.specs.Prelude.{ℕ, zero, suc, Bool, true, false, cond, List, [], ◌∷◌, ◌++◌, map, eqb, ℤ, length, drop}
use Rattle.cell.specs.Answers.{Answer}
use Rattle.cell.specs.declared.Card.{Card}
use Rattle.cell.specs.declared.Entry.{Entry}
use Rattle.cell.specs.Ranges.{cell_of}
use Rattle.site.specs.Site.{site_answer, site_rows}
use Rattle.text.specs.Voids.{read_entry}
use Rattle.text.specs.Printed.{answer_text}

-- the entries of a text in their order up to the first malformed line, and whether there is none
pub record EntriesRead : Type 0 where
  pub entries : List Entry
  pub well_formed : Bool

-- at the end of the text, at a malformed line, and at an entry with what is read behind it
abbrev pub at_end : EntriesRead
at_end = record { entries = []; well_formed = true }

abbrev pub at_malformed : EntriesRead
at_malformed = record { entries = []; well_formed = false }

abbrev pub at_entry : Entry → EntriesRead → EntriesRead
at_entry e later = record { entries = e ∷ later.entries; well_formed = later.well_formed }

-- those of s; each takes a byte or more, so n = length s of them are enough
unfoldable pub entries_in : ℕ → List ℕ → EntriesRead
entries_in zero s = at_end
entries_in (suc n) s =
    let x = read_entry s in
    let more = at_entry x.entry (entries_in n (drop x.taken s)) in
    let line = cond (eqb x.number 0) more at_malformed in
    cond (eqb (length s) 0) at_end line

-- an entry's cell as read, and its answer
pub record Answered : Type 0 where
  pub cell : ℕ
  pub answer : Answer

-- those of entries, each answered from the rows that the one before it left
unfoldable pub answered_of : Card → List ℤ → List ℕ → List Entry → List Answered
answered_of card soil rows [] = []
answered_of card soil rows (e ∷ es) = record { cell = cell_of e; answer = site_answer card soil rows e } ∷ answered_of card soil (site_rows card soil rows e) es

abbrev pub answers_of : List Answered → List Answer
answers_of xs = map (λ (x : Answered). x.answer) xs

-- a line for each
abbrev pub lines_text : List Answered → List ℕ
lines_text [] = []
lines_text (x ∷ xs) = answer_text x.cell x.answer ++ lines_text xs
