-- Everything that `waterbook` prints, for every input. Definitions only.
use Rattle.std.specs.Prelude.{ℕ, ◌+◌, ◌*◌, ◌≡◌, cond, List, [], ◌∷◌, ◌++◌, eqb, leb, ltb, ℤ, pos, length, drop, replicate}
use Rattle.form.specs.Bytes.{bytes}
use Rattle.form.specs.Form.{form_text}
use Rattle.cell.specs.declared.Card.{Card}
use Rattle.cell.specs.Ranges.{row_width}
use Rattle.site.specs.declared.Sheet.{Sheet}
use Rattle.site.specs.Site.{clear_number, clear_rows}
use Rattle.site.specs.Sheet.{no_steps, after_all}
use Rattle.text.specs.Cards.{parse}
use Rattle.text.specs.Printed.{sheet_text}
use Rattle.journal.specs.Entries.{entries_in, answered_of, answers_of, lines_text}

-- ---- the lines that stand for a refusal
abbrev pub code_form : List ℕ
code_form = bytes "code=#\n"

abbrev pub malformed_form : List ℕ
malformed_form = bytes "code=12 line=#\n"

unfoldable pub code_text : ℕ → List ℕ
code_text number = form_text code_form (pos number ∷ [])

unfoldable pub malformed_text : ℕ → List ℕ
malformed_text line = form_text malformed_form (pos line ∷ [])

-- ---- the entries
-- a line per entry, then the sheet; at a malformed line its number, and no sheet. `line` is the number of the line that stands first in s
unfoldable pub entries_text : ℕ → Card → List ℤ → List ℕ → Sheet → ℕ → List ℕ → List ℕ
entries_text n card soil rows sheet line s =
    let read = entries_in n s in
    let answered = answered_of card soil rows read.entries in
    lines_text answered ++ cond read.well_formed (sheet_text (after_all sheet (answers_of answered))) (malformed_text (line + length answered))

-- ---- the book
-- no row is stored before the site is cleared
abbrev pub fresh_rows : Card → List ℕ
fresh_rows card = replicate (row_width card * card.cells) 0

-- with the card read: cleared, then the entries, which start below the card's lines
unfoldable pub cleared_text : Card → List ℤ → List ℕ → List ℕ → List ℕ
cleared_text card soil rows rest =
    let number = clear_number card rows in
    let more = entries_text (length rest) card soil (clear_rows card rows) no_steps (card.cells + 2) rest in
    cond (eqb number 0) more (code_text number)

-- more than 65,536 bytes are line 0; else the whole card first, and its malformed line where it has one
abbrev pub input_limit : ℕ
input_limit = 65536

unfoldable pub book_of : List ℕ → List ℕ
book_of s =
    let p = parse s in
    let more = cond (eqb p.line 0) (cleared_text p.card p.soil (fresh_rows p.card) (drop p.next s)) (malformed_text p.line) in
    cond (ltb input_limit (length s)) (malformed_text 0) more

-- ---- the buffer
-- so many bytes are asked for, and suffice, for an input of n bytes
unfoldable pub room_for : ℕ → ℕ
room_for n = 5 * n + 300

-- what writing the book of s into the buffer b gives: its length, and the book at the buffer's start with no byte after it changed; in a buffer that is too short nothing, and length 0, which no book has
pub record BookGives (s b : List ℕ) (len : ℕ) (after : List ℕ) : Type 0 where
  pub length_is : len ≡ cond (leb (room_for (length s)) (length b)) (length (book_of s)) 0
  pub buffer_is : after ≡ cond (leb (room_for (length s)) (length b)) (book_of s ++ drop (length (book_of s)) b) b
