-- What each call gives, for every input. A record that has not its count of numbers is refused with 255, and nothing is changed. Definitions only.
use Rattle.std.specs.Prelude.{ℕ, ◌≡◌, Bool, cond, ◌&&◌, ◌||◌, List, [], ◌∷◌, eqb, leb, ℤ, length, Ok}
use Rattle.cell.specs.Answers.{Answer}
use Rattle.cell.specs.declared.Card.{Card}
use Rattle.cell.specs.declared.Collected.{Collected}
use Rattle.cell.specs.declared.Entry.{Entry}
use Rattle.cell.specs.declared.Refusal.TheVariants.{JammedBucket, InactiveHead, FullSums}
use Rattle.cell.specs.Refusals.{refusal_number, not_addable, number_of, amounts_of}
use Rattle.cell.specs.Ranges.{row_width}
use Rattle.cell.specs.Collect.{collected_by, list_by}
use Rattle.site.specs.declared.Added.{Added}
use Rattle.site.specs.Rows.{part_at}
use Rattle.site.specs.Site.{site_answer, site_rows, clear_number, clear_rows}
use Rattle.site.specs.Forms.{collecting_number, collected_rows, grow_number, grown_rows, shrink_number, shrunk_rows}
use Rattle.site.specs.Sheet.{added_of}
use Rattle.text.specs.Reads.{CardRead}
use Rattle.text.specs.Written.{written, buffer}
use Rattle.text.specs.Cards.{parse, card_result, soil_result, card_text, card_checks}
use Rattle.text.specs.Readings.{read_reading, text_of, reading_checks}
use Rattle.text.specs.Voids.{read_void, void_text, void_checks}
use Rattle.text.specs.Printed.{line_text, sheet_text, line_checks}
use Rattle.shapes.specs.Shapes.{ill_shaped, wide, reading_width, reading_from, reading_numbers, notice_width, notice_from, notice_numbers}
use Rattle.gateway.specs.Shapes.{card_width, card_from, card_numbers, both_sums, collected_numbers, amounts_width, amount_numbers, amounts_from, sheet_width, sheet_numbers, sheet_from, amounts_recharge, sheet_recharge, signs_from, zeros}

-- Of each call: what it gives, shaped or not; then when it is shaped, and what it comes to.

-- ---- a step: the site's answer, and the rows after it
pub record GivesAnswer (shaped : Bool) (answer : Answer) (after rows : List ℕ) (amounts : List ℤ) (number : ℕ) (rows' : List ℕ) (amounts' : List ℤ) : Type 0 where
  pub number_is : number ≡ cond shaped (number_of answer) ill_shaped
  pub rows_are : rows' ≡ cond shaped after rows
  pub amounts_are : amounts' ≡ cond shaped (amount_numbers (amounts_of answer)) amounts

-- of an entry, a reading or a void [3]
abbrev pub Enters : Bool → Card → List ℤ → List ℕ → Entry → List ℤ → ℕ → List ℕ → List ℤ → Type 0
Enters shaped card soil rows e amounts = GivesAnswer shaped (site_answer card soil rows e) (site_rows card soil rows e) rows amounts

abbrev pub Steps : List ℕ → List ℤ → List ℕ → List ℕ → List ℤ → ℕ → List ℕ → List ℤ → Type 0
Steps card soil rows reading amounts =
    Enters (wide card card_width && wide reading reading_width && wide amounts amounts_width) (card_from card) soil rows (Entry.Reading (reading_from reading)) amounts

abbrev pub Voids : List ℕ → List ℤ → List ℕ → List ℕ → List ℤ → ℕ → List ℕ → List ℤ → Type 0
Voids card soil rows notice amounts =
    Enters (wide card card_width && wide notice notice_width && wide amounts amounts_width) (card_from card) soil rows (Entry.Void (notice_from notice)) amounts

-- ---- clearing, and the moves to rows of another width
pub record GivesRows (shaped : Bool) (says : ℕ) (after rows : List ℕ) (number : ℕ) (rows' : List ℕ) : Type 0 where
  pub number_is : number ≡ cond shaped says ill_shaped
  pub rows_are : rows' ≡ cond shaped after rows

abbrev pub Clears : List ℕ → List ℕ → ℕ → List ℕ → Type 0
Clears card rows = GivesRows (wide card card_width) (clear_number (card_from card) rows) (clear_rows (card_from card) rows) rows

-- [6] the move over writes `rows`, and the move back `old`
abbrev pub Grows : List ℕ → List ℕ → List ℕ → ℕ → List ℕ → Type 0
Grows card old rows =
    let number = grow_number (card_from card) old rows in
    GivesRows (wide card card_width) number (list_by number (grown_rows (card_from card) old) rows) rows

-- [6]
abbrev pub Shrinks : List ℕ → List ℕ → List ℕ → ℕ → List ℕ → Type 0
Shrinks card rows old =
    let number = shrink_number (card_from card) rows old in
    GivesRows (wide card card_width) number (list_by number (shrunk_rows (card_from card) rows) old) old

-- ---- [6] collecting a cell: what the site collects, two zeros where it refuses, and the rows after it
pub record GivesSums (shaped : Bool) (says : ℕ) (got : Collected) (after rows sums : List ℕ) (number : ℕ) (rows' sums' : List ℕ) : Type 0 where
  pub number_is : number ≡ cond shaped says ill_shaped
  pub rows_are : rows' ≡ cond shaped after rows
  pub sums_are : sums' ≡ cond shaped (collected_numbers got) sums

abbrev pub Collects : List ℕ → List ℕ → ℕ → List ℕ → ℕ → List ℕ → List ℕ → Type 0
Collects card rows cell sums =
    let number = collecting_number (card_from card) rows cell in
    GivesSums (wide card card_width && wide sums both_sums) number (collected_by number (part_at (row_width (card_from card)) cell rows)) (list_by number (collected_rows (card_from card) cell rows) rows) rows sums

-- ---- adding an answer to a sheet
-- by number and signs an answer can be added: accepted, and no number of the sheet or of the answer negative but recharge
abbrev pub can_add : List ℤ → ℕ → List ℤ → Bool
can_add sheet number amounts = eqb number 0 && signs_from 0 sheet_recharge sheet && signs_from 0 amounts_recharge amounts

-- where it can, what the site says; else 11, and the sheet as it came
abbrev pub added_to : List ℤ → ℕ → List ℤ → Added
added_to sheet number amounts =
    cond (can_add sheet number amounts) (added_of (sheet_from sheet) (Ok (amounts_from amounts))) (record { sheet = sheet_from sheet; number = not_addable })

-- only a sheet to which an answer was added changes
pub record GivesSheet (shaped : Bool) (added : Added) (sheet : List ℤ) (number : ℕ) (sheet' : List ℤ) : Type 0 where
  pub number_is : number ≡ cond shaped added.number ill_shaped
  pub sheet_is : sheet' ≡ cond (shaped && eqb added.number 0) (sheet_numbers added.sheet) sheet

abbrev pub Adds : List ℤ → ℕ → List ℤ → ℕ → List ℤ → Type 0
Adds sheet number amounts = GivesSheet (wide sheet sheet_width && wide amounts amounts_width) (added_to sheet number amounts) sheet

-- ---- texts that are read: `got` takes the bytes taken and the malformed line
abbrev pub got_width : ℕ
got_width = 2

pub record GivesCard (shaped : Bool) (read : CardRead) (filled : List ℤ) (card : List ℕ) (soil : List ℤ) (got : List ℕ) (number : ℕ) (card' : List ℕ) (soil' : List ℤ) (got' : List ℕ) : Type 0 where
  pub number_is : number ≡ cond shaped read.number ill_shaped
  pub card_is : card' ≡ cond shaped (card_numbers read.card) card
  pub soil_is : soil' ≡ cond shaped filled soil
  pub got_is : got' ≡ cond shaped (read.taken ∷ read.line ∷ []) got

abbrev pub ReadsCard : List ℕ → List ℕ → List ℤ → List ℕ → ℕ → List ℕ → List ℤ → List ℕ → Type 0
ReadsCard text card soil got = GivesCard (wide card card_width && wide got got_width) (card_result (parse text) (length soil)) (soil_result (parse text) soil) card soil got

-- one line: the number of the call, the numbers of its record, and what `got` takes
pub record GivesLine (shaped : Bool) (reads : ℕ) (numbers gets line got : List ℕ) (number : ℕ) (line' got' : List ℕ) : Type 0 where
  pub number_is : number ≡ cond shaped reads ill_shaped
  pub line_is : line' ≡ cond shaped numbers line
  pub got_is : got' ≡ cond shaped gets got

abbrev pub ReadsReading : List ℕ → List ℕ → List ℕ → ℕ → List ℕ → List ℕ → Type 0
ReadsReading text reading got =
    let read = read_reading text in
    GivesLine (wide reading reading_width && wide got got_width) read.number (reading_numbers read.reading) (read.taken ∷ read.line ∷ []) reading got

-- [3]
abbrev pub ReadsVoid : List ℕ → List ℕ → List ℕ → ℕ → List ℕ → List ℕ → Type 0
ReadsVoid text notice got =
    let read = read_void text in
    GivesLine (wide notice notice_width && wide got got_width) read.number (notice_numbers read.notice) (read.taken ∷ read.line ∷ []) notice got

-- ---- texts that are written: `got` takes the length and 0
pub record WritesText (shaped : Bool) (checks : List (ℕ × Bool)) (text buf got : List ℕ) (number : ℕ) (buf' got' : List ℕ) : Type 0 where
  pub number_is : number ≡ cond shaped (written checks text).number ill_shaped
  pub buffer_is : buf' ≡ cond shaped (buffer checks text buf) buf
  pub got_is : got' ≡ cond shaped ((written checks text).len ∷ 0 ∷ []) got

abbrev pub WritesCard : List ℕ → List ℤ → List ℕ → List ℕ → ℕ → List ℕ → List ℕ → Type 0
WritesCard card soil buf got = WritesText (wide card card_width && wide got got_width) (card_checks (card_from card) soil buf) (card_text (card_from card) soil) buf got

abbrev pub WritesReading : List ℕ → List ℕ → List ℕ → ℕ → List ℕ → List ℕ → Type 0
WritesReading reading buf got = WritesText (wide reading reading_width && wide got got_width) (reading_checks (reading_from reading) buf) (text_of (reading_from reading)) buf got

-- [3]
abbrev pub WritesVoid : List ℕ → List ℕ → List ℕ → ℕ → List ℕ → List ℕ → Type 0
WritesVoid notice buf got = WritesText (wide notice notice_width && wide got got_width) (void_checks (notice_from notice) buf) (void_text (notice_from notice)) buf got

-- by number and signs a host's number and amounts can be an answer of a step: accepted, and no amount negative but recharge; or refused by one of its checks, 1 to 10, 15 [6] or 17 [7], with ten zeros
unfoldable pub is_answer : ℕ → List ℤ → Bool
is_answer number amounts =
    cond (eqb number 0) (signs_from 0 amounts_recharge amounts)
    ((leb number (refusal_number InactiveHead) || eqb number (refusal_number FullSums) || eqb number (refusal_number JammedBucket)) && zeros amounts)

abbrev pub WritesAnswer : ℕ → ℕ → List ℤ → List ℕ → List ℕ → ℕ → List ℕ → List ℕ → Type 0
WritesAnswer cell number amounts buf got =
    let line : List ℕ = line_text cell number (amounts_from amounts) in
    WritesText (wide amounts amounts_width && wide got got_width) (line_checks (is_answer number amounts) line buf) line buf got

abbrev pub WritesSheet : List ℤ → List ℕ → List ℕ → ℕ → List ℕ → List ℕ → Type 0
WritesSheet sheet buf got =
    let line : List ℕ = sheet_text (sheet_from sheet) in
    WritesText (wide sheet sheet_width && wide got got_width) (line_checks (signs_from 0 sheet_recharge sheet) line buf) line buf got
