-- [3] Voids as text, and entries: what reading one finds, its one text, and what writing one checks. Definitions only.
use Rattle.std.specs.Prelude.{ℕ, List, [], ◌∷◌, Bool, cond, eqb, get_or, ℤ, pos, Result}
use Rattle.cell.specs.declared.Entry.{Entry}
use Rattle.cell.specs.declared.Notice.{Notice}
use Rattle.cell.specs.Refusals.{malformed}
use Rattle.form.specs.Form.{Out, form_at, form_text}
use Rattle.form.specs.Words.{word_of}
use Rattle.text.specs.declared.Read.{Read}
use Rattle.text.specs.declared.Unread.{Unread}
use Rattle.text.specs.Reads.{ReadingRead, VoidRead, EntryRead, number_read, taken_read, line_read, value_read}
use Rattle.text.specs.Lines.{void_form}
use Rattle.text.specs.Readings.{fields_of, read_reading, text_of}
use Rattle.text.specs.Written.{fits_in}

-- the values of a void's line, and back
abbrev pub void_vals : Notice → List ℤ
void_vals n = pos n.cell ∷ pos n.life ∷ pos n.count ∷ []

abbrev pub notice_at : List ℤ → Notice
notice_at vs = record { cell = word_of (get_or vs 0 (pos 0)); life = word_of (get_or vs 1 (pos 0)); count = word_of (get_or vs 2 (pos 0)) }

-- the one text of a void
unfoldable pub void_text : Notice → List ℕ
void_text n = form_text void_form (void_vals n)

-- what reading a void at the start of s gives
abbrev pub void_result : Out → VoidRead
void_result o =
    cond o.ok (record { number = 0; taken = o.next; line = 0; notice = notice_at o.vals }) (record { number = malformed; taken = 0; line = 1; notice = notice_at [] })

unfoldable pub read_void : List ℕ → VoidRead
read_void s = void_result (form_at void_form s 0)

-- a refused reader gives a void of zeros
abbrev pub void_given : Result (Read Notice) Unread → VoidRead
void_given r = record { number = number_read r; taken = taken_read r; line = line_read r; notice = value_read (notice_at []) r }

-- writing a void knows only the short buffer
abbrev pub void_checks : Notice → List ℕ → List (ℕ × Bool)
void_checks n b = (malformed, fits_in (void_text n) b) ∷ []

-- ---- an entry: a void where one stands there, else what a reading gives
abbrev pub voided : VoidRead → EntryRead
voided v = record { number = 0; taken = v.taken; line = 0; entry = Entry.Void v.notice }

abbrev pub as_read : ReadingRead → EntryRead
as_read x = record { number = x.number; taken = x.taken; line = x.line; entry = Entry.Reading x.reading }

unfoldable pub read_entry : List ℕ → EntryRead
read_entry s = cond (eqb (read_void s).number 0) (voided (read_void s)) (as_read (read_reading s))

-- a refused reader gives a reading of zeros
abbrev pub entry_given : Result (Read Entry) Unread → EntryRead
entry_given r = record { number = number_read r; taken = taken_read r; line = line_read r; entry = value_read (Entry.Reading (fields_of [])) r }

abbrev pub entry_text : Entry → List ℕ
entry_text (Entry.Reading r) = text_of r
entry_text (Entry.Void n) = void_text n
