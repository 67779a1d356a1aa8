-- What reading gives, in the numbers of its caller: the number, the bytes taken, the malformed line within the text that was read, and what was read. A refused reader takes no byte and gives zeros. Definitions only.
use Rattle.std.specs.Prelude.{ℕ, List, ℤ, cond, Result, Ok, Err}
use Rattle.cell.specs.declared.Card.{Card}
use Rattle.cell.specs.declared.Entry.{Entry}
use Rattle.cell.specs.declared.Notice.{Notice}
use Rattle.cell.specs.declared.Reading.{Reading}
use Rattle.cell.specs.declared.Refusal.TheVariants.{BadLengths}
use Rattle.cell.specs.Refusals.{refusal_number, malformed}
use Rattle.form.specs.Form.{Out}
use Rattle.text.specs.declared.Read.{Read}
use Rattle.text.specs.declared.Unread.{Unread}
use Rattle.text.specs.declared.Unread.TheVariants.{Malformed, ShortSoil}

pub record CardRead : Type 0 where
  pub number : ℕ
  pub taken : ℕ
  pub line : ℕ
  pub card : Card

pub record ReadingRead : Type 0 where
  pub number : ℕ
  pub taken : ℕ
  pub line : ℕ
  pub reading : Reading

-- [3]
pub record VoidRead : Type 0 where
  pub number : ℕ
  pub taken : ℕ
  pub line : ℕ
  pub notice : Notice

pub record EntryRead : Type 0 where
  pub number : ℕ
  pub taken : ℕ
  pub line : ℕ
  pub entry : Entry

-- ---- case by case
-- 12 for a malformed line, and 2 for a soil slice that is too short
abbrev pub unread_number : Unread → ℕ
unread_number (Malformed n) = malformed
unread_number ShortSoil = refusal_number BadLengths

abbrev pub unread_line : Unread → ℕ
unread_line (Malformed n) = n
unread_line ShortSoil = 0

abbrev pub number_read : {T : Type 0} → Result (Read T) Unread → ℕ
number_read (Ok r) = 0
number_read (Err e) = unread_number e

abbrev pub taken_read : {T : Type 0} → Result (Read T) Unread → ℕ
taken_read (Ok r) = r.taken
taken_read (Err e) = 0

abbrev pub line_read : {T : Type 0} → Result (Read T) Unread → ℕ
line_read (Ok r) = 0
line_read (Err e) = unread_line e

abbrev pub value_read : {T : Type 0} → T → Result (Read T) Unread → T
value_read zeros (Ok r) = r.value
value_read zeros (Err e) = zeros

-- ---- one line: its values, or the malformed line 1
abbrev pub values_read : Out → Result (Read (List ℤ)) Unread
values_read o = cond o.ok (Ok (record { taken = o.next; value = o.vals })) (Err (Malformed 1))
