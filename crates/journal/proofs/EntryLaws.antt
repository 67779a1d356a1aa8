-- Every entry's line gets one line of the book, and the last line's sums are those of the accepted ones. Assumes nothing.
use Rattle.std.specs.Prelude.{◌≡◌, refl, Bool, true, false, cond, List, [], ◌∷◌, ◌++◌, ℕ, zero, suc, ◌+◌, ◌≤◌, ◌<◌, eqb, ℤ, length, drop, Ok, Err}
use Rattle.std.proofs.Common.{sym, ap, ◌∙◌, append_assoc, arith, eqb-true, length-drop, take-append-drop}
use Rattle.std.proofs.lemmas.Bool.{false≢true, eqb-false}
use Rattle.std.proofs.lemmas.List.{length-map}
use Rattle.form.specs.Ends.{line_ends}
use Rattle.form.specs.EndLaws.{ends_append, ends_form}
use Rattle.cell.specs.Answers.{Answer}
use Rattle.cell.specs.declared.Card.{Card}
use Rattle.cell.specs.declared.Entry.{Entry}
use Rattle.cell.specs.Refusals.{amounts_of}
use Rattle.site.specs.declared.Sheet.{Sheet}
use Rattle.site.specs.Site.{site_answer, site_rows, clear_number, clear_rows}
use Rattle.site.specs.Sheet.{no_steps, after_all}
use Rattle.site.specs.SheetLaws.{AmountsWithin, AllWithin, Holds, accepted, from_none}
use Rattle.site.proofs.SheetSteps.{site_within}
use Rattle.text.specs.Reads.{EntryRead}
use Rattle.text.specs.Voids.{read_entry, entry_text}
use Rattle.text.specs.Printed.{answer_text, sheet_text}
use Rattle.text.proofs.LineLaws.{entry_takes, entry_text_lem, entry_line, answer_line, sheet_line}
use Rattle.journal.specs.Entries.{EntriesRead, entries_in, Answered, answered_of, answers_of, lines_text}
use Rattle.journal.specs.Book.{input_limit, malformed_form, malformed_text, entries_text, cleared_text}
use Rattle.journal.proofs.BookLaws.{cleared_more}

-- ---- the lines that are read
abbrev pub texts_of : List Entry → List ℕ
texts_of [] = []
texts_of (i ∷ is) = entry_text i ++ texts_of is

-- what was read of s: the texts of its entries, a line each, and behind them nothing, or something that starts with no entry
pub record LinesOf (s : List ℕ) (read : EntriesRead) : Type 0 where
  pub rest : List ℕ
  pub parts : s ≡ texts_of read.entries ++ rest
  pub ends : line_ends (texts_of read.entries) ≡ length read.entries
  pub few : length read.entries ≤ length s
  pub all : read.well_formed ≡ true → rest ≡ []
  pub stop : read.well_formed ≡ false → (0 < length rest) × ¬ ((read_entry rest).number ≡ 0)

empty : (s : List ℕ) → length s ≡ 0 → s ≡ []
empty [] e = refl
empty (c ∷ s) e = absurd (omega arith)

pub lines_of : (n : ℕ) (s : List ℕ) → length s ≤ n → LinesOf s (entries_in n s)
unfolding entries_in
lines_of zero s h = record { rest = s; parts = refl; ends = refl; few = omega arith; all = λ w. empty s (omega arith); stop = λ w. absurd (false≢true (sym w)) }
lines_of (suc n) s h = go (eqb (length s) 0) refl (eqb x.number 0) refl (lines_of n (drop x.taken s))
  where
    x : EntryRead
    x = read_entry s

    go : (a : Bool) → eqb (length s) 0 ≡ a → (b : Bool) → eqb x.number 0 ≡ b
        → (length (drop x.taken s) ≤ n → LinesOf (drop x.taken s) (entries_in n (drop x.taken s))) → LinesOf s (entries_in (suc n) s)
    go true e b f ih = rw e (record { rest = s; parts = refl; ends = refl; few = omega arith; all = λ w. empty s (eqb-true (length s) 0 e); stop = λ w. absurd (false≢true (sym w)) })
    go false e false f ih = rw (e, f) (record { rest = s; parts = refl; ends = refl; few = omega arith; all = λ w. absurd (false≢true w); stop = λ w. (omega (arith, eqb-false (length s) 0 e), eqb-false x.number 0 f) })
    go false e true f ih =
        let z = eqb-true x.number 0 f in
        let t = entry_takes s z in
        let o = entry_text_lem s z in
        let d = length-drop x.taken s in
        let m = ih (omega (arith, d, t.0, t.1)) in
        let is : List Entry = (entries_in n (drop x.taken s)).entries in
        let k = rw o at (entry_line s z) in
        rw (e, f) (record {
          rest = m.rest;
          parts = sym (take-append-drop x.taken s) ∙ rw o (ap (λ (l : List ℕ). entry_text x.entry ++ l) m.parts ∙ sym (append_assoc (entry_text x.entry) (texts_of is) m.rest));
          ends = ends_append (entry_text x.entry) (texts_of is) ∙ rw (k, m.ends) (omega arith);
          few = omega (arith, d, t.0, t.1, m.few);
          all = m.all;
          stop = m.stop;
        })

-- ---- a line for each answer, an answer for each entry
pub one_line_each : (xs : List Answered) → line_ends (lines_text xs) ≡ length xs
one_line_each [] = refl
one_line_each (x ∷ xs) = ends_append (answer_text x.cell x.answer) (lines_text xs) ∙ rw (answer_line x.cell x.answer, one_line_each xs) (omega arith)

pub answered_each : (card : Card) (soil : List ℤ) (rows : List ℕ) (is : List Entry) → length (answered_of card soil rows is) ≡ length is
unfolding answered_of
answered_each card soil rows [] = refl
answered_each card soil rows (i ∷ is) = ap suc (answered_each card soil (site_rows card soil rows i) is)

-- and one line more: the sheet, or the number of the first malformed line
last_line : (good : Bool) (sheet : Sheet) (line : ℕ) → line_ends (cond good (sheet_text sheet) (malformed_text line)) ≡ 1
unfolding malformed_text
last_line true sheet line = sheet_line sheet
last_line false sheet line = ends_form malformed_form _

pub lines_printed : (n : ℕ) (card : Card) (soil : List ℤ) (rows : List ℕ) (sheet : Sheet) (line : ℕ) (s : List ℕ) → line_ends (entries_text n card soil rows sheet line s) ≡ length (entries_in n s).entries + 1
unfolding entries_text
lines_printed n card soil rows sheet line s =
    let read = entries_in n s in
    let xs : List Answered = answered_of card soil rows read.entries in
    ends_append (lines_text xs) _ ∙ rw (one_line_each xs, last_line read.well_formed (after_all sheet (answers_of xs)) (line + length xs), answered_each card soil rows read.entries)

-- ---- the sums
cons_within : (x : Answer) (xs : List Answer) → AmountsWithin (amounts_of x) → AllWithin xs → AllWithin (x ∷ xs)
cons_within (Ok a) xs h w = (h, w)
cons_within (Err why) xs h w = w

all_within : (card : Card) (soil : List ℤ) (rows : List ℕ) (is : List Entry) → AllWithin (answers_of (answered_of card soil rows is))
unfolding answered_of
all_within card soil rows [] = tt
all_within card soil rows (i ∷ is) = cons_within (site_answer card soil rows i) (answers_of (answered_of card soil (site_rows card soil rows i) is)) (site_within card soil rows i) (all_within card soil (site_rows card soil rows i) is)

few_accepted : (xs : List Answer) → accepted xs ≤ length xs
few_accepted [] = omega arith
few_accepted (Ok a ∷ xs) = omega (arith, few_accepted xs)
few_accepted (Err why ∷ xs) = omega (arith, few_accepted xs)

-- ---- a journal that is well formed, with a card that can be cleared
module _ (card : Card) (soil : List ℤ) (rows rest : List ℕ) (h : length rest ≤ input_limit) (c : clear_number card rows ≡ 0) (w : (entries_in (length rest) rest).well_formed ≡ true) where
  abbrev read : EntriesRead
  read = entries_in (length rest) rest

  abbrev pub answered : List Answered
  answered = answered_of card soil (clear_rows card rows) read.entries

  -- its book is a line for each entry, then the sheet
  pub book_lines : cleared_text card soil rows rest ≡ lines_text answered ++ sheet_text (after_all no_steps (answers_of answered))
  unfolding entries_text
  book_lines = cleared_more card soil rows rest c ∙ rw w

  lines : LinesOf rest read
  lines = lines_of (length rest) rest (omega arith)

  -- one for each of its lines
  pub each_line : length answered ≡ line_ends rest
  each_line =
      let e = ap line_ends lines.parts ∙ ends_append (texts_of read.entries) lines.rest in
      let z : line_ends lines.rest ≡ 0 = ap line_ends (lines.all w) in
      omega (arith, e, z, lines.ends, answered_each card soil (clear_rows card rows) read.entries)

  -- and the sheet's sums are those of the accepted ones
  pub sums_are : Holds no_steps (answers_of answered) (after_all no_steps (answers_of answered))
  sums_are =
      from_none (answers_of answered) (all_within card soil (clear_rows card rows) read.entries)
      (omega (arith, few_accepted (answers_of answered), length-map answered (λ (x : Answered). x.answer), answered_each card soil (clear_rows card rows) read.entries, lines.few))
