-- The N of `code=12 line=N` is one more than the line ends before line N, for every journal. Assumes nothing.
use Rattle.std.specs.Prelude.{◌≡◌, Bool, true, false, ℕ, ◌+◌, ◌≤◌, ◌<◌, eqb, drop, refl, List, ◌++◌, length}
use Rattle.std.proofs.Common.{sym, ap, ◌∙◌, arith, eqb-true, take-append-drop, append_assoc, append-nil}
use Rattle.std.proofs.lemmas.Bool.{eqb-false}
use Rattle.form.specs.Ends.{line_ends}
use Rattle.form.specs.EndLaws.{ends_append}
use Rattle.cell.specs.declared.Card.{Card}
use Rattle.site.specs.Site.{clear_number, clear_rows}
use Rattle.site.specs.Sheet.{no_steps, after_all}
use Rattle.text.specs.Voids.{read_entry}
use Rattle.text.specs.Cards.{parse, card_text}
use Rattle.text.proofs.CardTexts.{card_one}
use Rattle.text.proofs.CardEnds.{Malformed, card_stops, card_ends}
use Rattle.text.specs.Printed.{sheet_text}
use Rattle.journal.specs.Entries.{EntriesRead, entries_in, Answered, answered_of, answers_of, lines_text}
use Rattle.journal.specs.Book.{code_text, malformed_text, entries_text, fresh_rows, input_limit, book_of}
use Rattle.journal.proofs.BookLaws.{cleared_code, cleared_more, book_malformed, book_read}
use Rattle.journal.proofs.EntryLaws.{texts_of, LinesOf, lines_of, answered_each}

-- what stands below the card, the entries in it and their answers; the texts of the card and of those entries
abbrev pub below : List ℕ → List ℕ
below s = drop (parse s).next s

abbrev pub read_below : List ℕ → EntriesRead
read_below s = entries_in (length (below s)) (below s)

abbrev pub answered_below : List ℕ → List Answered
answered_below s = answered_of (parse s).card (parse s).soil (clear_rows (parse s).card (fresh_rows (parse s).card)) (read_below s).entries

abbrev pub lines_read : List ℕ → List ℕ
lines_read s = card_text (parse s).card (parse s).soil ++ texts_of (read_below s).entries

-- before a malformed line stand well-formed lines only: some of the card's, or the whole card and entries; at it stands none
pub data Stopped (s before rest : List ℕ) : Type 0 where
  in_card : Malformed s before rest → Stopped s before rest
  in_entries : (parse s).line ≡ 0 → before ≡ lines_read s → 0 < length rest → ¬ ((read_entry rest).number ≡ 0) → Stopped s before rest

pub record MalformedAt (s : List ℕ) (line : ℕ) : Type 0 where
  pub before : List ℕ
  pub rest : List ℕ
  pub parts : s ≡ before ++ rest
  pub number : line ≡ line_ends before + 1
  pub lines : Stopped s before rest

-- a book ends in the sheet, and all lines are well formed; or it is the number of a card that clearing refuses; or the number of the card's malformed line, or ends in that of a malformed line below it
pub data Ending (s : List ℕ) : Type 0 where
  in_sheet : book_of s ≡ lines_text (answered_below s) ++ sheet_text (after_all no_steps (answers_of (answered_below s))) → (parse s).line ≡ 0 → s ≡ lines_read s → Ending s
  in_code : (number : ℕ) → book_of s ≡ code_text number → (parse s).line ≡ 0 → clear_number (parse s).card (fresh_rows (parse s).card) ≡ number → ¬ (number ≡ 0) → Ending s
  in_card_line : (line : ℕ) → book_of s ≡ malformed_text line → MalformedAt s line → Ending s
  in_line : (line : ℕ) → book_of s ≡ lines_text (answered_below s) ++ malformed_text line → MalformedAt s line → Ending s

-- ---- with the card read and cleared
module _ (s : List ℕ) (h : length s ≤ input_limit) (e : (parse s).line ≡ 0) (c : clear_number (parse s).card (fresh_rows (parse s).card) ≡ 0) where
  abbrev card : Card
  card = (parse s).card

  abbrev read : EntriesRead
  read = read_below s

  book_is : book_of s ≡ entries_text (length (below s)) card (parse s).soil (clear_rows card (fresh_rows card)) no_steps (card.cells + 2) (below s)
  book_is = book_read s h e ∙ cleared_more card (parse s).soil (fresh_rows card) (below s) c

  lines : LinesOf (below s) read
  lines = lines_of (length (below s)) (below s) (omega arith)

  parts_are : s ≡ lines_read s ++ lines.rest
  parts_are =
      sym (take-append-drop (parse s).next s)
      ∙ rw (card_one s e) (ap (λ (l : List ℕ). card_text card (parse s).soil ++ l) lines.parts ∙ sym (append_assoc (card_text card (parse s).soil) (texts_of read.entries) lines.rest))

  all_read : read.well_formed ≡ true → Ending s
  unfolding entries_text
  all_read w = in_sheet (book_is ∙ rw w) e (parts_are ∙ rw (lines.all w, append-nil (lines_read s)))

  some_read : read.well_formed ≡ false → Ending s
  unfolding entries_text
  some_read w =
      in_line (card.cells + 2 + length (answered_below s)) (book_is ∙ rw w)
      (record {
        before = lines_read s;
        rest = lines.rest;
        parts = parts_are;
        number = omega (arith, ends_append (card_text card (parse s).soil) (texts_of read.entries), rw (card_one s e) at (card_ends s e), lines.ends, answered_each card (parse s).soil (clear_rows card (fresh_rows card)) read.entries);
        lines = in_entries e refl (lines.stop w).0 (lines.stop w).1;
      })

pub ending : (s : List ℕ) → length s ≤ input_limit → Ending s
ending s h = go (eqb (parse s).line 0) refl (eqb number 0) refl (read_below s).well_formed refl
  where
    number : ℕ
    number = clear_number (parse s).card (fresh_rows (parse s).card)

    go : (a : Bool) → eqb (parse s).line 0 ≡ a → (b : Bool) → eqb number 0 ≡ b → (g : Bool) → (read_below s).well_formed ≡ g → Ending s
    go false e b c g w =
        let z = eqb-false (parse s).line 0 e in
        let m = card_stops s z in
        in_card_line (parse s).line (book_malformed s h z) (record { before = m.before; rest = m.rest; parts = m.parts; number = m.number; lines = in_card m.lines })
    go true e false c g w =
        let z = eqb-true (parse s).line 0 e in
        let n = eqb-false number 0 c in
        in_code number (book_read s h z ∙ cleared_code (parse s).card (parse s).soil (fresh_rows (parse s).card) (below s) n) z refl n
    go true e true c true w = all_read s h (eqb-true (parse s).line 0 e) (eqb-true number 0 c) w
    go true e true c false w = some_read s h (eqb-true (parse s).line 0 e) (eqb-true number 0 c) w
