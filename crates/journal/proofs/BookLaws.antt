-- What the program prints, by what stands in its input, and how much at the most. Assumes nothing.
use Rattle.std.specs.Prelude.{◌≡◌, refl, Bool, true, false, List, ◌++◌, ℕ, zero, suc, ◌+◌, ◌-◌, ◌*◌, ◌≤◌, ◌<◌, ◌^◌, eqb, leb, ltb, ℤ, length, drop}
use Rattle.std.proofs.Common.{◌∙◌, append_assoc, add-zero, arith, length-append, length-drop, eqb-true, leb-true, ltb-false, eq-eqb, ne_eqb, lt-ltb, le-ltb}
use borrow.Author.Tests.{eqb-false}
use Rattle.form.specs.LengthLaws.{text_most}
use Rattle.cell.specs.Answers.{Answer}
use Rattle.cell.specs.declared.Card.{Card}
use Rattle.cell.specs.Ranges.{cell_of}
use Rattle.site.specs.declared.Sheet.{Sheet}
use Rattle.site.specs.Site.{site_answer, site_rows, clear_number, clear_rows}
use Rattle.site.proofs.SiteLaws.{clear_most}
use Rattle.site.specs.Sheet.{no_steps, added_of}
use Rattle.site.specs.SheetLaws.{SheetIn, sheet_none, sheet_added}
use Rattle.text.specs.Reads.{EntryRead}
use Rattle.text.specs.Voids.{read_entry}
use Rattle.text.specs.Cards.{Parsed, parse}
use Rattle.text.proofs.CardTexts.{line_most, cells_most}
use Rattle.text.proofs.LineLaws.{entry_takes, entry_room, sheet_most}
use Rattle.text.specs.Printed.{answer_text, sheet_text}
use Rattle.journal.specs.Entries.{Answered, entries_in, answered_of, lines_text}
use Rattle.journal.specs.Book.{code_form, code_text, malformed_form, malformed_text, entries_text, fresh_rows, cleared_text, input_limit, book_of, room_for, BookGives}

-- a line that stands for a refusal
pub malformed_most : (line : ℕ) → line < 2 ^ 64 → length (malformed_text line) ≤ 35
unfolding malformed_text
malformed_most line h = text_most malformed_form _ (h, tt)

pub code_most : (number : ℕ) → number < 2 ^ 64 → length (code_text number) ≤ 27
unfolding code_text
code_most number h = text_most code_form _ (h, tt)

-- ---- the text of the entries, by what stands first in s
pub entries_end : (n : ℕ) (card : Card) (soil : List ℤ) (rows : List ℕ) (sheet : Sheet) (line : ℕ) (s : List ℕ) → length s ≡ 0 → entries_text n card soil rows sheet line s ≡ sheet_text sheet
unfolding entries_text entries_in answered_of
entries_end zero card soil rows sheet line s e = refl
entries_end (suc n) card soil rows sheet line s e = rw (eq-eqb (length s) 0 e)

pub entries_stop : (n : ℕ) (card : Card) (soil : List ℤ) (rows : List ℕ) (sheet : Sheet) (line : ℕ) (s : List ℕ) → 0 < length s → length s ≤ n → ¬ ((read_entry s).number ≡ 0)
    → entries_text n card soil rows sheet line s ≡ malformed_text line
unfolding entries_text entries_in answered_of
entries_stop zero card soil rows sheet line s h l e = absurd (omega arith)
entries_stop (suc n) card soil rows sheet line s h l e = rw (ne_eqb (length s) 0 (λ z. omega arith), ne_eqb (read_entry s).number 0 e, add-zero line)

pub entries_more : (n : ℕ) (card : Card) (soil : List ℤ) (rows : List ℕ) (sheet : Sheet) (line : ℕ) (s : List ℕ) → 0 < length s → length s ≤ n → (read_entry s).number ≡ 0
    → entries_text n card soil rows sheet line s
    ≡ answer_text (cell_of (read_entry s).entry) (site_answer card soil rows (read_entry s).entry)
    ++ entries_text (n - 1) card soil (site_rows card soil rows (read_entry s).entry) (added_of sheet (site_answer card soil rows (read_entry s).entry)).sheet (line + 1) (drop (read_entry s).taken s)
unfolding entries_text entries_in answered_of
entries_more zero card soil rows sheet line s h l e = absurd (omega arith)
entries_more (suc n) card soil rows sheet line s h l e =
    let x = read_entry s in
    let later : List Answered = answered_of card soil (site_rows card soil rows x.entry) (entries_in n (drop x.taken s)).entries in
    let m : suc n - 1 ≡ n = omega arith in
    let k : line + suc (length later) ≡ line + 1 + length later = omega arith in
    rw (ne_eqb (length s) 0 (λ z. omega arith), eq-eqb x.number 0 e, m, k) (append_assoc (answer_text (cell_of x.entry) (site_answer card soil rows x.entry)) (lines_text later) _)

-- the entries: 5 bytes for each byte of theirs, and the last line
pub entries_most : (n : ℕ) (card : Card) (soil : List ℤ) (rows : List ℕ) (sheet : Sheet) (line : ℕ) (s : List ℕ) → length s ≤ n → SheetIn sheet → line + length s < 2 ^ 64
    → length (entries_text n card soil rows sheet line s) ≤ 5 * length s + 300
entries_most zero card soil rows sheet line s h k l = rw (entries_end zero card soil rows sheet line s (omega arith)) (omega (arith, sheet_most sheet k))
entries_most (suc n) card soil rows sheet line s h k l =
    go (eqb (length s) 0) refl (eqb x.number 0) refl
    (entries_most n card soil (site_rows card soil rows x.entry) (added_of sheet answer).sheet (line + 1) (drop x.taken s))
  where
    x : EntryRead
    x = read_entry s

    answer : Answer
    answer = site_answer card soil rows x.entry

    more : List ℕ
    more = entries_text n card soil (site_rows card soil rows x.entry) (added_of sheet answer).sheet (line + 1) (drop x.taken s)

    go : (b : Bool) → eqb (length s) 0 ≡ b → (c : Bool) → eqb x.number 0 ≡ c
        → (length (drop x.taken s) ≤ n → SheetIn (added_of sheet answer).sheet → line + 1 + length (drop x.taken s) < 2 ^ 64 → length more ≤ 5 * length (drop x.taken s) + 300)
        → length (entries_text (suc n) card soil rows sheet line s) ≤ 5 * length s + 300
    go true e c f ih = rw (entries_end (suc n) card soil rows sheet line s (eqb-true (length s) 0 e)) (omega (arith, sheet_most sheet k))
    go false e true f ih =
        let t = entry_takes s (eqb-true x.number 0 f) in
        let d = length-drop x.taken s in
        let a = entry_room card soil rows s (eqb-true x.number 0 f) in
        let m : suc n - 1 ≡ n = omega arith in
        rw (entries_more (suc n) card soil rows sheet line s (omega (arith, t.0, t.1)) h (eqb-true x.number 0 f), m)
        (omega (arith, length-append (answer_text (cell_of x.entry) answer) more, t.0, t.1, d, a, ih (omega (arith, t.0, t.1, d)) (sheet_added sheet answer k) (omega (arith, t.0, t.1, d))))
    go false e false f ih =
        let some : 0 < length s = omega (arith, eqb-false (length s) 0 e) in
        rw (entries_stop (suc n) card soil rows sheet line s some h (eqb-false x.number 0 f)) (omega (arith, malformed_most line (omega arith)))

-- ---- with the card read: what clearing refuses, or the entries
pub cleared_code : (card : Card) (soil : List ℤ) (rows rest : List ℕ) → ¬ (clear_number card rows ≡ 0) → cleared_text card soil rows rest ≡ code_text (clear_number card rows)
unfolding cleared_text
cleared_code card soil rows rest e = rw (ne_eqb (clear_number card rows) 0 e)

pub cleared_more : (card : Card) (soil : List ℤ) (rows rest : List ℕ) → clear_number card rows ≡ 0
    → cleared_text card soil rows rest ≡ entries_text (length rest) card soil (clear_rows card rows) no_steps (card.cells + 2) rest
unfolding cleared_text
cleared_more card soil rows rest e = rw (eq-eqb (clear_number card rows) 0 e)

-- ---- the book, by its input
pub book_long : (s : List ℕ) → input_limit < length s → book_of s ≡ malformed_text 0
unfolding book_of
book_long s h = rw (lt-ltb input_limit (length s) h)

module _ (s : List ℕ) (h : length s ≤ input_limit) where
  pub book_malformed : ¬ ((parse s).line ≡ 0) → book_of s ≡ malformed_text (parse s).line
  unfolding book_of
  book_malformed e = rw (le-ltb input_limit (length s) h, ne_eqb (parse s).line 0 e)

  pub book_read : (parse s).line ≡ 0 → book_of s ≡ cleared_text (parse s).card (parse s).soil (fresh_rows (parse s).card) (drop (parse s).next s)
  unfolding book_of
  book_read e = rw (le-ltb input_limit (length s) h, eq-eqb (parse s).line 0 e)

-- a buffer of 5 x the input's length + 300 bytes always suffices
pub book_most : (s : List ℕ) → length (book_of s) ≤ 5 * length s + 300
unfolding cleared_text book_of
book_most s = go (ltb input_limit (length s)) refl (eqb p.line 0) refl (eqb number 0) refl
  where
    p : Parsed
    p = parse s

    rows : List ℕ
    rows = fresh_rows p.card

    number : ℕ
    number = clear_number p.card rows

    rest : List ℕ
    rest = drop p.next s

    go : (a : Bool) → ltb input_limit (length s) ≡ a → (b : Bool) → eqb p.line 0 ≡ b → (c : Bool) → eqb number 0 ≡ c → length (book_of s) ≤ 5 * length s + 300
    go true e b f c g = rw e (omega (arith, malformed_most 0 (omega arith)))
    go false e false f c g = rw (e, f) (omega (arith, malformed_most p.line (omega (arith, line_most s))))
    go false e true f false g = rw (e, f, g) (omega (arith, code_most number (omega (arith, clear_most p.card rows))))
    go false e true f true g =
        let d = length-drop p.next s in
        let m = cells_most s (eqb-true p.line 0 f) in
        let l = ltb-false input_limit (length s) e in
        rw (e, f, g) (omega (arith, d, entries_most (length rest) p.card p.soil (clear_rows p.card rows) no_steps (p.card.cells + 2) rest (omega arith) sheet_none (omega (arith, d, m, l))))

-- ---- what the contract tells of the length: the book lies within the buffer
pub within_buffer : (s b : List ℕ) (len : ℕ) (after : List ℕ) → BookGives s b len after → len ≤ length b
unfolding room_for
within_buffer s b len after g = go (leb (room_for (length s)) (length b)) refl
  where
    go : (k : Bool) → leb (room_for (length s)) (length b) ≡ k → len ≤ length b
    go true e = let p : len ≡ length (book_of s) = g.length_is ∙ rw e in omega (arith, p, book_most s, leb-true (5 * length s + 300) (length b) e)
    go false e = let p : len ≡ 0 = g.length_is ∙ rw e in omega (arith, p)
