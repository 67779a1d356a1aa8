-- How long the lines are, a reading's and a void's at the least, an answer's and the sheet's at the most; and that each is one line. Assumes nothing.
use Rattle.std.specs.Prelude.{◌≡◌, refl, Bool, true, false, cond, List, [], ◌∷◌, ℕ, ◌*◌, ◌≤◌, ◌<◌, ◌^◌, eqb, ℤ, pos, length, get_or, take, Ok, Err}
use Rattle.std.proofs.Common.{sym, ap, ◌∙◌, arith, eqb-true, length-take-le}
use Rattle.form.specs.Form.{form_at, form_text}
use Rattle.form.specs.FormLaws.{all_bytes, form_one}
use Rattle.form.specs.LengthLaws.{text_least, text_most, text_digits}
use Rattle.form.specs.Ends.{line_ends}
use Rattle.form.specs.EndLaws.{ends_form}
use Rattle.cell.specs.Answers.{Answer}
use Rattle.cell.specs.declared.Card.{Card}
use Rattle.cell.specs.declared.Entry.{Entry}
use Rattle.cell.specs.declared.Notice.{Notice}
use Rattle.cell.specs.Ranges.{row_width, cell_of}
use Rattle.cell.proofs.AnswerLaws.{amounts_in, void_amounts}
use Rattle.site.specs.Rows.{part_at}
use Rattle.site.specs.Site.{soil_width, site_answer}
use Rattle.site.proofs.SiteLaws.{row_answer}
use Rattle.cell.specs.Refusals.{refusal_number, nothing, number_of, amounts_of}
use Rattle.cell.proofs.CheckLaws.{number_most}
use Rattle.site.specs.declared.Sheet.{Sheet}
use Rattle.site.specs.SheetLaws.{AmountsWithin, SheetIn}
use Rattle.site.proofs.SheetSteps.{site_within}
use Rattle.form.specs.Words.{word_lt}
use Rattle.text.specs.Lines.{reading_form, void_form, answer_form, sheet_form}
use Rattle.text.specs.Readings.{read_reading, vals_of, text_of}
use Rattle.text.specs.Reads.{EntryRead}
use Rattle.text.specs.Voids.{void_vals, void_text, read_void, voided, as_read, read_entry, entry_text}
use Rattle.text.proofs.VoidLaws.{stands, one_text as void-text}
use Rattle.text.proofs.ReadingLaws.{one_text}
use Rattle.text.specs.Printed.{answer_vals, line_text, answer_text, sheet_vals, sheet_text}

-- a line takes as many bytes as its form has at the least, all of them from the text
line_takes : (f s : List ℕ) → all_bytes f ≡ true → (form_at f s 0).ok ≡ true → (length f ≤ (form_at f s 0).next) × ((form_at f s 0).next ≤ length s)
line_takes f s w k =
    let o = form_at f s 0 in
    let l = form_one f s 0 w (omega arith) k in
    let n : o.next ≡ length (form_text f o.vals) = sym (length-take-le o.next s l.room) ∙ ap length l.text in
    (omega (arith, n, text_least f o.vals), l.room)

-- a reading takes 73 bytes at the least
pub reading_takes : (s : List ℕ) → (read_reading s).number ≡ 0 → (73 ≤ (read_reading s).taken) × ((read_reading s).taken ≤ length s)
unfolding read_reading
reading_takes s e = go (form_at reading_form s 0).ok refl
  where
    go : (b : Bool) → (form_at reading_form s 0).ok ≡ b → (73 ≤ (read_reading s).taken) × ((read_reading s).taken ≤ length s)
    go true k = rw k (line_takes reading_form s refl k)
    go false k = absurd (let z : 12 ≡ 0 = rw k at e in omega arith)

-- a reading's cell number fits 32 bits, also that of a reading of zeros
pub reading_cell : (s : List ℕ) → (read_reading s).reading.cell < 2 ^ 32
unfolding read_reading
reading_cell s = go (form_at reading_form s 0).ok refl
  where
    go : (b : Bool) → (form_at reading_form s 0).ok ≡ b → (read_reading s).reading.cell < 2 ^ 32
    go true k = rw k (word_lt (get_or (form_at reading_form s 0).vals 0 (pos 0)))
    go false k = rw k (omega arith)

-- an answer's line has 342 bytes at the most
pub answer_most : (cell : ℕ) (answer : Answer) → cell < 2 ^ 32 → AmountsWithin (amounts_of answer) → length (answer_text cell answer) ≤ 342
unfolding answer_text line_text
answer_most cell answer c w =
    text_most answer_form (answer_vals cell (number_of answer) (amounts_of answer))
    (omega arith, (omega (arith, number_most answer), (omega (arith, w.inflow), (omega (arith, w.runoff), (omega (arith, w.etvad), (omega (arith, w.etstor), (omega (arith, w.etsat), (omega (arith, w.drain), (omega (arith, w.release), (omega (arith, w.stored), (omega (arith, w.recharge), (omega (arith, w.left), tt))))))))))))

-- the sheet's line has 289 bytes at the most
pub sheet_most : (s : Sheet) → SheetIn s → length (sheet_text s) ≤ 289
unfolding sheet_text
sheet_most s h =
    let k = h.sums in
    text_most sheet_form (sheet_vals s)
    (omega (arith, h.steps), (omega (arith, k.inflow, h.steps), (omega (arith, k.runoff, h.steps), (omega (arith, k.etvad, h.steps), (omega (arith, k.etstor, h.steps), (omega (arith, k.etsat, h.steps), (omega (arith, k.drain, h.steps), (omega (arith, k.release, h.steps), (omega (arith, k.stored, h.steps), (omega (arith, k.recharge, h.steps), tt))))))))))

-- ---- each is one line
pub answer_line : (cell : ℕ) (answer : Answer) → line_ends (answer_text cell answer) ≡ 1
unfolding answer_text line_text
answer_line cell answer = ends_form answer_form (answer_vals cell (number_of answer) (amounts_of answer))

pub sheet_line : (s : Sheet) → line_ends (sheet_text s) ≡ 1
unfolding sheet_text
sheet_line s = ends_form sheet_form (sheet_vals s)

-- what a reading takes is one line of its text
pub reading_line : (s : List ℕ) → (read_reading s).number ≡ 0 → line_ends (take (read_reading s).taken s) ≡ 1
unfolding text_of
reading_line s e = rw (one_text s e) (ends_form reading_form (vals_of (read_reading s).reading))

-- ---- [3] voids
-- a void takes 27 bytes at the least, and one line
pub void_takes : (s : List ℕ) → (read_void s).number ≡ 0 → (27 ≤ (read_void s).taken) × ((read_void s).taken ≤ length s)
unfolding read_void
void_takes s e = let k = stands s e in rw k (line_takes void_form s refl k)

pub void_line : (s : List ℕ) → (read_void s).number ≡ 0 → line_ends (take (read_void s).taken s) ≡ 1
unfolding void_text
void_line s e = rw (void-text s e) (ends_form void_form (void_vals (read_void s).notice))

-- a void's answer has 135 bytes at the most: refused, a cell of ten digits; accepted, a cell of ten, release and recharge of eight and left of ten
pub void_most : (cell : ℕ) (card : Card) (soil : List ℤ) (rows : List ℕ) (n : Notice) → cell < 2 ^ 32 → length (answer_text cell (site_answer card soil rows (Entry.Void n))) ≤ 135
unfolding answer_text line_text
void_most cell card soil rows n c = go (site_answer card soil rows (Entry.Void n)) refl
  where
    go : (x : Answer) → site_answer card soil rows (Entry.Void n) ≡ x → length (form_text answer_form (answer_vals cell (number_of x) (amounts_of x))) ≤ 135
    go (Err why) e =
        let b = text_digits answer_form (9 ∷ 1 ∷ []) (answer_vals cell (refusal_number why) nothing) refl
        (refl, omega arith, (refl, omega (arith, number_most (Err why)), (refl, omega arith, (refl, omega arith, (refl, omega arith, (refl, omega arith, (refl, omega arith, (refl, omega arith, (refl, omega arith, (refl, omega arith, (refl, omega arith, (refl, omega arith, tt)))))))))))) in
        omega (arith, b)
    go (Ok a) e =
        let r = row_answer card soil rows (Entry.Void n) a e in
        let o = void_amounts card (part_at soil_width n.cell soil) (part_at (row_width card) n.cell rows) n a r in
        let w = amounts_in card (part_at soil_width n.cell soil) (part_at (row_width card) n.cell rows) (Entry.Void n) a r in
        let b = text_digits answer_form (9 ∷ 0 ∷ 0 ∷ 0 ∷ 0 ∷ 0 ∷ 0 ∷ 0 ∷ 7 ∷ 0 ∷ 7 ∷ 9 ∷ []) (answer_vals cell 0 a) refl
        (refl, omega arith, (refl, omega arith, (refl, omega (arith, o.inflow), (refl, omega (arith, o.runoff), (refl, omega (arith, o.etvad), (refl, omega (arith, o.etstor), (refl, omega (arith, o.etsat), (refl, omega (arith, o.drain), (refl, omega (arith, w.release), (refl, omega (arith, o.stored), (rw o.recharge refl, rw o.recharge (omega (arith, w.release)), (refl, omega (arith, w.left), tt)))))))))))) in
        omega (arith, b)

void_cell : (s : List ℕ) → (read_void s).notice.cell < 2 ^ 32
unfolding read_void
void_cell s = go (form_at void_form s 0).ok refl
  where
    go : (b : Bool) → (form_at void_form s 0).ok ≡ b → (read_void s).notice.cell < 2 ^ 32
    go true k = rw k (word_lt (get_or (form_at void_form s 0).vals 0 (pos 0)))
    go false k = rw k (omega arith)

-- ---- entries: a void that stands there, or what a reading gives
by_kind : (s : List ℕ) (P : EntryRead → Type 0) → ((read_void s).number ≡ 0 → P (voided (read_void s))) → P (as_read (read_reading s)) → P (read_entry s)
unfolding read_entry
by_kind s P v x = go (eqb (read_void s).number 0) refl
  where
    go : (b : Bool) → eqb (read_void s).number 0 ≡ b → P (cond b (voided (read_void s)) (as_read (read_reading s)))
    go true e = v (eqb-true (read_void s).number 0 e)
    go false e = x

-- an entry takes 27 bytes at the least, all of them from the text
pub entry_takes : (s : List ℕ) → (read_entry s).number ≡ 0 → (27 ≤ (read_entry s).taken) × ((read_entry s).taken ≤ length s)
entry_takes s =
    by_kind s (λ (x : EntryRead). x.number ≡ 0 → (27 ≤ x.taken) × (x.taken ≤ length s)) (λ v e. void_takes s v)
    (λ e. let t = reading_takes s e in (omega (arith, t.0), t.1))

pub entry_cell : (s : List ℕ) → cell_of (read_entry s).entry < 2 ^ 32
entry_cell s = by_kind s (λ (x : EntryRead). cell_of x.entry < 2 ^ 32) (λ v. void_cell s) (reading_cell s)

-- each entry has one text: the bytes that it was taken from
pub entry_text_lem : (s : List ℕ) → (read_entry s).number ≡ 0 → take (read_entry s).taken s ≡ entry_text (read_entry s).entry
entry_text_lem s = by_kind s (λ (x : EntryRead). x.number ≡ 0 → take x.taken s ≡ entry_text x.entry) (λ v e. void-text s v) (one_text s)

-- what it takes is one line of its text
pub entry_line : (s : List ℕ) → (read_entry s).number ≡ 0 → line_ends (take (read_entry s).taken s) ≡ 1
entry_line s = by_kind s (λ (x : EntryRead). x.number ≡ 0 → line_ends (take x.taken s) ≡ 1) (λ v e. void_line s v) (reading_line s)

-- the answer's line has 5 bytes at the most for each that the entry takes: 342 for 73, and of a void 135 for 27
pub entry_room : (card : Card) (soil : List ℤ) (rows s : List ℕ) → (read_entry s).number ≡ 0
    → length (answer_text (cell_of (read_entry s).entry) (site_answer card soil rows (read_entry s).entry)) ≤ 5 * (read_entry s).taken
entry_room card soil rows s =
    by_kind s (λ (x : EntryRead). x.number ≡ 0 → length (answer_text (cell_of x.entry) (site_answer card soil rows x.entry)) ≤ 5 * x.taken)
    (λ v e. omega (arith, void_most (read_void s).notice.cell card soil rows (read_void s).notice (void_cell s), (void_takes s v).0))
    (λ e.
    let x = (read_reading s).reading in
    omega (arith, answer_most x.cell (site_answer card soil rows (Entry.Reading x)) (reading_cell s) (site_within card soil rows (Entry.Reading x)), (reading_takes s e).0))
