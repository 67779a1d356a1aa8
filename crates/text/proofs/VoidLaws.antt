-- [3] Laws of voids as text: what was written is read back, each void has one text, and no text is both a void and a reading. Assumes nothing.
use Rattle.form.specs.Put.{sets_all}
use Rattle.std.proofs.lemmas.List.Edits.{sets}
use Rattle.std.specs.Prelude.{◌≡◌, refl, List, [], ◌++◌, map, Bool, true, false, ℕ, ◌+◌, ◌≤◌, ◌<◌, length, take, drop, ℤ, eqb, Result, Ok, Err}
use Rattle.std.proofs.Common.{sym, ap, ◌∙◌, arith, take_all, eq-eqb, ne_eqb, Some, None}
use Rattle.std.proofs.lemmas.Bool.{eqb-false}
use Rattle.cell.specs.declared.Entry.{Entry}
use Rattle.cell.specs.declared.Notice.{Notice}
use Rattle.cell.specs.declared.Reading.{Reading}
use Rattle.cell.specs.Refusals.{malformed}
use Rattle.form.specs.Form.{form_at, form_text, fits, taken_of}
use Rattle.form.specs.FormLaws.{FormRead, first_byte, form_one, form_back, read, cells_take, ok_words, unword, small_oks, and_i}
use Rattle.form.specs.RunLaws.{form_length, not_taken, took}
use Rattle.text.specs.declared.Read.{Read}
use Rattle.text.specs.declared.Unread.{Unread}
use Rattle.text.specs.declared.Unread.TheVariants.{Malformed, ShortSoil}
use Rattle.text.specs.Reads.{ReadingRead, VoidRead, unread_number, unread_line, values_read}
use Rattle.text.proofs.ReadLaws.{read_took, read_stopped, no_zero}
use Rattle.text.specs.Lines.{reading_form, void_form}
use Rattle.text.specs.Readings.{read_reading, reading_given, text_of, read_again}
use Rattle.text.proofs.ReadingLaws.{small, read_back, Words as ReadingWords}
use Rattle.text.specs.Voids.{void_vals, notice_at, void_text, read_void, void_given, void_checks, voided, as_read, read_entry, entry_given}
use Rattle.text.specs.Written.{Written, Writes}
use Rattle.text.proofs.WrittenLaws.{line_again}

one_line_lem : (s : List ℕ) → (form_at void_form s 0).ok ≡ true → FormRead void_form s 0 (form_at void_form s 0)
one_line_lem s e = form_one void_form s 0 refl (omega arith) e

-- what reading the line has given comes to the void
pub void_took : (s : List ℕ) (x : Read (List ℤ)) (n : Notice) → Ok x ≡ values_read (form_at void_form s 0) → n ≡ notice_at x.value → void_given (Ok (record { taken = x.taken; value = n })) ≡ read_void s
unfolding read_void
void_took s x n p e = let q = read_took (form_at void_form s 0) x p in rw (q.0, e, q.1, q.2)

pub void_stops : (s : List ℕ) (e : Unread) → ◌≡◌ {A = Result (Read (List ℤ)) Unread} (Err e) (values_read (form_at void_form s 0)) → void_given (Err e) ≡ read_void s
unfolding read_void
void_stops s e p = let q = read_stopped (form_at void_form s 0) e p in rw (q.0, q.1)

-- a line that was read, and one that was not
pub read_good : (s : List ℕ) (t : ℕ) (z v : List ℤ) (n : Notice) → length z ≡ 3 → taken_of (form_at void_form s 0) ≡ Some t
    → v ≡ sets z 0 (form_at void_form s 0).vals → n ≡ notice_at v
    → ◌≡◌ {A = VoidRead} (record { number = 0; taken = t; line = 0; notice = n }) (read_void s)
unfolding read_void
read_good s t z v n l e f g =
    let k = took (form_at void_form s 0) t e in
    let m : length (form_at void_form s 0).vals ≡ 3 = form_length void_form s 0 k.0 in
    rw (k.0, ← k.1, g, f, sets_all z (form_at void_form s 0).vals (m ∙ sym l))

pub refused : (s : List ℕ) → taken_of (form_at void_form s 0) ≡ None
    → ◌≡◌ {A = VoidRead} (record { number = malformed; taken = 0; line = 1; notice = notice_at [] }) (read_void s)
unfolding read_void
refused s e = rw (not_taken (form_at void_form s 0) e)

-- ---- there and back
-- what owning a notice tells: each field fits 32 bits
pub record Words (n : Notice) : Type 0 where
  pub cell : n.cell < 4294967296
  pub life : n.life < 4294967296
  pub count : n.count < 4294967296

words_ok : (n : Notice) → Words n → fits void_form (void_vals n) ≡ true
words_ok n w = small_oks void_form (void_vals n) refl (and_i _ _ (small _ w.cell) (and_i _ _ (small _ w.life) (and_i _ _ (small _ w.count) refl)))

-- what was written is read back, all bytes taken, whatever bytes stand behind it
pub void_back : (n : Notice) (q : List ℕ) → Words n → read_void (void_text n ++ q) ≡ record { number = 0; taken = length (void_text n); line = 0; notice = n }
unfolding read_void void_text
void_back n q w =
    let e : form_at void_form (form_text void_form (void_vals n) ++ q) 0 ≡ read (0 + length (form_text void_form (void_vals n))) (void_vals n) = form_back void_form (void_vals n) [] q refl (words_ok n w) refl in
    let z : 0 + length (form_text void_form (void_vals n)) ≡ length (form_text void_form (void_vals n)) = omega arith in
    rw (e, z, small _ w.cell, small _ w.life, small _ w.count)

-- each void has one text: the bytes that it was taken from
vals_notice : (vs : List ℤ) → length vs ≡ 3 → fits void_form vs ≡ true → void_vals (notice_at vs) ≡ vs
vals_notice vs n o = ap (map unword) (cells_take 3 0 vs (omega arith) ∙ take_all 3 vs (omega arith)) ∙ ok_words void_form vs refl n o

-- a void that stands there: its form does
pub stands : (s : List ℕ) → (read_void s).number ≡ 0 → (form_at void_form s 0).ok ≡ true
unfolding read_void
stands s e = go (form_at void_form s 0).ok refl
  where
    go : (b : Bool) → (form_at void_form s 0).ok ≡ b → b ≡ true
    go true k = refl
    go false k = absurd (let z : 12 ≡ 0 = rw k at e in omega arith)

pub one_text : (s : List ℕ) → (read_void s).number ≡ 0 → take (read_void s).taken s ≡ void_text (read_void s).notice
unfolding read_void void_text
one_text s e =
    let k = stands s e in
    let l = one_line_lem s k in
    rw (k, vals_notice (form_at void_form s 0).vals (form_length void_form s 0 k) l.fits) l.text

-- the void that was read, written into a buffer with room, stands there as the very bytes that were taken
pub void_again : (s b : List ℕ) → (read_void s).number ≡ 0 → length (take (read_void s).taken s) ≤ length b → (w : Written) (after : List ℕ)
    → Writes (void_checks (read_void s).notice b) (void_text (read_void s).notice) b w after
    → (w ≡ record { number = 0; len = length (take (read_void s).taken s) }) × (after ≡ take (read_void s).taken s ++ drop (length (take (read_void s).taken s)) b)
void_again s b e l w after g = line_again (take (read_void s).taken s) (void_text (read_void s).notice) b (one_text s e) l w after g

-- ---- no text is both: a void starts with v, a reading with c
pub never_both : (s : List ℕ) → (read_void s).number ≡ 0 → (read_reading s).number ≡ 12
unfolding read_reading
never_both s e = go (form_at reading_form s 0).ok refl
  where
    go : (b : Bool) → (form_at reading_form s 0).ok ≡ b → (read_reading s).number ≡ 12
    go true k = absurd (omega (arith, first_byte 118 _ s refl (stands s e), first_byte 99 _ s refl k))
    go false k = rw k

-- ---- entries, by the numbers of the two
pub entry_reading : (s : List ℕ) (x : ReadingRead) → x ≡ read_reading s → x.number ≡ 0 → as_read x ≡ read_entry s
unfolding read_entry
entry_reading s x f z =
    let none : ¬ ((read_void s).number ≡ 0) = λ e. let k : ◌≡◌ {A = ℕ} 0 12 = sym z ∙ ap (λ (y : ReadingRead). y.number) f ∙ never_both s e in absurd (omega arith) in
    rw (ne_eqb _ _ none, f)

pub entry_void : (s : List ℕ) (v : VoidRead) → v ≡ read_void s → v.number ≡ 0 → voided v ≡ read_entry s
unfolding read_entry
entry_void s v e z =
    let k : (read_void s).number ≡ 0 = sym (ap (λ (x : VoidRead). x.number) e) ∙ z in
    rw (eq-eqb _ _ k, e)

-- a line that neither reader takes: both stop at line 1
line_one : (e : Unread) → unread_number e ≡ malformed → unread_line e ≡ 1 → e ≡ Malformed 1
line_one (Malformed n) p q = ap (λ (i : ℕ). Malformed i) q
line_one ShortSoil p q = absurd (omega (arith, p))

void_line : (s : List ℕ) (e : Unread) → void_given (Err e) ≡ read_void s → e ≡ Malformed 1
unfolding read_void
void_line s e v = go (form_at void_form s 0).ok refl
  where
    number : unread_number e ≡ (read_void s).number
    number = ap (λ (x : VoidRead). x.number) v

    line : unread_line e ≡ (read_void s).line
    line = ap (λ (x : VoidRead). x.line) v

    go : (b : Bool) → (form_at void_form s 0).ok ≡ b → e ≡ Malformed 1
    go true k = absurd (no_zero e (rw k at number))
    go false k = line_one e (rw k at number) (rw k at line)

reading_line : (s : List ℕ) (e : Unread) → reading_given (Err e) ≡ read_reading s → e ≡ Malformed 1
unfolding read_reading
reading_line s e v = go (form_at reading_form s 0).ok refl
  where
    number : unread_number e ≡ (read_reading s).number
    number = ap (λ (x : ReadingRead). x.number) v

    line : unread_line e ≡ (read_reading s).line
    line = ap (λ (x : ReadingRead). x.line) v

    go : (b : Bool) → (form_at reading_form s 0).ok ≡ b → e ≡ Malformed 1
    go true k = absurd (no_zero e (rw k at number))
    go false k = line_one e (rw k at number) (rw k at line)

pub entry_none : (s : List ℕ) (e d : Unread) → void_given (Err e) ≡ read_void s → reading_given (Err d) ≡ read_reading s → entry_given (Err e) ≡ read_entry s
unfolding read_entry
entry_none s e d v x =
    let none : ¬ ((read_void s).number ≡ 0) = λ z. no_zero e (ap (λ (x : VoidRead). x.number) v ∙ z) in
    rw (ne_eqb _ _ none, ← x, void_line s e v, reading_line s d x)

pub entry_other : (s : List ℕ) (v : VoidRead) (x : ReadingRead) → v ≡ read_void s → ¬ (v.number ≡ 0) → x ≡ read_reading s → as_read x ≡ read_entry s
unfolding read_entry
entry_other s v x e n f =
    let k : ¬ ((read_void s).number ≡ 0) = rw e at n in
    rw (ne_eqb _ _ k, f)

-- what was written of either is read back as an entry, whatever bytes stand behind it
pub entry_back_void : (n : Notice) (q : List ℕ) → Words n → read_entry (void_text n ++ q) ≡ record { number = 0; taken = length (void_text n); line = 0; entry = Entry.Void n }
unfolding read_entry
entry_back_void n q w = rw (void_back n q w)

pub entry_back_reading : (r : Reading) (q : List ℕ) → ReadingWords r → read_entry (text_of r ++ q) ≡ record { number = 0; taken = length (text_of r); line = 0; entry = Entry.Reading (read_again r) }
unfolding read_entry
entry_back_reading r q w =
    let b = read_back r q w in
    let none : ¬ ((read_void (text_of r ++ q)).number ≡ 0) = λ e. let z : ◌≡◌ {A = ℕ} 0 12 = rw b at (never_both (text_of r ++ q) e) in absurd (omega arith) in
    rw (ne_eqb _ _ none, b)

-- a line that is neither is malformed, and only such a line is
no_void : (s : List ℕ) → ¬ ((read_void s).number ≡ 0) → (read_void s).number ≡ malformed
unfolding read_void
no_void s n = go (form_at void_form s 0).ok refl
  where
    go : (b : Bool) → (form_at void_form s 0).ok ≡ b → (read_void s).number ≡ malformed
    go true k = absurd (n (rw k))
    go false k = rw k

pub neither : (s : List ℕ) → (read_entry s).number ≡ malformed → ((read_void s).number ≡ malformed) × ((read_reading s).number ≡ malformed)
unfolding read_entry
neither s e = go (eqb (read_void s).number 0) refl
  where
    go : (b : Bool) → eqb (read_void s).number 0 ≡ b → ((read_void s).number ≡ malformed) × ((read_reading s).number ≡ malformed)
    go true k = absurd (let z : ◌≡◌ {A = ℕ} 0 12 = rw k at e in omega arith)
    go false k = (no_void s (eqb-false (read_void s).number 0 k), rw k at e)
