-- Laws of readings as text: what was written is read back, and each reading has one text. Assumes nothing.
use Rattle.form.specs.Put.{sets_all}
use Rattle.cell.specs.Refusals.{malformed}
use Rattle.std.proofs.lemmas.List.Edits.{sets}
use Rattle.std.specs.Prelude.{◌≡◌, refl, List, [], ◌++◌, map, Bool, true, false, ℕ, ◌+◌, ◌≤◌, ◌<◌, length, take, drop, get_or, T, ltb, ℤ, pos, Result, Ok, Err}
use Rattle.std.proofs.Common.{sym, ap, ◌∙◌, arith, take_all, lt-ltb, Some, None}
use Rattle.std.specs.Float.{binary32}
use Rattle.std.specs.Float.Ieee.{fits as floatFits}
use Rattle.head.specs.Pattern.{pattern_of}
use Rattle.head.specs.PatternLaws.{there_and_back, pattern_lt, same_again}
use Rattle.cell.specs.declared.Reading.{Reading}
use Rattle.text.specs.declared.Read.{Read}
use Rattle.text.specs.declared.Unread.{Unread}
use Rattle.text.specs.Reads.{values_read, ReadingRead}
use Rattle.text.proofs.ReadLaws.{read_took, read_stopped}
use Rattle.form.specs.Form.{form_at, form_text, fits, taken_of}
use Rattle.form.specs.FormLaws.{FormRead, form_one, form_back, read, cells_take, ok_words, unword, small_oks, and_i}
use Rattle.form.specs.RunLaws.{form_length, took, not_taken}
use Rattle.text.specs.Lines.{reading_form}
use Rattle.form.specs.Words.{word_of, word_lt}
use Rattle.text.specs.Readings.{vals_of, fields_of, text_of, read_reading, reading_given, carried, read_again, Same, reading_checks}
use Rattle.text.specs.Written.{Written, Writes}
use Rattle.text.proofs.WrittenLaws.{line_again}

-- a line that stands at the start of s
one_line_lem : (s : List ℕ) → (form_at reading_form s 0).ok ≡ true → FormRead reading_form s 0 (form_at reading_form s 0)
one_line_lem s e = form_one reading_form s 0 refl (omega arith) e

-- what reading the line has given comes to the reading
pub reading_took : (s : List ℕ) (x : Read (List ℤ)) (r : Reading) → Ok x ≡ values_read (form_at reading_form s 0) → r ≡ fields_of x.value → reading_given (Ok (record { taken = x.taken; value = r })) ≡ read_reading s
unfolding read_reading
reading_took s x r p e = let q = read_took (form_at reading_form s 0) x p in rw (q.0, e, q.1, q.2)

pub reading_stops : (s : List ℕ) (e : Unread) → ◌≡◌ {A = Result (Read (List ℤ)) Unread} (Err e) (values_read (form_at reading_form s 0)) → reading_given (Err e) ≡ read_reading s
unfolding read_reading
reading_stops s e p = let q = read_stopped (form_at reading_form s 0) e p in rw (q.0, q.1)

-- a line that was read, and one that was not
pub read_good : (s : List ℕ) (t : ℕ) (z v : List ℤ) (r : Reading) → length z ≡ 10 → taken_of (form_at reading_form s 0) ≡ Some t
    → v ≡ sets z 0 (form_at reading_form s 0).vals → r ≡ fields_of v
    → ◌≡◌ {A = ReadingRead} (record { number = 0; taken = t; line = 0; reading = r }) (read_reading s)
unfolding read_reading
read_good s t z v r l e f g =
    let k = took (form_at reading_form s 0) t e in
    let m : length (form_at reading_form s 0).vals ≡ 10 = form_length reading_form s 0 k.0 in
    rw (k.0, ← k.1, g, f, sets_all z (form_at reading_form s 0).vals (m ∙ sym l))

pub refused : (s : List ℕ) → taken_of (form_at reading_form s 0) ≡ None
    → ◌≡◌ {A = ReadingRead} (record { number = malformed; taken = 0; line = 1; reading = fields_of [] }) (read_reading s)
unfolding read_reading
refused s e = rw (not_taken (form_at reading_form s 0) e)

-- ---- the two laws

-- what owning a reading tells: each field fits 32 bits, and the head is a 32-bit float
pub record Words (r : Reading) : Type 0 where
  pub cell : r.cell < 4294967296
  pub life : r.life < 4294967296
  pub count : r.count < 4294967296
  pub rain : r.rain < 4294967296
  pub irrig : r.irrig < 4294967296
  pub septic : r.septic < 4294967296
  pub etmin : r.etmin < 4294967296
  pub pet : r.pet < 4294967296
  pub amc : r.amc < 4294967296
  pub nan : r.nan < 4294967296
  pub head : T (floatFits binary32 r.head)

bits_lt : (r : Reading) → Words r → pattern_of (carried r) < 4294967296
bits_lt r w = pattern_lt (carried r) w.head w.nan

pub small : (n : ℕ) → n < 4294967296 → ltb n 4294967296 ≡ true
small n h = lt-ltb n 4294967296 h

words_ok : (r : Reading) → Words r → fits reading_form (vals_of r) ≡ true
words_ok r w = small_oks reading_form (vals_of r) refl (and_i _ _ (small _ w.cell) (and_i _ _ (small _ w.life) (and_i _ _ (small _ w.count) (and_i _ _ (small _ w.rain) (and_i _ _ (small _ w.irrig) (and_i _ _ (small _ w.septic) (and_i _ _ (small _ w.etmin) (and_i _ _ (small _ w.pet) (and_i _ _ (small _ w.amc) (and_i _ _ (small _ (bits_lt r w)) refl))))))))))

fields_vals : (r : Reading) → Words r → fields_of (vals_of r) ≡ read_again r
fields_vals r w = rw (small _ w.cell, small _ w.life, small _ w.count, small _ w.rain, small _ w.irrig, small _ w.septic, small _ w.etmin, small _ w.pet, small _ w.amc, small _ (bits_lt r w))

-- what was written is read back, all bytes taken, whatever bytes stand behind it
pub read_back : (r : Reading) (q : List ℕ) → Words r → read_reading (text_of r ++ q) ≡ record { number = 0; taken = length (text_of r); line = 0; reading = read_again r }
unfolding read_reading text_of
read_back r q w =
    let e : form_at reading_form (form_text reading_form (vals_of r) ++ q) 0 ≡ read (0 + length (form_text reading_form (vals_of r))) (vals_of r) = form_back reading_form (vals_of r) [] q refl (words_ok r w) refl in
    let z : 0 + length (form_text reading_form (vals_of r)) ≡ length (form_text reading_form (vals_of r)) = omega arith in
    rw (e, z, fields_vals r w)

-- and it is the same reading: its fields are, the head by its bits
pub same_reading : (r : Reading) → Words r → Same r (read_again r)
same_reading r w =
    record {
      cell = refl;
      life = refl;
      count = refl;
      rain = refl;
      irrig = refl;
      septic = refl;
      etmin = refl;
      pet = refl;
      amc = refl;
      head = sym (same_again (carried r) w.head w.nan);
    }

-- a reading that a text gave is read back as it is, its head's second field too
pub read_same : (vs : List ℤ) → read_again (fields_of vs) ≡ fields_of vs
read_same vs = rw (there_and_back (word_of (get_or vs 9 (pos 0))) (word_lt (get_or vs 9 (pos 0))))

-- each reading has one text: the bytes that a reading was taken from
vals_fields : (vs : List ℤ) → length vs ≡ 10 → fits reading_form vs ≡ true → vals_of (fields_of vs) ≡ vs
vals_fields vs n o =
    rw (there_and_back (word_of (get_or vs 9 (pos 0))) (word_lt (get_or vs 9 (pos 0))))
    (ap (map unword) (cells_take 10 0 vs (omega arith) ∙ take_all 10 vs (omega arith)) ∙ ok_words reading_form vs refl n o)

pub one_text : (s : List ℕ) → (read_reading s).number ≡ 0 → take (read_reading s).taken s ≡ text_of (read_reading s).reading
unfolding read_reading text_of
one_text s e = go (form_at reading_form s 0).ok refl
  where
    go : (b : Bool) → (form_at reading_form s 0).ok ≡ b → take (read_reading s).taken s ≡ text_of (read_reading s).reading
    go true k =
        let l = one_line_lem s k in
        rw (k, vals_fields (form_at reading_form s 0).vals (form_length reading_form s 0 k) l.fits) l.text
    go false k = absurd (let z : 12 ≡ 0 = rw k at e in omega arith)

-- the reading that was read, written into a buffer with room, stands there as the very bytes that were taken
pub reading_again : (s b : List ℕ) → (read_reading s).number ≡ 0 → length (take (read_reading s).taken s) ≤ length b → (w : Written) (after : List ℕ)
    → Writes (reading_checks (read_reading s).reading b) (text_of (read_reading s).reading) b w after
    → (w ≡ record { number = 0; len = length (take (read_reading s).taken s) }) × (after ≡ take (read_reading s).taken s ++ drop (length (take (read_reading s).taken s)) b)
reading_again s b e l w after g = line_again (take (read_reading s).taken s) (text_of (read_reading s).reading) b (one_text s e) l w after g
