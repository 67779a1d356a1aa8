-- Readings as text: what reading one finds, its one text, and what writing one checks. Definitions only.
use Rattle.std.specs.Prelude.{ℕ, ◌≡◌, List, [], ◌∷◌, Bool, cond, get_or, ℤ, pos, Result}
use Rattle.head.specs.declared.Carried.{Carried}
use Rattle.head.specs.Pattern.{pattern_of, carried_of}
use Rattle.cell.specs.declared.Reading.{Reading}
use Rattle.cell.specs.Refusals.{malformed}
use Rattle.text.specs.declared.Read.{Read}
use Rattle.text.specs.declared.Unread.{Unread}
use Rattle.text.specs.Reads.{ReadingRead, number_read, taken_read, line_read, value_read}
use Rattle.form.specs.Form.{Out, form_at, form_text}
use Rattle.text.specs.Lines.{reading_form}
use Rattle.form.specs.Words.{word_of}
use Rattle.text.specs.Written.{fits_in}

-- the head of a reading, as it is carried
abbrev pub carried : Reading → Carried
carried r = record { value = r.head; nan = r.nan }

-- the values of a reading's line, and back; the head by its bits
abbrev pub vals_of : Reading → List ℤ
vals_of r =
    pos r.cell ∷ pos r.life ∷ pos r.count ∷ pos r.rain ∷ pos r.irrig ∷ pos r.septic ∷ pos r.etmin ∷ pos r.pet ∷ pos r.amc
    ∷ pos (pattern_of (carried r)) ∷ []

abbrev pub fields_of : List ℤ → Reading
fields_of vs =
    record {
      cell = word_of (get_or vs 0 (pos 0));
      life = word_of (get_or vs 1 (pos 0));
      count = word_of (get_or vs 2 (pos 0));
      rain = word_of (get_or vs 3 (pos 0));
      irrig = word_of (get_or vs 4 (pos 0));
      septic = word_of (get_or vs 5 (pos 0));
      etmin = word_of (get_or vs 6 (pos 0));
      pet = word_of (get_or vs 7 (pos 0));
      amc = word_of (get_or vs 8 (pos 0));
      head = (carried_of (word_of (get_or vs 9 (pos 0)))).value;
      nan = (carried_of (word_of (get_or vs 9 (pos 0)))).nan;
    }

-- two readings are the same if their fields are, the head by its bits
pub record Same (r r' : Reading) : Type 0 where
  pub cell : r.cell ≡ r'.cell
  pub life : r.life ≡ r'.life
  pub count : r.count ≡ r'.count
  pub rain : r.rain ≡ r'.rain
  pub irrig : r.irrig ≡ r'.irrig
  pub septic : r.septic ≡ r'.septic
  pub etmin : r.etmin ≡ r'.etmin
  pub pet : r.pet ≡ r'.pet
  pub amc : r.amc ≡ r'.amc
  pub head : pattern_of (carried r) ≡ pattern_of (carried r')

-- a reading with its head taken from its bits
abbrev pub read_again : Reading → Reading
read_again r =
    record {
      cell = r.cell;
      life = r.life;
      count = r.count;
      rain = r.rain;
      irrig = r.irrig;
      septic = r.septic;
      etmin = r.etmin;
      pet = r.pet;
      amc = r.amc;
      head = (carried_of (pattern_of (carried r))).value;
      nan = (carried_of (pattern_of (carried r))).nan;
    }

-- the one text of a reading
unfoldable pub text_of : Reading → List ℕ
text_of r = form_text reading_form (vals_of r)

-- what reading a reading at the start of s gives
abbrev pub result_of : Out → ReadingRead
result_of o =
    cond o.ok (record { number = 0; taken = o.next; line = 0; reading = fields_of o.vals }) (record { number = malformed; taken = 0; line = 1; reading = fields_of [] })

unfoldable pub read_reading : List ℕ → ReadingRead
read_reading s = result_of (form_at reading_form s 0)

-- a refused reader gives a reading of zeros
abbrev pub reading_given : Result (Read Reading) Unread → ReadingRead
reading_given r = record { number = number_read r; taken = taken_read r; line = line_read r; reading = value_read (fields_of []) r }

-- writing a reading knows only the short buffer
abbrev pub reading_checks : Reading → List ℕ → List (ℕ × Bool)
reading_checks r b = (malformed, fits_in (text_of r) b) ∷ []
