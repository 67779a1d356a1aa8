-- A reading and a notice as rows of numbers, as a host of either library hands them over. Definitions only.
use Rattle.std.specs.Prelude.{ℕ, Bool, List, [], ◌∷◌, eqb, length, get_or}
use Rattle.head.specs.Pattern.{pattern_of, carried_of}
use Rattle.cell.specs.declared.Notice.{Notice}
use Rattle.cell.specs.declared.Reading.{Reading}

-- the number of a call whose records are ill shaped
abbrev pub ill_shaped : ℕ
ill_shaped = 255

-- so many numbers
abbrev pub wide : {A : Type 0} → List A → ℕ → Bool
wide l n = eqb (length l) n

-- a reading: cell, life, count, rain, irrig, septic, etmin, pet, amc, and the head's 32 bits
abbrev pub reading_width : ℕ
reading_width = 10

unfoldable pub reading_from : List ℕ → Reading
reading_from l =
    record {
      cell = get_or l 0 0;
      life = get_or l 1 0;
      count = get_or l 2 0;
      rain = get_or l 3 0;
      irrig = get_or l 4 0;
      septic = get_or l 5 0;
      etmin = get_or l 6 0;
      pet = get_or l 7 0;
      amc = get_or l 8 0;
      head = (carried_of (get_or l 9 0)).value;
      nan = (carried_of (get_or l 9 0)).nan;
    }

unfoldable pub reading_numbers : Reading → List ℕ
reading_numbers r =
    r.cell ∷ r.life ∷ r.count ∷ r.rain ∷ r.irrig ∷ r.septic ∷ r.etmin ∷ r.pet ∷ r.amc ∷ pattern_of (record { value = r.head; nan = r.nan }) ∷ []

-- [3] a notice: cell, life, count
abbrev pub notice_width : ℕ
notice_width = 3

unfoldable pub notice_from : List ℕ → Notice
notice_from l = record { cell = get_or l 0 0; life = get_or l 1 0; count = get_or l 2 0 }

unfoldable pub notice_numbers : Notice → List ℕ
notice_numbers n = n.cell ∷ n.life ∷ n.count ∷ []
