-- The plot of document 01's example. Definitions only.
use Rattle.std.specs.Prelude.{ℕ, zero, suc, ◌+◌, List, [], ◌∷◌, replicate, ℤ, pos}
use Rattle.head.specs.Pattern.{carried_of}
use Rattle.cell.specs.declared.Card.{Card}
use Rattle.cell.specs.declared.Reading.{Reading}

-- two delay depths, and 0 in the 28 places after them
abbrev pub depths_of : ℕ → ℕ → List ℕ
depths_of first second = first ∷ second ∷ replicate 28 0

-- so many depths, each a metre below the last
abbrev pub metre_by_metre : ℕ → ℕ → List ℕ
metre_by_metre zero depth = []
metre_by_metre (suc n) depth = depth ∷ metre_by_metre n (depth + 1000000)

-- the card, for so many plots and with so many delays
abbrev pub card_of : ℕ → ℕ → Card
card_of cells delays = record { cells = cells; delays = delays; depths = depths_of 1000000 2000000; share = 20 }

-- the card of one plot without delays
abbrev pub bare_card : Card
bare_card = record { cells = 1; delays = 0; depths = depths_of 0 0; share = 20 }

-- top, etdepth, vadpor, leak, cn
abbrev pub soil_numbers : List ℤ
soil_numbers = pos 10000000 ∷ pos 1500000 ∷ pos 200 ∷ pos 100000 ∷ pos 80 ∷ []

-- the first reading, at the head of these bits
abbrev pub reading_at : ℕ → Reading
reading_at bits =
    record {
      cell = 0;
      life = 0;
      count = 0;
      rain = 50800;
      irrig = 0;
      septic = 1000;
      etmin = 2000;
      pet = 5000;
      amc = 2;
      head = (carried_of bits).value;
      nan = (carried_of bits).nan;
    }
