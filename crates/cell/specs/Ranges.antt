-- Numbers and their ranges: of a card, of a cell's soil numbers, of its stored row, of a void's notice, of a reading. Definitions only.
use Rattle.std.specs.Prelude.{ℕ, ◌-◌, ◌*◌, Bool, true, ◌&&◌, List, [], ◌∷◌, leb, ltb, eqb, ℤ, pos, negsuc, nat_abs, length, get_or, take, drop}
use Rattle.std.specs.Int.Signed.{le_z}
use Rattle.cell.specs.declared.Card.{Card}
use Rattle.cell.specs.declared.Entry.{Entry}
use Rattle.cell.specs.declared.Notice.{Notice}
use Rattle.cell.specs.declared.Reading.{Reading}
use Rattle.cell.specs.declared.ranges.Soil.{Soil}
use Rattle.cell.specs.Sums.{front_width, runoff_at, drain_at, sum_limit, sum_of}

-- ---- the card
-- cells 1..256; delays M 0..30
unfoldable pub counts_ok : ℕ → ℕ → Bool
counts_ok cells delays = leb 1 cells && leb cells 256 && leb delays 30

-- each number is 0
unfoldable pub none_of : List ℕ → Bool
none_of [] = true
none_of (n ∷ ns) = eqb n 0 && none_of ns

-- strictly rising from above `before`, none above 1,000,000,000 µm
unfoldable pub rising_from : ℕ → List ℕ → Bool
rising_from before [] = true
rising_from before (d ∷ ds) = (ltb before d && leb d 1000000000) && rising_from d ds

-- room for 30 depths: the first M rise from above 0, unused places hold 0
unfoldable pub depths_ok : ℕ → List ℕ → Bool
depths_ok m ds = eqb (length ds) 30 && (rising_from 0 (take m ds) && none_of (drop m ds))

-- [5] the share of storage that the first wetting takes: whole percent, 5..20
unfoldable pub share_ok : ℕ → Bool
share_ok share = leb 5 share && leb share 20

unfoldable pub card_ok : Card → Bool
card_ok card = counts_ok card.cells card.delays && depths_ok card.delays card.depths && share_ok card.share

-- ---- the soil numbers, five of them: top, etdepth, vadpor, leak, cn
unfoldable pub within : ℤ → ℤ → ℤ → Bool
within low high z = le_z low z && le_z z high

unfoldable pub soil_ok : List ℤ → Bool
soil_ok s =
    eqb (length s) 5
    && within (negsuc 9999999999) (pos 10000000000) (get_or s 0 (pos 0))
    && within (pos 1) (pos 100000000) (get_or s 1 (pos 0))
    && within (pos 1) (pos 1000) (get_or s 2 (pos 0))
    && within (pos 0) (pos 1000000) (get_or s 3 (pos 0))
    && within (pos 1) (pos 100) (get_or s 4 (pos 0))

-- the five numbers by their names
unfoldable pub soil_of : List ℤ → Soil
soil_of s =
    record {
      top = record { 0 = get_or s 0 (pos 0) };
      etdepth = nat_abs (get_or s 1 (pos 0));
      vadpor = nat_abs (get_or s 2 (pos 0));
      leak = nat_abs (get_or s 3 (pos 0));
      cn = nat_abs (get_or s 4 (pos 0));
    }

-- ---- the stored row: life 0..65,535; next count 0..1,000,000; slots 1..30; [6] runoff and drainage since collection, each at most 10^18
-- how many numbers that is
abbrev pub row_width : Card → ℕ
row_width card = 36

unfoldable pub life_of : List ℕ → ℕ
life_of row = get_or row 0 0

unfoldable pub next_of : List ℕ → ℕ
next_of row = get_or row 1 0

unfoldable pub slots_of : List ℕ → List ℕ
slots_of row = take 30 (drop 2 row)

-- the waiting queue: slots 1..M
unfoldable pub queue_of : ℕ → List ℕ → List ℕ
queue_of m row = take m (drop 2 row)

-- slot k is at most 2,000,000 x (M - k + 1), and 0 above M: M at the first slot, one less at each after it, down to 0
unfoldable pub slots_ok : ℕ → List ℕ → Bool
slots_ok m [] = true
slots_ok m (s ∷ ss) = leb s (2000000 * m) && slots_ok (m - 1) ss

-- the numbers of a row in any of its forms, where a sum that it does not have counts as 0
unfoldable pub form_ok : ℕ → List ℕ → Bool
form_ok m row =
    leb front_width (length row)
    && leb (life_of row) 65535
    && leb (next_of row) 1000000
    && slots_ok m (slots_of row)
    && leb (sum_of runoff_at row) sum_limit
    && leb (sum_of drain_at row) sum_limit

unfoldable pub row_ok : Card → List ℕ → Bool
row_ok card row = eqb (length row) (row_width card) && form_ok card.delays row

-- ---- [3] an entry: a reading, or a void. Either names a cell, a life and a count, which are all that a notice holds
abbrev pub noticed : Reading → Notice
noticed r = record { cell = r.cell; life = r.life; count = r.count }

abbrev pub notice_of : Entry → Notice
notice_of (Entry.Reading r) = noticed r
notice_of (Entry.Void n) = n

abbrev pub cell_of : Entry → ℕ
cell_of e = (notice_of e).cell

-- the life and count of either
unfoldable pub notice_ok : Notice → Bool
notice_ok n = leb n.life 65535 && leb n.count 999999

-- ---- the reading, but for its cell and its head
unfoldable pub fields_ok : Reading → Bool
fields_ok r =
    notice_ok (noticed r)
    && leb r.rain 1000000
    && leb r.irrig 1000000
    && leb r.septic 1000000
    && leb r.etmin 1000000
    && leb r.pet 1000000
    && leb r.etmin r.pet
    && leb 1 r.amc
    && leb r.amc 3
