-- [4] An entry and an outbox as rows of numbers, as a node's host hands them over. Definitions only.
use Rattle.std.specs.Prelude.{ℕ, zero, suc, Bool, true, cond, ◌&&◌, ◌||◌, List, [], ◌∷◌, ◌++◌, eqb, take, drop, get_or, replicate}
use Rattle.cell.specs.declared.Entry.{Entry}
use Rattle.shapes.specs.Shapes.{reading_from, reading_numbers, notice_width, notice_from, notice_numbers}
use Rattle.outbox.specs.declared.Outbox.{Outbox}

-- ---- an entry: 0 and the ten numbers of a reading; or 1, the three of a notice and seven zeros
abbrev pub entry_width : ℕ
entry_width = 11

-- the zeros behind a void's notice
abbrev pub rest_width : ℕ
rest_width = 7

-- each number of a row is 0
unfoldable pub zeros : List ℕ → Bool
zeros [] = true
zeros (n ∷ l) = eqb n 0 && zeros l

-- a reading, or a void with nothing behind its notice
unfoldable pub is_entry : List ℕ → Bool
is_entry l = eqb (get_or l 0 0) 0 || (eqb (get_or l 0 0) 1 && zeros (drop 4 l))

unfoldable pub entry_from : List ℕ → Entry
entry_from l = cond (eqb (get_or l 0 0) 0) (Entry.Reading (reading_from (drop 1 l))) (Entry.Void (notice_from (take notice_width (drop 1 l))))

unfoldable pub entry_numbers : Entry → List ℕ
entry_numbers (Entry.Reading r) = 0 ∷ reading_numbers r
entry_numbers (Entry.Void n) = 1 ∷ notice_numbers n ++ replicate rest_width 0

-- ---- an outbox: cell, life, next, held, and then its 30 places, oldest first
abbrev pub places_start : ℕ
places_start = 4

abbrev pub place_count : ℕ
place_count = 30

abbrev pub box_width : ℕ
box_width = 334

-- so many places, one after the other
unfoldable pub places_from : ℕ → List ℕ → List Entry
places_from zero l = []
places_from (suc k) l = entry_from (take entry_width l) ∷ places_from k (drop entry_width l)

unfoldable pub are_entries : ℕ → List ℕ → Bool
are_entries zero l = true
are_entries (suc k) l = is_entry (take entry_width l) && are_entries k (drop entry_width l)

unfoldable pub place_numbers : List Entry → List ℕ
place_numbers [] = []
place_numbers (p ∷ ps) = entry_numbers p ++ place_numbers ps

-- each place is an entry
unfoldable pub all_entries : List ℕ → Bool
all_entries l = are_entries place_count (drop places_start l)

unfoldable pub box_from : List ℕ → Outbox
box_from l = record { cell = get_or l 0 0; life = get_or l 1 0; next = get_or l 2 0; held = get_or l 3 0; places = places_from place_count (drop places_start l) }

unfoldable pub box_numbers : Outbox → List ℕ
box_numbers b = b.cell ∷ b.life ∷ b.next ∷ b.held ∷ place_numbers b.places
