-- [4] One cell's outbox: what it holds as a list, oldest first; its form; and what each call gives. Definitions only.
use Rattle.std.specs.Prelude.{ℕ, ◌+◌, ◌-◌, Bool, true, false, cond, not, ◌&&◌, Option, Some, None, Result, Ok, Err, List, [], ◌∷◌, ◌++◌, leb, ltb, eqb, length, take, drop, replicate}
use Rattle.head.specs.Pattern.{pattern_of, carried_of}
use Rattle.cell.specs.declared.Entry.{Entry}
use Rattle.cell.specs.declared.Notice.{Notice}
use Rattle.cell.specs.declared.Reading.{Reading}
use Rattle.cell.specs.Ranges.{notice_of}
use Rattle.outbox.specs.declared.NoSuchCell.{NoSuchCell}
use Rattle.outbox.specs.declared.Outbox.{Outbox}
use Rattle.outbox.specs.declared.Refusal.{Refusal}

-- ---- the refusal numbers, in the order of the checks: 23 outbox out of its form; 14 not the outbox's next entry, or no higher life; 13 outbox holds 30
abbrev pub bad_form : ℕ
bad_form = 23

abbrev pub not_next : ℕ
not_next = 14

abbrev pub full : ℕ
full = 13

-- ---- entries
abbrev pub notice : ℕ → ℕ → ℕ → Notice
notice cell life count = record { cell = cell; life = life; count = count }

unfoldable pub same : Notice → Notice → Bool
same a b = eqb a.cell b.cell && eqb a.life b.life && eqb a.count b.count

-- the void that may stand in an entry's place: its cell, life and count
abbrev pub void_of : Entry → Entry
void_of e = Entry.Void (notice_of e)

-- ---- places
-- spare room is zero: a reading of zeros, head bits 00000000
abbrev pub zeros : Reading
zeros = record { cell = 0; life = 0; count = 0; rain = 0; irrig = 0; septic = 0; etmin = 0; pet = 0; amc = 0; head = (carried_of 0).value; nan = (carried_of 0).nan }

abbrev pub spare : Entry
spare = Entry.Reading zeros

unfoldable pub is_zero : Reading → Bool
is_zero r =
    (eqb r.cell 0 && eqb r.life 0 && eqb r.count 0)
    && (eqb r.rain 0 && eqb r.irrig 0 && eqb r.septic 0)
    && (eqb r.etmin 0 && eqb r.pet 0 && eqb r.amc 0)
    && eqb (pattern_of (record { value = r.head; nan = r.nan })) 0

abbrev pub is_spare : Entry → Bool
is_spare (Entry.Reading r) = is_zero r
is_spare (Entry.Void n) = false

-- ---- the list of those held, oldest first, and the 30 places
-- the 30 places that have these at their start, the rest spare
unfoldable pub padded : List Entry → List Entry
padded ps = ps ++ replicate (30 - length ps) spare

-- what an outbox holds; and the outbox that holds it
unfoldable pub held_of : Outbox → List Entry
held_of b = take b.held b.places

unfoldable pub box_of : ℕ → ℕ → ℕ → List Entry → Outbox
box_of cell life next ps = record { cell = cell; life = life; next = next; held = length ps; places = padded ps }

-- the count of the oldest; where it holds none, the next one
abbrev pub oldest_of : Outbox → ℕ
oldest_of b = b.next - b.held

-- ---- its form, number 23
-- cell 0..255, life 0..65,535, next 0..1,000,000; up to 30 held, and no more than there were counts
unfoldable pub numbers_ok : Outbox → Bool
numbers_ok b = leb b.cell 255 && leb b.life 65535 && leb b.next 1000000 && leb b.held 30 && leb b.held b.next

-- entries of this cell and life whose counts run on from this one
unfoldable pub in_turn : ℕ → ℕ → ℕ → List Entry → Bool
in_turn cell life count [] = true
in_turn cell life count (p ∷ ps) = same (notice_of p) (notice cell life count) && in_turn cell life (count + 1) ps

unfoldable pub all_spare : List Entry → Bool
all_spare [] = true
all_spare (p ∷ ps) = is_spare p && all_spare ps

-- the held entries are of its cell and present life, their counts run up to the next unused one, and the rest is spare
unfoldable pub form_ok : Outbox → Bool
form_ok b = numbers_ok b && in_turn b.cell b.life (oldest_of b) (held_of b) && all_spare (drop b.held b.places)

-- ---- the calls
-- an outbox handed back with its number: 0, or a refusal and the outbox as it came
pub record Given : Type 0 where
  pub outbox : Outbox
  pub number : ℕ

pub data Offered : Type 0 where
  Oldest : Entry → Offered
  Empty : Offered
  BadForm : Offered

pub record Replaced : Type 0 where
  pub outbox : Outbox
  pub number : ℕ
  pub empty : Bool

abbrev pub given : Outbox → ℕ → Given
given b number = record { outbox = b; number = number }

-- a check: refused with its number, the outbox as it came, else what comes next
unfoldable pub unless : Bool → Outbox → ℕ → Given → Given
unless true b number next = next
unless false b number next = given b number

-- a fresh outbox has life 0. One of a cell above 255 is refused with 14, and is out of form: each call of it gives 23
unfoldable pub fresh_of : ℕ → Given
fresh_of cell = given (box_of cell 0 0 []) (cond (leb cell 255) 0 not_next)

-- it offers the oldest; empty, it says so
unfoldable pub oldest : List Entry → Offered
oldest [] = Empty
oldest (p ∷ ps) = Oldest p

unfoldable pub offer_of : Outbox → Offered
offer_of b = cond (form_ok b) (oldest (held_of b)) BadForm

-- it takes a new entry behind the others: of its cell and life, at its next count, which is at most 999,999
unfoldable pub is_next : Outbox → Entry → Bool
is_next b e = same (notice_of e) (notice b.cell b.life b.next) && leb b.next 999999

unfoldable pub with_entry : Outbox → Entry → Outbox
with_entry b e = box_of b.cell b.life (b.next + 1) (held_of b ++ (e ∷ []))

unfoldable pub added_of : Outbox → Entry → Given
added_of b e = unless (form_ok b) b bad_form (unless (is_next b e) b not_next (unless (ltb b.held 30) b full (given (with_entry b e) 0)))

-- it puts a void in place of the oldest; empty, it says so
unfoldable pub replacing : Outbox → List Entry → Replaced
replacing b [] = record { outbox = b; number = 0; empty = true }
replacing b (p ∷ ps) = record { outbox = box_of b.cell b.life b.next (void_of p ∷ ps); number = 0; empty = false }

unfoldable pub replaced_of : Outbox → Replaced
replaced_of b = cond (form_ok b) (replacing b (held_of b)) (record { outbox = b; number = bad_form; empty = false })

-- it takes an acknowledgement, a life and a next count. One of another life, at or below the oldest count or past the next unused one changes nothing;
-- others remove just the entries below the named count
unfoldable pub is_heard : Outbox → ℕ → ℕ → Bool
is_heard b life n = eqb life b.life && ltb (oldest_of b) n && leb n b.next

unfoldable pub without : Outbox → ℕ → Outbox
without b n = box_of b.cell b.life b.next (drop (n - oldest_of b) (held_of b))

unfoldable pub acknowledged_of : Outbox → ℕ → ℕ → Given
acknowledged_of b life n = unless (form_ok b) b bad_form (given (cond (is_heard b life n) (without b n) b) 0)

-- a battery swap empties it and starts a higher life, up to 65,535, at 0
unfoldable pub is_higher : Outbox → ℕ → Bool
is_higher b life = ltb b.life life && leb life 65535

unfoldable pub swapped_of : Outbox → ℕ → Given
swapped_of b life = unless (form_ok b) b bad_form (unless (is_higher b life) b not_next (given (box_of b.cell life 0 []) 0))

-- ---- what the code's calls answer stands for
abbrev pub refusal_number : Refusal → ℕ
refusal_number Refusal.BadForm = bad_form
refusal_number Refusal.NotNext = not_next
refusal_number Refusal.Full = full

-- the number of an answer: 0, or its refusal's
abbrev pub number_of : {A : Type 0} → Result A Refusal → ℕ
number_of (Ok x) = 0
number_of (Err why) = refusal_number why

-- a fresh outbox, with its number
abbrev pub made : Result Outbox NoSuchCell → Given
made (Ok b) = given b 0
made (Err other) = given other.0 not_next

abbrev pub offered : Offered → Result (Option Entry) Refusal
offered (Oldest e) = Ok (Some e)
offered Empty = Ok None
offered BadForm = Err Refusal.BadForm

-- an outbox after a replacing, which says whether there was one to replace
abbrev pub found_empty : Result Bool Refusal → Bool
found_empty (Ok some) = not some
found_empty (Err why) = false

abbrev pub replaced : Outbox → Result Bool Refusal → Replaced
replaced b r = record { outbox = b; number = number_of r; empty = found_empty r }
