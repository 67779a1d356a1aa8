-- The refusal numbers of every call, and the checks of a row's step in their order. Definitions only.
use Rattle.std.specs.Prelude.{Result, ℕ, Bool, true, false, cond, not, ◌&&◌, ◌||◌, List, [], ◌∷◌, ltb, eqb, ℤ, pos, get_or, Ok, Err}
use Rattle.head.specs.declared.Head.{Head}
use Rattle.head.specs.declared.Head.TheVariants.{Level, Dry, Inactive, Unusable}
use Rattle.head.specs.Class.{class_of}
use Rattle.head.specs.Level.{level_um}
use Rattle.cell.specs.Answers.{Answer, Verdict}
use Rattle.cell.specs.declared.Card.{Card}
use Rattle.cell.specs.declared.Depth.{Depth}
use Rattle.cell.specs.declared.Entry.{Entry}
use Rattle.cell.specs.declared.Notice.{Notice}
use Rattle.cell.specs.declared.Reading.{Reading}
use Rattle.cell.specs.declared.Amounts.{Amounts}
use Rattle.cell.specs.declared.Refusal.{Refusal}
use Rattle.cell.specs.declared.Refusal.TheVariants.{BadCard, BadLengths, BadCell, BadSoil, BadRow, Old, Gap, BadReading, JammedBucket, UnusableHead, InactiveHead, FullSums}
use Rattle.cell.specs.Water.{water, net}
use Rattle.cell.specs.Ranges.{card_ok, soil_ok, row_ok, notice_ok, fields_ok, notice_of, life_of, next_of}
use Rattle.cell.specs.Depth.{depth_of, dry_depth}

-- ---- the numbers in the order of the checks: 1 to 10, 15 [6] and 17 [7] of a step, some of other calls too
abbrev pub refusal_number : Refusal → ℕ
refusal_number BadCard = 1
refusal_number BadLengths = 2
refusal_number BadCell = 3
refusal_number BadSoil = 4
refusal_number BadRow = 5
refusal_number Old = 6
refusal_number Gap = 7
refusal_number BadReading = 8
refusal_number JammedBucket = 17
refusal_number UnusableHead = 9
refusal_number InactiveHead = 10
refusal_number FullSums = 15

-- 11 is an answer that a sheet does not take; 12 a malformed text, or nothing that can be written
abbrev pub not_addable : ℕ
not_addable = 11

abbrev pub malformed : ℕ
malformed = 12

-- [6] 16 is a move back while a sum is not 0
abbrev pub uncollected : ℕ
uncollected = 16

-- the checks of a call in the order in which it meets them, each with its number and whether it is passed: the number of the first that is not, 0 where all are
abbrev pub first_failing : List (ℕ × Bool) → ℕ
first_failing [] = 0
first_failing (check ∷ more) = cond check.1 (first_failing more) check.0

-- ---- answers
-- the number of what any call answers: 0 where it was accepted
abbrev pub number_of : {A : Type 0} → Result A Refusal → ℕ
number_of (Ok a) = 0
number_of (Err r) = refusal_number r

-- ten zero amounts
abbrev pub nothing : Amounts
nothing =
    record {
      inflow = water 0;
      runoff = water 0;
      etvad = water 0;
      etstor = water 0;
      etsat = water 0;
      drain = water 0;
      release = water 0;
      stored = water 0;
      recharge = net (pos 0);
      left = water 0;
    }

-- the amounts of an answer: zeros where it was refused
abbrev pub amounts_of : Answer → Amounts
amounts_of (Ok a) = a
amounts_of (Err r) = nothing

-- ---- the checks of a row's step
-- of a row's life and next count
-- 6. old: life lower, or same life and count lower than next
unfoldable pub is_old : ℕ → ℕ → Notice → Bool
is_old life next n = ltb n.life life || (eqb n.life life && ltb n.count next)

-- 7. gap: same life and count higher than next, or life higher and count not 0
unfoldable pub is_gap : ℕ → ℕ → Notice → Bool
is_gap life next n = (eqb n.life life && ltb next n.count) || (ltb life n.life && not (eqb n.count 0))

-- [7] 17. a jammed bucket: rain above 600,000
abbrev pub is_jammed : Reading → Bool
is_jammed r = ltb 600000 r.rain

-- 9. head unusable; 10. head marked inactive
abbrev pub is_unusable : Head → Bool
is_unusable Unusable = true
is_unusable Inactive = false
is_unusable Dry = false
is_unusable (Level x) = false

abbrev pub is_inactive : Head → Bool
is_inactive Unusable = false
is_inactive Inactive = true
is_inactive Dry = false
is_inactive (Level x) = false

-- where the table stands by a head; only a level and a dry one are asked
unfoldable pub depth_at : ℤ → Head → Depth
depth_at top (Level x) = depth_of top (level_um x)
depth_at top Dry = dry_depth
depth_at top Inactive = dry_depth
depth_at top Unusable = dry_depth

-- what passes 9 and 10 is a depth
unfoldable pub sounded : ℤ → Head → Verdict
sounded top Unusable = Err UnusableHead
sounded top Inactive = Err InactiveHead
sounded top Dry = Ok dry_depth
sounded top (Level x) = Ok (depth_of top (level_um x))

-- 8, 17 [7], 9 and 10, each with its number and whether it is passed; of a void [3] the life and count part of 8, no other
abbrev pub field_checks : Entry → List (ℕ × Bool)
field_checks (Entry.Reading r) =
    (8, fields_ok r)
    ∷ (17, not (is_jammed r))
    ∷ (9, not (is_unusable (class_of r.head)))
    ∷ (10, not (is_inactive (class_of r.head)))
    ∷ []
field_checks (Entry.Void n) = (8, notice_ok n) ∷ []

-- a check: refused with r where it fails, else on to the next
unfoldable pub unless : {A : Type 0} → Bool → Refusal → Result A Refusal → Result A Refusal
unless true r next = next
unless false r next = Err r

-- the checks after 7: 8, 17 [7], 9 and 10 of a reading; of a void [3] the life and count part of 8. A verdict that passes carries a depth, at which no rule of a void looks
unfoldable pub fields_verdict : ℤ → Entry → Verdict
fields_verdict top (Entry.Reading r) =
    unless (fields_ok r) BadReading
    (unless (not (is_jammed r)) JammedBucket
    (sounded top (class_of r.head)))
fields_verdict top (Entry.Void n) = unless (notice_ok n) BadReading (Ok dry_depth)

-- the checks from 5 to 10, 17 [7] among them, in their order: of the row they ask whether it is in range, its life and its next count
abbrev pub row_verdict : ℤ → Bool → ℕ → ℕ → Entry → Verdict
row_verdict top fits life next e =
    unless fits BadRow
    (unless (not (is_old life next (notice_of e))) Old
    (unless (not (is_gap life next (notice_of e))) Gap
    (fields_verdict top e)))

-- the first check up to 10 that fails; 2 and 3 are the site's
unfoldable pub verdict_of : Card → List ℤ → List ℕ → Entry → Verdict
verdict_of card soil row e =
    unless (card_ok card) BadCard
    (unless (soil_ok soil) BadSoil
    (row_verdict (get_or soil 0 (pos 0)) (row_ok card row) (life_of row) (next_of row) e))
