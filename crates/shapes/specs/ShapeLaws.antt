-- A reading and a notice come back from their numbers, and their numbers from them. Assumes nothing.
use Rattle.std.specs.Prelude.{◌≡◌, refl, List, ℕ, ◌^◌, ◌<◌, length, get_or, replicate}
use Rattle.std.proofs.Common.{sym, ap, ◌∙◌, arith}
use Rattle.head.specs.declared.Carried.{Carried}
use Rattle.head.specs.Pattern.{pattern_of, carried_of}
use Rattle.head.specs.PatternLaws.{there_and_back}
use Rattle.cell.specs.declared.Notice.{Notice}
use Rattle.cell.specs.declared.Reading.{Reading}
use Rattle.shapes.specs.Shapes.{reading_width, reading_from, reading_numbers, notice_width, notice_from, notice_numbers}
use Rattle.shapes.specs.Rows.{spread_is}

pub reading_wide : (r : Reading) → length (reading_numbers r) ≡ reading_width
unfolding reading_numbers
reading_wide r = refl

pub notice_wide : (n : Notice) → length (notice_numbers n) ≡ notice_width
unfolding notice_numbers
notice_wide n = refl

-- the head of a reading that is read is what its bits stand for
pub head_is : (l : List ℕ) → record { value = (reading_from l).head; nan = (reading_from l).nan } ≡ carried_of (get_or l 9 0)
unfolding reading_from
head_is l = refl

-- a reading comes back where its head is what some 32 bits stand for, as that of each one that was read
pub reading_back : (r : Reading) (bits : ℕ) → bits < 2 ^ 32 → record { value = r.head; nan = r.nan } ≡ carried_of bits → reading_from (reading_numbers r) ≡ r
unfolding reading_from reading_numbers
reading_back r bits h e =
    let back : carried_of (pattern_of (record { value = r.head; nan = r.nan })) ≡ record { value = r.head; nan = r.nan } =
    ap (λ (x : Carried). carried_of (pattern_of x)) e ∙ ap carried_of (there_and_back bits h) ∙ sym e in
    rw back

pub reading_there : (l : List ℕ) → length l ≡ reading_width → get_or l 9 0 < 2 ^ 32 → reading_numbers (reading_from l) ≡ l
unfolding reading_from reading_numbers
reading_there l w h = rw (there_and_back (get_or l 9 0) h) (spread_is l 0 10 (omega arith))

pub notice_back : (n : Notice) → notice_from (notice_numbers n) ≡ n
unfolding notice_from notice_numbers
notice_back n = refl

pub notice_there : (l : List ℕ) → length l ≡ notice_width → notice_numbers (notice_from l) ≡ l
unfolding notice_from notice_numbers
notice_there l w = spread_is l 0 3 (omega arith)

-- ten zeros are a reading of zeros
pub zeros_from : reading_from (replicate reading_width 0)
    ≡ record { cell = 0; life = 0; count = 0; rain = 0; irrig = 0; septic = 0; etmin = 0; pet = 0; amc = 0; head = (carried_of 0).value; nan = (carried_of 0).nan }
unfolding reading_from
zeros_from = refl

-- and three zeros a notice of zeros
pub zero_notice : notice_from (replicate notice_width 0) ≡ record { cell = 0; life = 0; count = 0 }
unfolding notice_from
zero_notice = refl
