-- Document 01's example, line by line, computed over the definitions; and texts that are malformed. Assumes nothing.
use Rattle.std.specs.Prelude.{◌≡◌, refl, List, [], ◌∷◌, ◌++◌, ℕ, ℤ, pos, negsuc, replicate, Ok, Err}
use Prim.Native.String.{String}
use Rattle.head.specs.Pattern.{carried_of}
use Rattle.form.specs.Bytes.{bytes}
use Rattle.form.specs.Dec.{dec, dec_f, num_at, num_start, num_go}
use Rattle.form.specs.Hex.{hex, hex_at, hex_go}
use Rattle.form.specs.Form.{byte_at, val_at, val_text, form_at, form_text}
use Rattle.form.specs.Many.{many_at, rows_text}
use Rattle.form.specs.Keys.{key_at, key_text}
use Rattle.cell.specs.declared.Card.{Card}
use Rattle.cell.specs.declared.Refusal.TheVariants.{Old}
use Rattle.cell.specs.Ranges.{counts_ok}
use Rattle.cell.specs.Water.{water, net}
use Rattle.text.specs.Readings.{read_reading}
use Rattle.text.specs.Voids.{void_text, read_void, read_entry}
use Rattle.text.specs.Cards.{parse, counts_of, range_counts, tail_at, depths_at, tail_text, card_text, card_parts}
use Rattle.text.specs.Printed.{answer_text, line_text, sheet_text}

-- the card
pub card : Card
card = record { cells = 1; delays = 2; depths = 1000000 ∷ 2000000 ∷ replicate 28 0; share = 20 }

pub soil : List ℤ
soil = pos 10000000 ∷ pos 1500000 ∷ pos 200 ∷ pos 100000 ∷ pos 80 ∷ []

pub card_line : List ℕ
card_line = bytes "cells=1 delays=2 depth=1000000 depth=2000000\ntop=10000000 etdepth=1500000 vadpor=200 leak=100000 cn=80\n"

pub card_text_lem : card_text card soil ≡ card_line
unfolding card soil card_line card_text card_parts tail_text key_text form_text rows_text val_text dec dec_f
card_text_lem = refl

pub card_read : ((parse card_line).line ≡ 0) × ((parse card_line).card ≡ card) × ((parse card_line).soil ≡ soil)
unfolding card soil card_line parse counts_of range_counts counts_ok depths_at tail_at key_at many_at form_at val_at byte_at num_at num_start num_go hex_at hex_go
card_read = (refl, refl, refl)

-- [5] a card that says its share, with depths and without, there and back
abbrev said : ℕ → Card
said share = record { cells = 1; delays = 0; depths = replicate 30 0; share = share }

-- the malformed line of a card with this first line, 0 where there is none, and its share
abbrev line_and_share : String → ℕ × ℕ
line_and_share first = let p = parse (bytes first ++ bytes "\ntop=10000000 etdepth=1500000 vadpor=200 leak=100000 cn=80\n") in (p.line, p.card.share)

pub shares : (line_and_share "cells=1 delays=2 depth=1000000 depth=2000000" ≡ (0, 20))
    × (line_and_share "cells=1 delays=2 depth=1000000 depth=2000000 share=5" ≡ (0, 5))
    × (line_and_share "cells=1 delays=0" ≡ (0, 20))
    × (line_and_share "cells=1 delays=0 share=5" ≡ (0, 5))
    × (line_and_share "cells=1 delays=0 share=0" ≡ (0, 0))
    × (line_and_share "cells=1 delays=0 share=21" ≡ (0, 21))
    × (line_and_share "cells=1 delays=0 share=4294967295" ≡ (0, 4294967295))
unfolding parse counts_of range_counts counts_ok depths_at tail_at key_at many_at form_at val_at byte_at num_at num_start num_go hex_at hex_go
shares = (refl, refl, refl, refl, refl, refl, refl)

-- 20 said, a leading zero, a minus, no number, 33 bits, a second share, a share before the depths, and another key's name are malformed
pub malformed_shares : (line_and_share "cells=1 delays=0 share=20" ≡ (1, 0))
    × (line_and_share "cells=1 delays=0 share=05" ≡ (1, 0))
    × (line_and_share "cells=1 delays=0 share=-5" ≡ (1, 0))
    × (line_and_share "cells=1 delays=0 share=" ≡ (1, 0))
    × (line_and_share "cells=1 delays=0 share=4294967296" ≡ (1, 0))
    × (line_and_share "cells=1 delays=0 share=5 share=6" ≡ (1, 0))
    × (line_and_share "cells=1 delays=1 share=5 depth=1000000" ≡ (1, 0))
    × (line_and_share "cells=1 delays=0 shape=5" ≡ (1, 0))
    × (line_and_share "cells=1 delays=0 share=5 " ≡ (1, 0))
unfolding parse counts_of range_counts counts_ok depths_at tail_at key_at many_at form_at val_at byte_at num_at num_start num_go hex_at hex_go
malformed_shares = (refl, refl, refl, refl, refl, refl, refl, refl, refl)

pub share_texts : (card_text (said 5) soil ≡ bytes "cells=1 delays=0 share=5\ntop=10000000 etdepth=1500000 vadpor=200 leak=100000 cn=80\n")
    × (card_text (said 20) soil ≡ bytes "cells=1 delays=0\ntop=10000000 etdepth=1500000 vadpor=200 leak=100000 cn=80\n")
unfolding soil card_text card_parts tail_text key_text form_text rows_text val_text dec dec_f
share_texts = (refl, refl)

-- the first reading
pub first_reading : List ℕ
first_reading = bytes "cell=0 life=0 count=0 rain=50800 irrig=0 septic=1000 etmin=2000 pet=5000 amc=2 head=410c0000\n"

pub reading_read : (read_reading first_reading).reading
    ≡ record { cell = 0; life = 0; count = 0; rain = 50800; irrig = 0; septic = 1000; etmin = 2000; pet = 5000; amc = 2; head = (carried_of 0x410c0000).value; nan = (carried_of 0x410c0000).nan }
unfolding first_reading read_reading form_at val_at byte_at num_at num_start num_go hex_at hex_go
reading_read = refl

-- a leading zero, a minus before 0, and a number of 33 bits are malformed; a NaN's pattern is not
abbrev number_of_lem : String → ℕ
number_of_lem t = (read_reading (bytes t)).number

pub malformed_readings : (number_of_lem "cell=0 life=00 count=0 rain=50800 irrig=0 septic=1000 etmin=2000 pet=5000 amc=2 head=410c0000\n" ≡ 12)
    × (number_of_lem "cell=-0 life=0 count=0 rain=50800 irrig=0 septic=1000 etmin=2000 pet=5000 amc=2 head=410c0000\n" ≡ 12)
    × (number_of_lem "cell=0 life=0 count=0 rain=4294967296 irrig=0 septic=1000 etmin=2000 pet=5000 amc=2 head=410c0000\n" ≡ 12)
    × (number_of_lem "cell=0 life=0 count=0 rain=50800 irrig=0 septic=1000 etmin=2000 pet=5000 amc=2 head=410C0000\n" ≡ 12)
    × (number_of_lem "cell=0 life=0 count=0 rain=4294967295 irrig=0 septic=1000 etmin=2000 pet=5000 amc=2 head=7fc00001\n" ≡ 0)
unfolding read_reading form_at val_at byte_at num_at num_start num_go hex_at hex_go
malformed_readings = (refl, refl, refl, refl, refl)

-- [3] a void, there and back, and texts that are none; a line with figures is neither a void nor a reading
pub void_cases : (void_text (record { cell = 7; life = 0; count = 999999 }) ≡ bytes "void cell=7 life=0 count=999999\n")
    × (read_void (bytes "void cell=7 life=0 count=999999\nvoid\n") ≡ record { number = 0; taken = 32; line = 0; notice = record { cell = 7; life = 0; count = 999999 } })
    × (read_void (bytes "void cell=7 life=00 count=9\n") ≡ record { number = 12; taken = 0; line = 1; notice = record { cell = 0; life = 0; count = 0 } })
    × ((read_void (bytes "void cell=7 life=0 count=9")).number ≡ 12)
    × ((read_entry (bytes "void cell=0 life=0 count=0 rain=50800 irrig=0 septic=1000 etmin=2000 pet=5000 amc=2 head=410c0000\n")).number ≡ 12)
    × ((read_entry (bytes "cell=0 life=0 count=0\n")).number ≡ 12)
unfolding void_text read_void read_entry read_reading form_text val_text dec dec_f form_at val_at byte_at num_at num_start num_go hex_at hex_go
void_cases = (refl, refl, refl, refl, refl, refl)

-- what the program prints for them: three answers and the sheet; and a negative recharge
pub printed : (answer_text 0 (Ok (record { inflow = water 51800; runoff = water 14287; etvad = water 2000; etstor = water 0; etsat = water 500; drain = water 0; release = water 0; stored = water 34513; recharge = net (pos 500); left = water 34513 }))
    ≡ bytes "cell=0 code=0 inflow=51800 runoff=14287 etvad=2000 etstor=0 etsat=500 drain=0 release=0 stored=34513 recharge=500 left=34513\n")
    × (answer_text 0 (Ok (record { inflow = water 0; runoff = water 0; etvad = water 0; etstor = water 0; etsat = water 833; drain = water 0; release = water 34513; stored = water 0; recharge = net (pos 33680); left = water 0 }))
    ≡ bytes "cell=0 code=0 inflow=0 runoff=0 etvad=0 etstor=0 etsat=833 drain=0 release=34513 stored=0 recharge=33680 left=0\n")
    × (answer_text 0 (Err Old) ≡ bytes "cell=0 code=6 inflow=0 runoff=0 etvad=0 etstor=0 etsat=0 drain=0 release=0 stored=0 recharge=0 left=0\n")
    × (sheet_text (record { steps = 2; inflow = water 51800; runoff = water 14287; etvad = water 2000; etstor = water 0; etsat = water 1333; drain = water 0; release = water 34513; stored = water 34513; recharge = net (pos 34180) })
    ≡ bytes "steps=2 inflow=51800 runoff=14287 etvad=2000 etstor=0 etsat=1333 drain=0 release=34513 stored=34513 recharge=34180\n")
    × (sheet_text (record { steps = 1; inflow = water 1000; runoff = water 0; etvad = water 0; etstor = water 0; etsat = water 5000; drain = water 50000; release = water 0; stored = water 0; recharge = net (negsuc 53999) })
    ≡ bytes "steps=1 inflow=1000 runoff=0 etvad=0 etstor=0 etsat=5000 drain=50000 release=0 stored=0 recharge=-54000\n")
unfolding answer_text line_text sheet_text form_text val_text dec dec_f hex
printed = (refl, refl, refl, refl, refl)
