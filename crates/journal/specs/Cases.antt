-- Document 01's example, the whole of it, and journals at the edges, computed over the definitions. Assumes nothing.
use Rattle.std.specs.Prelude.{◌≡◌, refl}
use Rattle.std.specs.Float.Ieee.{of_bits, to_bits}
use Rattle.head.specs.Level.{floor_div, usable, floor_um, level_um}
use Rattle.head.specs.Class.{class_of}
use Rattle.head.specs.Pattern.{carried_of}
use Rattle.form.specs.Bytes.{bytes}
use Rattle.form.specs.Dec.{dec, dec_f, num_at, num_start, num_go}
use Rattle.form.specs.Hex.{hex_at, hex_go}
use Rattle.form.specs.Form.{byte_at, val_at, val_text, form_at, form_text}
use Rattle.form.specs.Many.{many_at}
use Rattle.form.specs.Keys.{key_at}
use Rattle.cell.specs.Depth.{sided, depth_of, distance}
use Rattle.cell.specs.Queue.{slot, total, shifted, taken, spared, joined}
use Rattle.cell.specs.Sums.{sum_of, with_sum, added}
use Rattle.cell.specs.Ranges.{counts_ok, none_of, rising_from, depths_ok, share_ok, card_ok, within, soil_ok, soil_of, life_of, next_of, slots_of, queue_of, slots_ok, form_ok, row_ok, notice_ok, fields_ok}
use Rattle.cell.specs.Refusals.{is_old, is_gap, sounded, unless, fields_verdict, verdict_of}
use Rattle.cell.specs.Rules.{curve_of, storm_of, reach_of, delay_of, shallow_of, runoff_of, lack_of, fading_of, etsat_of, drain_of, stored_of, direct_of, recharge_of}
use Rattle.cell.specs.Step.{given, release, curve, storm, delay, runoff, etvad, lack, draws, etstor, etsat, drain, sunk, stored, direct, recharge, queue_after, step_amounts, shift_amounts, amounts_by, queue_by, row_moved, runoff_by, drain_by, row_after, sums_take, judged, final_of, answer_of, new_row}
use Rattle.site.specs.Rows.{part_at, put_at}
use Rattle.site.specs.Sheet.{amounts_fit, sums_within, addable, plus_of, sheet_by, added_of}
use Rattle.site.specs.Site.{soil_fits, rows_fit, cell_fits, refuse, site_answer, rows_by, site_rows, clear_number, clear_rows}
use Rattle.text.specs.Readings.{read_reading}
use Rattle.text.specs.Voids.{read_void, read_entry}
use Rattle.text.specs.Cards.{parse, counts_of, range_counts, tail_at, depths_at}
use Rattle.text.specs.Printed.{answer_text, line_text, sheet_text}
use Rattle.journal.specs.Entries.{entries_in, answered_of}
use Rattle.journal.specs.Book.{code_text, malformed_text, entries_text, cleared_text, book_of}

pub example : book_of (bytes "cells=1 delays=2 depth=1000000 depth=2000000\ntop=10000000 etdepth=1500000 vadpor=200 leak=100000 cn=80\ncell=0 life=0 count=0 rain=50800 irrig=0 septic=1000 etmin=2000 pet=5000 amc=2 head=410c0000\ncell=0 life=0 count=1 rain=0 irrig=0 septic=0 etmin=2000 pet=5000 amc=2 head=410c0000\ncell=0 life=0 count=1 rain=0 irrig=0 septic=0 etmin=2000 pet=5000 amc=2 head=410c0000\n")
    ≡ bytes "cell=0 code=0 inflow=51800 runoff=14287 etvad=2000 etstor=0 etsat=500 drain=0 release=0 stored=34513 recharge=500 left=34513\ncell=0 code=0 inflow=0 runoff=0 etvad=0 etstor=0 etsat=833 drain=0 release=34513 stored=0 recharge=33680 left=0\ncell=0 code=6 inflow=0 runoff=0 etvad=0 etstor=0 etsat=0 drain=0 release=0 stored=0 recharge=0 left=0\nsteps=2 inflow=51800 runoff=14287 etvad=2000 etstor=0 etsat=1333 drain=0 release=34513 stored=34513 recharge=34180\n"
unfolding floor_div usable floor_um level_um class_of carried_of of_bits to_bits dec dec_f num_at num_start num_go hex_at hex_go byte_at val_at val_text form_at form_text many_at sided depth_of distance slot total shifted taken spared joined sum_of with_sum added counts_ok none_of rising_from depths_ok share_ok card_ok within soil_ok soil_of life_of next_of slots_of queue_of slots_ok form_ok row_ok notice_ok fields_ok is_old is_gap sounded unless fields_verdict verdict_of curve_of storm_of reach_of delay_of shallow_of runoff_of lack_of fading_of etsat_of drain_of stored_of direct_of recharge_of given release curve storm delay runoff etvad lack draws etstor etsat drain sunk stored direct recharge queue_after step_amounts shift_amounts amounts_by queue_by row_moved runoff_by drain_by row_after sums_take judged final_of answer_of new_row part_at put_at amounts_fit sums_within addable plus_of sheet_by added_of soil_fits rows_fit cell_fits refuse site_answer rows_by site_rows clear_number clear_rows read_reading read_void read_entry parse counts_of range_counts tail_at key_at depths_at answer_text line_text sheet_text code_text malformed_text entries_in answered_of entries_text cleared_text book_of
example = refl

-- [3] a gauge froze: its reading is refused with 8, the next is a gap, until a void has used up the count; a repeat of the void is old, and none is taken for a cell or a life that is not there
pub voids : book_of (bytes "cells=1 delays=2 depth=1000000 depth=2000000\ntop=10000000 etdepth=1500000 vadpor=200 leak=100000 cn=80\ncell=0 life=0 count=0 rain=50800 irrig=0 septic=1000 etmin=2000 pet=5000 amc=2 head=410c0000\ncell=0 life=0 count=1 rain=1000001 irrig=0 septic=0 etmin=2000 pet=5000 amc=2 head=410c0000\ncell=0 life=0 count=2 rain=0 irrig=0 septic=0 etmin=2000 pet=5000 amc=2 head=410c0000\nvoid cell=0 life=0 count=1\nvoid cell=0 life=0 count=1\ncell=0 life=0 count=2 rain=0 irrig=0 septic=0 etmin=2000 pet=5000 amc=2 head=410c0000\nvoid cell=1 life=0 count=0\nvoid cell=0 life=65536 count=0\n")
    ≡ bytes "cell=0 code=0 inflow=51800 runoff=14287 etvad=2000 etstor=0 etsat=500 drain=0 release=0 stored=34513 recharge=500 left=34513\ncell=0 code=8 inflow=0 runoff=0 etvad=0 etstor=0 etsat=0 drain=0 release=0 stored=0 recharge=0 left=0\ncell=0 code=7 inflow=0 runoff=0 etvad=0 etstor=0 etsat=0 drain=0 release=0 stored=0 recharge=0 left=0\ncell=0 code=0 inflow=0 runoff=0 etvad=0 etstor=0 etsat=0 drain=0 release=34513 stored=0 recharge=34513 left=0\ncell=0 code=6 inflow=0 runoff=0 etvad=0 etstor=0 etsat=0 drain=0 release=0 stored=0 recharge=0 left=0\ncell=0 code=0 inflow=0 runoff=0 etvad=0 etstor=0 etsat=833 drain=0 release=0 stored=0 recharge=-833 left=0\ncell=1 code=3 inflow=0 runoff=0 etvad=0 etstor=0 etsat=0 drain=0 release=0 stored=0 recharge=0 left=0\ncell=0 code=8 inflow=0 runoff=0 etvad=0 etstor=0 etsat=0 drain=0 release=0 stored=0 recharge=0 left=0\nsteps=3 inflow=51800 runoff=14287 etvad=2000 etstor=0 etsat=1333 drain=0 release=34513 stored=34513 recharge=34180\n"
unfolding floor_div usable floor_um level_um class_of carried_of of_bits to_bits dec dec_f num_at num_start num_go hex_at hex_go byte_at val_at val_text form_at form_text many_at sided depth_of distance slot total shifted taken spared joined sum_of with_sum added counts_ok none_of rising_from depths_ok share_ok card_ok within soil_ok soil_of life_of next_of slots_of queue_of slots_ok form_ok row_ok notice_ok fields_ok is_old is_gap sounded unless fields_verdict verdict_of curve_of storm_of reach_of delay_of shallow_of runoff_of lack_of fading_of etsat_of drain_of stored_of direct_of recharge_of given release curve storm delay runoff etvad lack draws etstor etsat drain sunk stored direct recharge queue_after step_amounts shift_amounts amounts_by queue_by row_moved runoff_by drain_by row_after sums_take judged final_of answer_of new_row part_at put_at amounts_fit sums_within addable plus_of sheet_by added_of soil_fits rows_fit cell_fits refuse site_answer rows_by site_rows clear_number clear_rows read_reading read_void read_entry parse counts_of range_counts tail_at key_at depths_at answer_text line_text sheet_text code_text malformed_text entries_in answered_of entries_text cleared_text book_of
voids = refl

-- [5] the first reading under a share of 5; a share that clearing refuses; 20 said
pub shares : (book_of (bytes "cells=1 delays=2 depth=1000000 depth=2000000 share=5\ntop=10000000 etdepth=1500000 vadpor=200 leak=100000 cn=80\ncell=0 life=0 count=0 rain=50800 irrig=0 septic=1000 etmin=2000 pet=5000 amc=2 head=410c0000\n")
    ≡ bytes "cell=0 code=0 inflow=51800 runoff=20410 etvad=2000 etstor=0 etsat=500 drain=0 release=0 stored=28390 recharge=500 left=28390\nsteps=1 inflow=51800 runoff=20410 etvad=2000 etstor=0 etsat=500 drain=0 release=0 stored=28390 recharge=500\n")
    × (book_of (bytes "cells=1 delays=0 share=4\ntop=10000000 etdepth=1500000 vadpor=200 leak=100000 cn=80\n") ≡ bytes "code=1\n")
    × (book_of (bytes "cells=1 delays=0 share=20\ntop=10000000 etdepth=1500000 vadpor=200 leak=100000 cn=80\n") ≡ bytes "code=12 line=1\n")
unfolding floor_div usable floor_um level_um class_of carried_of of_bits to_bits dec dec_f num_at num_start num_go hex_at hex_go byte_at val_at val_text form_at form_text many_at sided depth_of distance slot total shifted taken spared joined sum_of with_sum added counts_ok none_of rising_from depths_ok share_ok card_ok within soil_ok soil_of life_of next_of slots_of queue_of slots_ok form_ok row_ok notice_ok fields_ok is_old is_gap sounded unless fields_verdict verdict_of curve_of storm_of reach_of delay_of shallow_of runoff_of lack_of fading_of etsat_of drain_of stored_of direct_of recharge_of given release curve storm delay runoff etvad lack draws etstor etsat drain sunk stored direct recharge queue_after step_amounts shift_amounts amounts_by queue_by row_moved runoff_by drain_by row_after sums_take judged final_of answer_of new_row part_at put_at amounts_fit sums_within addable plus_of sheet_by added_of soil_fits rows_fit cell_fits refuse site_answer rows_by site_rows clear_number clear_rows read_reading read_void read_entry parse counts_of range_counts tail_at key_at depths_at answer_text line_text sheet_text code_text malformed_text entries_in answered_of entries_text cleared_text book_of
shares = (refl, refl, refl)

-- [7] a jammed bucket: its reading is refused with 17, the next is a gap, until the day as it was has used up the count
pub jammed : book_of (bytes "cells=2 delays=2 depth=1000000 depth=2000000\ntop=10000000 etdepth=1500000 vadpor=200 leak=100000 cn=80\ntop=0 etdepth=1500000 vadpor=200 leak=100000 cn=80\ncell=0 life=0 count=0 rain=50800 irrig=0 septic=0 etmin=2000 pet=5000 amc=2 head=40c00000\ncell=0 life=0 count=1 rain=940000 irrig=0 septic=0 etmin=2000 pet=5000 amc=2 head=40c00000\ncell=0 life=0 count=2 rain=0 irrig=0 septic=0 etmin=2000 pet=5000 amc=2 head=40c00000\ncell=0 life=0 count=1 rain=9400 irrig=0 septic=0 etmin=2000 pet=5000 amc=2 head=40c00000\ncell=0 life=0 count=2 rain=0 irrig=0 septic=0 etmin=2000 pet=5000 amc=2 head=40c00000\n")
    ≡ bytes "cell=0 code=0 inflow=50800 runoff=14287 etvad=2000 etstor=0 etsat=0 drain=0 release=0 stored=34513 recharge=0 left=34513\ncell=0 code=17 inflow=0 runoff=0 etvad=0 etstor=0 etsat=0 drain=0 release=0 stored=0 recharge=0 left=0\ncell=0 code=7 inflow=0 runoff=0 etvad=0 etstor=0 etsat=0 drain=0 release=0 stored=0 recharge=0 left=0\ncell=0 code=0 inflow=9400 runoff=0 etvad=2000 etstor=0 etsat=0 drain=0 release=0 stored=7400 recharge=0 left=41913\ncell=0 code=0 inflow=0 runoff=0 etvad=0 etstor=2000 etsat=0 drain=0 release=34513 stored=0 recharge=34513 left=5400\nsteps=3 inflow=60200 runoff=14287 etvad=4000 etstor=2000 etsat=0 drain=0 release=34513 stored=41913 recharge=34513\n"
unfolding floor_div usable floor_um level_um class_of carried_of of_bits to_bits dec dec_f num_at num_start num_go hex_at hex_go byte_at val_at val_text form_at form_text many_at sided depth_of distance slot total shifted taken spared joined sum_of with_sum added counts_ok none_of rising_from depths_ok share_ok card_ok within soil_ok soil_of life_of next_of slots_of queue_of slots_ok form_ok row_ok notice_ok fields_ok is_old is_gap sounded unless fields_verdict verdict_of curve_of storm_of reach_of delay_of shallow_of runoff_of lack_of fading_of etsat_of drain_of stored_of direct_of recharge_of given release curve storm delay runoff etvad lack draws etstor etsat drain sunk stored direct recharge queue_after step_amounts shift_amounts amounts_by queue_by row_moved runoff_by drain_by row_after sums_take judged final_of answer_of new_row part_at put_at amounts_fit sums_within addable plus_of sheet_by added_of soil_fits rows_fit cell_fits refuse site_answer rows_by site_rows clear_number clear_rows read_reading read_void read_entry parse counts_of range_counts tail_at key_at depths_at answer_text line_text sheet_text code_text malformed_text entries_in answered_of entries_text cleared_text book_of
jammed = refl

-- a last line without its end: malformed at its place, and no sheet
pub cut : book_of (bytes "cells=1 delays=2 depth=1000000 depth=2000000\ntop=10000000 etdepth=1500000 vadpor=200 leak=100000 cn=80\ncell=0 life=0 count=0 rain=50800 irrig=0 septic=1000 etmin=2000 pet=5000 amc=2 head=410c0000\ncell=0 life=0 count=1 rain=0 irrig=0 septic=0 etmin=2000 pet=5000 amc=2 head=410c0000") ≡ bytes "cell=0 code=0 inflow=51800 runoff=14287 etvad=2000 etstor=0 etsat=500 drain=0 release=0 stored=34513 recharge=500 left=34513\ncode=12 line=4\n"
unfolding floor_div usable floor_um level_um class_of carried_of of_bits to_bits dec dec_f num_at num_start num_go hex_at hex_go byte_at val_at val_text form_at form_text many_at sided depth_of distance slot total shifted taken spared joined sum_of with_sum added counts_ok none_of rising_from depths_ok share_ok card_ok within soil_ok soil_of life_of next_of slots_of queue_of slots_ok form_ok row_ok notice_ok fields_ok is_old is_gap sounded unless fields_verdict verdict_of curve_of storm_of reach_of delay_of shallow_of runoff_of lack_of fading_of etsat_of drain_of stored_of direct_of recharge_of given release curve storm delay runoff etvad lack draws etstor etsat drain sunk stored direct recharge queue_after step_amounts shift_amounts amounts_by queue_by row_moved runoff_by drain_by row_after sums_take judged final_of answer_of new_row part_at put_at amounts_fit sums_within addable plus_of sheet_by added_of soil_fits rows_fit cell_fits refuse site_answer rows_by site_rows clear_number clear_rows read_reading read_void read_entry parse counts_of range_counts tail_at key_at depths_at answer_text line_text sheet_text code_text malformed_text entries_in answered_of entries_text cleared_text book_of
cut = refl

-- no card, a card that lacks its soil line, a card that clearing refuses, no reading
pub cards : (book_of (bytes "") ≡ bytes "code=12 line=1\n")
    × (book_of (bytes "cells=1 delays=0\n") ≡ bytes "code=12 line=2\n")
    × (book_of (bytes "cells=1 delays=2 depth=1000000 depth=1000000\ntop=10000000 etdepth=1500000 vadpor=200 leak=100000 cn=80\ncell=0 life=0 count=0 rain=50800 irrig=0 septic=1000 etmin=2000 pet=5000 amc=2 head=410c0000\n") ≡ bytes "code=1\n")
    × (book_of (bytes "cells=1 delays=2 depth=1000000 depth=2000000\ntop=10000000 etdepth=1500000 vadpor=200 leak=100000 cn=80\n") ≡ bytes "steps=0 inflow=0 runoff=0 etvad=0 etstor=0 etsat=0 drain=0 release=0 stored=0 recharge=0\n")
unfolding floor_div usable floor_um level_um class_of carried_of of_bits to_bits dec dec_f num_at num_start num_go hex_at hex_go byte_at val_at val_text form_at form_text many_at sided depth_of distance slot total shifted taken spared joined sum_of with_sum added counts_ok none_of rising_from depths_ok share_ok card_ok within soil_ok soil_of life_of next_of slots_of queue_of slots_ok form_ok row_ok notice_ok fields_ok is_old is_gap sounded unless fields_verdict verdict_of curve_of storm_of reach_of delay_of shallow_of runoff_of lack_of fading_of etsat_of drain_of stored_of direct_of recharge_of given release curve storm delay runoff etvad lack draws etstor etsat drain sunk stored direct recharge queue_after step_amounts shift_amounts amounts_by queue_by row_moved runoff_by drain_by row_after sums_take judged final_of answer_of new_row part_at put_at amounts_fit sums_within addable plus_of sheet_by added_of soil_fits rows_fit cell_fits refuse site_answer rows_by site_rows clear_number clear_rows read_reading read_void read_entry parse counts_of range_counts tail_at key_at depths_at answer_text line_text sheet_text code_text malformed_text entries_in answered_of entries_text cleared_text book_of
cards = (refl, refl, refl, refl)
