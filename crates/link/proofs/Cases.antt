-- [4] A worked run of the link, computed over the definitions: readings and a void are heard, and the outbox learns it. Assumes nothing.
use Rattle.std.specs.Prelude.{◌≡◌, refl, Bool, ◌&&◌, List, [], ◌∷◌, ℕ, eqb, ℤ, pos, replicate}
use Rattle.std.proofs.Common.{inl, inr}
use Rattle.std.specs.Float.Ieee.{is_nan, nan_bits, of_bits, to_bits}
use Rattle.head.specs.Level.{floor_div, usable, floor_um, level_um}
use Rattle.head.specs.Class.{class_of}
use Rattle.head.specs.Pattern.{carried_of, pattern_of}
use Rattle.cell.specs.declared.Card.{Card}
use Rattle.cell.specs.declared.Entry.{Entry}
use Rattle.cell.specs.Depth.{sided, depth_of, distance}
use Rattle.cell.specs.Queue.{slot, total, shifted, taken, spared, joined}
use Rattle.cell.specs.Sums.{sum_of, with_sum, added}
use Rattle.cell.specs.Ranges.{counts_ok, none_of, rising_from, depths_ok, share_ok, card_ok, within, soil_ok, soil_of, life_of, next_of, slots_of, queue_of, slots_ok, row_width, form_ok, row_ok, notice_ok, fields_ok, cell_of}
use Rattle.cell.specs.Refusals.{is_old, is_gap, sounded, unless, fields_verdict, verdict_of}
use Rattle.cell.specs.Rules.{curve_of, storm_of, reach_of, delay_of, shallow_of, runoff_of, lack_of, fading_of, etsat_of, drain_of, stored_of, direct_of, recharge_of}
use Rattle.cell.specs.Step.{given, release, curve, storm, delay, runoff, etvad, lack, draws, etstor, etsat, drain, sunk, stored, direct, recharge, queue_after, step_amounts, shift_amounts, amounts_by, queue_by, row_moved, runoff_by, drain_by, row_after, sums_take, judged, final_of, answer_of, new_row}
use Rattle.site.specs.Rows.{part_at, put_at}
use Rattle.site.specs.Site.{soil_fits, rows_fit, cell_fits, refuse, site_answer, rows_by, site_rows}
use Rattle.site.proofs.SiteLaws.{gives}
use Rattle.account.specs.Run.{Call}
use Rattle.outbox.specs.Outbox as box
use Rattle.outbox.specs.Outbox.{void_of}
use Rattle.link.specs.Run.{Gateway, Moment, Run, entries_in, first, making, voiding, sending, hearing, answering, learning, swapping, starts, makes, puts_void, sends, hears, answers, learns, swaps}
use Rattle.link.specs.Site.{accepts, Given, site_gateway}

-- ---- document 01's site of one plot
unfoldable pub card : Card
card = record { cells = 1; delays = 2; depths = 1000000 ∷ 2000000 ∷ replicate 28 0; share = 20 }

unfoldable pub soil : List ℤ
soil = pos 10000000 ∷ pos 1500000 ∷ pos 200 ∷ pos 100000 ∷ pos 80 ∷ []

abbrev pub G : Gateway
G = site_gateway card 0

-- a day's reading, the water table at 8.75 m
abbrev pub day : ℕ → ℕ → ℕ → Entry
day life count rain =
    Entry.Reading (record { cell = 0; life = life; count = count; rain = rain; irrig = 0; septic = 0; etmin = 2000; pet = 5000; amc = 2; head = (carried_of 0x410c0000).value; nan = (carried_of 0x410c0000).nan })

-- what `site::step` does with an entry
abbrev pub step : Entry → Call
step e = record { soil = soil; entry = e }

unfoldable pub takes : List ℕ → Entry → Bool
takes rows e = eqb (cell_of e) 0 && accepts (site_answer card soil rows e)

abbrev pub then : List ℕ → Entry → List ℕ
then rows e = site_rows card soil rows e

abbrev pub hear : Moment G → Entry → Moment G
hear s e = hearing 0 G s (step e) (takes s.row e) (then s.row e)

given_it : (rows : List ℕ) (e : Entry) → Given card 0 rows (step e) (takes rows e) (then rows e)
unfolding takes
given_it rows e = record { answer = site_answer card soil rows e; gives = gives card soil rows e refl refl; taken_is = refl }

unfoldable pub cleared : List ℕ
cleared = replicate (row_width card) 0

-- ---- the events
-- two readings are made, the second of a gauge that froze; the first is sent, heard, and heard again
abbrev pub sent : Moment G
sent = sending 0 G (making 0 G (making 0 G (first 0 G cleared) (day 0 0 50800)) (day 0 1 1000001)) (day 0 0 50800)

abbrev pub repeated : Moment G
repeated = hear (hear sent (day 0 0 50800)) (day 0 0 50800)

-- the row's life and next count reach the node
abbrev pub told : Moment G
told = learning 0 G (answering 0 G repeated) (record { life = 0; next = 1; heard = day 0 0 50800 ∷ [] })

-- the second is refused; a void takes its place and is heard. A third is made, and the void's acknowledgement reaches the node
abbrev pub replaced : Moment G
replaced = voiding 0 G (hear (sending 0 G told (day 0 1 1000001)) (day 0 1 1000001))

abbrev pub voided : Moment G
voided = making 0 G (hear (sending 0 G replaced (void_of (day 0 1 1000001))) (void_of (day 0 1 1000001))) (day 0 2 0)

abbrev pub learnt : Moment G
learnt = learning 0 G (answering 0 G voided) (record { life = 0; next = 2; heard = day 0 0 50800 ∷ void_of (day 0 1 1000001) ∷ [] })

-- a swap empties the outbox. Of the new life two readings are made, sent and heard, and one acknowledgement tells of both
abbrev pub swapped : Moment G
swapped = making 0 G (making 0 G (swapping 0 G learnt 1) (day 1 0 0)) (day 1 1 700)

abbrev pub both : Moment G
both = hear (hear (sending 0 G (sending 0 G swapped (day 1 0 0)) (day 1 1 700)) (day 1 0 0)) (day 1 1 700)

abbrev pub ended : Moment G
ended = learning 0 G (answering 0 G both) (record { life = 1; next = 2; heard = day 0 0 50800 ∷ void_of (day 0 1 1000001) ∷ day 1 0 0 ∷ day 1 1 700 ∷ [] })

-- ---- each event is one that may happen
runs_repeated : Run 0 G repeated
unfolding card soil cleared takes floor_div usable floor_um level_um class_of carried_of pattern_of is_nan nan_bits of_bits to_bits sided depth_of distance slot total shifted taken spared joined sum_of with_sum added counts_ok none_of rising_from depths_ok share_ok card_ok within soil_ok soil_of life_of next_of slots_of queue_of slots_ok form_ok row_ok notice_ok fields_ok is_old is_gap sounded unless fields_verdict verdict_of curve_of storm_of reach_of delay_of shallow_of runoff_of lack_of fading_of etsat_of drain_of stored_of direct_of recharge_of given release curve storm delay runoff etvad lack draws etstor etsat drain sunk stored direct recharge queue_after step_amounts shift_amounts amounts_by queue_by row_moved runoff_by drain_by row_after sums_take judged final_of answer_of new_row part_at put_at soil_fits rows_fit cell_fits refuse site_answer rows_by site_rows box.same box.is_zero box.padded box.held_of box.box_of box.numbers_ok box.in_turn box.all_spare box.form_ok box.unless box.fresh_of box.oldest box.offer_of box.is_next box.with_entry box.added_of box.replacing box.replaced_of box.is_heard box.without box.acknowledged_of box.is_higher box.swapped_of
runs_repeated =
    let s : Run 0 G sent = sends (makes (makes (starts cleared refl refl refl) (day 0 0 50800)) (day 0 1 1000001)) (day 0 0 50800) (inl refl) in
    hears (hears s (step (day 0 0 50800)) _ _ (given_it _ (day 0 0 50800)) (inl (inl refl))) (step (day 0 0 50800)) _ _ (given_it _ (day 0 0 50800)) (inl (inl refl))

runs_told : Run 0 G told
unfolding card soil cleared takes floor_div usable floor_um level_um class_of carried_of pattern_of is_nan nan_bits of_bits to_bits sided depth_of distance slot total shifted taken spared joined sum_of with_sum added counts_ok none_of rising_from depths_ok share_ok card_ok within soil_ok soil_of life_of next_of slots_of queue_of slots_ok form_ok row_ok notice_ok fields_ok is_old is_gap sounded unless fields_verdict verdict_of curve_of storm_of reach_of delay_of shallow_of runoff_of lack_of fading_of etsat_of drain_of stored_of direct_of recharge_of given release curve storm delay runoff etvad lack draws etstor etsat drain sunk stored direct recharge queue_after step_amounts shift_amounts amounts_by queue_by row_moved runoff_by drain_by row_after sums_take judged final_of answer_of new_row part_at put_at soil_fits rows_fit cell_fits refuse site_answer rows_by site_rows box.same box.is_zero box.padded box.held_of box.box_of box.numbers_ok box.in_turn box.all_spare box.form_ok box.unless box.fresh_of box.oldest box.offer_of box.is_next box.with_entry box.added_of box.replacing box.replaced_of box.is_heard box.without box.acknowledged_of box.is_higher box.swapped_of
runs_told = learns (answers runs_repeated) (record { life = 0; next = 1; heard = day 0 0 50800 ∷ [] }) (inl refl)

runs_voided : Run 0 G voided
unfolding card soil cleared takes floor_div usable floor_um level_um class_of carried_of pattern_of is_nan nan_bits of_bits to_bits sided depth_of distance slot total shifted taken spared joined sum_of with_sum added counts_ok none_of rising_from depths_ok share_ok card_ok within soil_ok soil_of life_of next_of slots_of queue_of slots_ok form_ok row_ok notice_ok fields_ok is_old is_gap sounded unless fields_verdict verdict_of curve_of storm_of reach_of delay_of shallow_of runoff_of lack_of fading_of etsat_of drain_of stored_of direct_of recharge_of given release curve storm delay runoff etvad lack draws etstor etsat drain sunk stored direct recharge queue_after step_amounts shift_amounts amounts_by queue_by row_moved runoff_by drain_by row_after sums_take judged final_of answer_of new_row part_at put_at soil_fits rows_fit cell_fits refuse site_answer rows_by site_rows box.same box.is_zero box.padded box.held_of box.box_of box.numbers_ok box.in_turn box.all_spare box.form_ok box.unless box.fresh_of box.oldest box.offer_of box.is_next box.with_entry box.added_of box.replacing box.replaced_of box.is_heard box.without box.acknowledged_of box.is_higher box.swapped_of
runs_voided =
    let s : Run 0 G replaced = puts_void (hears (sends runs_told (day 0 1 1000001) (inl refl)) (step (day 0 1 1000001)) _ _ (given_it _ (day 0 1 1000001)) (inl (inr (inl refl)))) in
    makes (hears (sends s (void_of (day 0 1 1000001)) (inl refl)) (step (void_of (day 0 1 1000001))) _ _ (given_it _ (void_of (day 0 1 1000001))) (inl (inr (inr (inl refl))))) (day 0 2 0)

runs_learnt : Run 0 G learnt
unfolding card soil cleared takes floor_div usable floor_um level_um class_of carried_of pattern_of is_nan nan_bits of_bits to_bits sided depth_of distance slot total shifted taken spared joined sum_of with_sum added counts_ok none_of rising_from depths_ok share_ok card_ok within soil_ok soil_of life_of next_of slots_of queue_of slots_ok form_ok row_ok notice_ok fields_ok is_old is_gap sounded unless fields_verdict verdict_of curve_of storm_of reach_of delay_of shallow_of runoff_of lack_of fading_of etsat_of drain_of stored_of direct_of recharge_of given release curve storm delay runoff etvad lack draws etstor etsat drain sunk stored direct recharge queue_after step_amounts shift_amounts amounts_by queue_by row_moved runoff_by drain_by row_after sums_take judged final_of answer_of new_row part_at put_at soil_fits rows_fit cell_fits refuse site_answer rows_by site_rows box.same box.is_zero box.padded box.held_of box.box_of box.numbers_ok box.in_turn box.all_spare box.form_ok box.unless box.fresh_of box.oldest box.offer_of box.is_next box.with_entry box.added_of box.replacing box.replaced_of box.is_heard box.without box.acknowledged_of box.is_higher box.swapped_of
runs_learnt = learns (answers runs_voided) (record { life = 0; next = 2; heard = day 0 0 50800 ∷ void_of (day 0 1 1000001) ∷ [] }) (inr (inl refl))

runs_both : Run 0 G both
unfolding card soil cleared takes floor_div usable floor_um level_um class_of carried_of pattern_of is_nan nan_bits of_bits to_bits sided depth_of distance slot total shifted taken spared joined sum_of with_sum added counts_ok none_of rising_from depths_ok share_ok card_ok within soil_ok soil_of life_of next_of slots_of queue_of slots_ok form_ok row_ok notice_ok fields_ok is_old is_gap sounded unless fields_verdict verdict_of curve_of storm_of reach_of delay_of shallow_of runoff_of lack_of fading_of etsat_of drain_of stored_of direct_of recharge_of given release curve storm delay runoff etvad lack draws etstor etsat drain sunk stored direct recharge queue_after step_amounts shift_amounts amounts_by queue_by row_moved runoff_by drain_by row_after sums_take judged final_of answer_of new_row part_at put_at soil_fits rows_fit cell_fits refuse site_answer rows_by site_rows box.same box.is_zero box.padded box.held_of box.box_of box.numbers_ok box.in_turn box.all_spare box.form_ok box.unless box.fresh_of box.oldest box.offer_of box.is_next box.with_entry box.added_of box.replacing box.replaced_of box.is_heard box.without box.acknowledged_of box.is_higher box.swapped_of
runs_both =
    let s : Run 0 G (sending 0 G (sending 0 G swapped (day 1 0 0)) (day 1 1 700)) = sends (sends (makes (makes (swaps runs_learnt 1) (day 1 0 0)) (day 1 1 700)) (day 1 0 0) (inl refl)) (day 1 1 700) (inr (inl refl)) in
    hears (hears s (step (day 1 0 0)) _ _ (given_it _ (day 1 0 0)) (inl (inr (inr (inr (inl refl)))))) (step (day 1 1 700)) _ _ (given_it _ (day 1 1 700)) (inl (inr (inr (inr (inr (inl refl))))))

pub worked : Run 0 G ended
unfolding card soil cleared takes floor_div usable floor_um level_um class_of carried_of pattern_of is_nan nan_bits of_bits to_bits sided depth_of distance slot total shifted taken spared joined sum_of with_sum added counts_ok none_of rising_from depths_ok share_ok card_ok within soil_ok soil_of life_of next_of slots_of queue_of slots_ok form_ok row_ok notice_ok fields_ok is_old is_gap sounded unless fields_verdict verdict_of curve_of storm_of reach_of delay_of shallow_of runoff_of lack_of fading_of etsat_of drain_of stored_of direct_of recharge_of given release curve storm delay runoff etvad lack draws etstor etsat drain sunk stored direct recharge queue_after step_amounts shift_amounts amounts_by queue_by row_moved runoff_by drain_by row_after sums_take judged final_of answer_of new_row part_at put_at soil_fits rows_fit cell_fits refuse site_answer rows_by site_rows box.same box.is_zero box.padded box.held_of box.box_of box.numbers_ok box.in_turn box.all_spare box.form_ok box.unless box.fresh_of box.oldest box.offer_of box.is_next box.with_entry box.added_of box.replacing box.replaced_of box.is_heard box.without box.acknowledged_of box.is_higher box.swapped_of
worked = learns (answers runs_both) (record { life = 1; next = 2; heard = day 0 0 50800 ∷ void_of (day 0 1 1000001) ∷ day 1 0 0 ∷ day 1 1 700 ∷ [] }) (inr (inr (inl refl)))

-- ---- what it comes to: the repeat and the frozen gauge's reading are not accepted, their counts are, and only what the gateway had heard left the outbox
pub comes_to : (repeated.accepted ≡ day 0 0 50800 ∷ [])
    × (entries_in repeated.box ≡ day 0 0 50800 ∷ day 0 1 1000001 ∷ [])
    × (entries_in told.box ≡ day 0 1 1000001 ∷ [])
    × (voided.accepted ≡ day 0 0 50800 ∷ void_of (day 0 1 1000001) ∷ [])
    × (entries_in voided.box ≡ void_of (day 0 1 1000001) ∷ day 0 2 0 ∷ [])
    × (entries_in learnt.box ≡ day 0 2 0 ∷ [])
    × (ended.emptied ≡ day 0 2 0 ∷ [])
    × (ended.accepted ≡ day 0 0 50800 ∷ void_of (day 0 1 1000001) ∷ day 1 0 0 ∷ day 1 1 700 ∷ [])
    × (entries_in both.box ≡ day 1 0 0 ∷ day 1 1 700 ∷ [])
    × (entries_in ended.box ≡ [])
unfolding card soil cleared takes floor_div usable floor_um level_um class_of carried_of pattern_of is_nan nan_bits of_bits to_bits sided depth_of distance slot total shifted taken spared joined sum_of with_sum added counts_ok none_of rising_from depths_ok share_ok card_ok within soil_ok soil_of life_of next_of slots_of queue_of slots_ok form_ok row_ok notice_ok fields_ok is_old is_gap sounded unless fields_verdict verdict_of curve_of storm_of reach_of delay_of shallow_of runoff_of lack_of fading_of etsat_of drain_of stored_of direct_of recharge_of given release curve storm delay runoff etvad lack draws etstor etsat drain sunk stored direct recharge queue_after step_amounts shift_amounts amounts_by queue_by row_moved runoff_by drain_by row_after sums_take judged final_of answer_of new_row part_at put_at soil_fits rows_fit cell_fits refuse site_answer rows_by site_rows box.same box.is_zero box.padded box.held_of box.box_of box.numbers_ok box.in_turn box.all_spare box.form_ok box.unless box.fresh_of box.oldest box.offer_of box.is_next box.with_entry box.added_of box.replacing box.replaced_of box.is_heard box.without box.acknowledged_of box.is_higher box.swapped_of
comes_to = (refl, refl, refl, refl, refl, refl, refl, refl, refl, refl)
