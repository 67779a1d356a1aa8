use Rattle.std.proofs.Common.{◌≡◌, true, false, sym, ap, ◌∙◌, arith, drop, get_or, [], length-set, drop_of_length-le}
use Rattle.std.specs.List.{list_all}
use Rattle.node.specs.Numbers.{is_entry, places_from, all_entries, box_from}
use Rattle.node.proofs.Turns.{was_entry, was_none, row_entry, row_none, row_read, rows_entries, rows_places, rows_end}
use Rattle.node.proofs.numbers.box_from.Goals as goal

pub returns-in_err-entry : goal.returns-in_err-entry
returns-in_err-entry c =
    let rows = c.as_chunks.result.0.now in
    let n = was_none (get_or rows c.loop-i.i []) (sym c.entry_from.ensures ∙ c.in_err-entry.was) in
    let none : false ≡ all_entries c.args.l.now = row_none rows c.loop-i.i [] c.loop-i-test.true n ∙ c.loop-i.invariant.2 ∙ rows_entries c.args.l.now c.told-l c.as_chunks.ensures.front in
    rw (c.from_residual.ensures, ← none)

pub loop-i-preserved : goal.loop-i-preserved
loop-i-preserved c =
    let rows = c.as_chunks.result.0.now in
    let w = was_entry (get_or rows c.loop-i.i []) c.in_ok-entry.entry (sym c.entry_from.ensures ∙ c.in_ok-entry.was) in (
      length-set c.loop-i.places c.loop-i.i _ ∙ c.loop-i.invariant.0,
      row_read rows c.loop-i.i [] c.loop-i-test.true c.loop-i.places c.in_ok-entry.entry (omega arith) w.1 ∙ c.loop-i.invariant.1,
      row_entry rows c.loop-i.i [] c.loop-i-test.true w.0 ∙ c.loop-i.invariant.2,
    )

pub returns : goal.returns
unfolding box_from
returns c =
    let l = c.args.l.now in
    let rows = c.as_chunks.result.0.now in
    let all : true ≡ all_entries l = sym (ap (list_all is_entry) (drop_of_length-le rows c.loop-i-test.false)) ∙ c.loop-i.invariant.2 ∙ rows_entries l c.told-l c.as_chunks.ensures.front in
    let places : c.loop-i.places ≡ places_from 30 (drop 4 l) = sym (rows_end rows c.loop-i.places c.loop-i.i c.loop-i-test.false (omega (arith, c.as_chunks.ensures.front_len))) ∙ c.loop-i.invariant.1 ∙ rows_places l c.told-l c.as_chunks.ensures.front in
    rw (← all, places)
