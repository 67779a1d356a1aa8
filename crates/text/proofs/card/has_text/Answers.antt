use Rattle.std.proofs.Common.{◌≡◌, ◌-◌, sym, ap, ◌∙◌, arith, rules, length, take, drop, take_all, length-drop}
use Rattle.cell.specs.Ranges.{none_of}
use Rattle.cell.specs.RangeLaws.{counts_in_lem}
use Rattle.text.specs.Cards.{has_text}
use Rattle.text.proofs.card.has_text.Goals as goal

pub slice_bounds-all_zero-count : goal.slice_bounds-all_zero-count
slice_bounds-all_zero-count c =
    let f = (counts_in_lem _ _ (sym c.if-counts_ok.ensures)).2 in search rules

pub slice_bounds-all_zero-start : goal.slice_bounds-all_zero-start
slice_bounds-all_zero-start c =
    let f = (counts_in_lem _ _ (sym c.if-counts_ok.ensures)).2 in search rules

pub returns-then-counts_ok : goal.returns-then-counts_ok
unfolding has_text
returns-then-counts_ok c =
    let m = c.args.card.delays in
    let xs = c.args.card.depths in
    let z : take (length xs - m) (drop m xs) ≡ drop m xs = take_all _ _ (omega (arith, length-drop m xs)) in
    rw (sym c.if-counts_ok.ensures) (c.all_zero.ensures ∙ ap none_of z)

pub returns-else-counts_ok : goal.returns-else-counts_ok
unfolding has_text
returns-else-counts_ok c =
    rw (sym c.if-counts_ok.ensures) c.if-counts_ok.false
