use Rattle.std.proofs.Common.{refl, sym, ◌∙◌, rules, arith}
use Rattle.std.specs.Prelude.{Some, None}
use Rattle.std.proofs.lemmas.Result.{err_from_is_err_and}
use Rattle.form.specs.RunLaws.{ran_good}
use Rattle.text.specs.Cards.{counts_found, tail_found, refused_card}
use Rattle.text.proofs.CardLaws.{given_first, given_line, rows_stand, rows_stop, head_range, end_head, end_depths, end_soil, end_short, end_good}
use Rattle.text.proofs.card.read.Goals as goal

pub returns-in_err-h : goal.returns-in_err-h
returns-in_err-h c =
    let p = err_from_is_err_and c.from_residual.result c.from_residual.ensures.1 in
    let o = c.in_err-h.ensures.ok_part in
    end_head _ _ (counts_found None) (rw o at c.card_counts.ensures) _ refl (given_first _ _ _ _ p.1 p.2 o c.in_err-h.ensures.value)

pub card_depths-requires : goal.card_depths-requires
card_depths-requires c =
    let h = rw c.in_ok-h.ensures.ok_part at c.card_counts.ensures in
    (head_range c.args.s.now (counts_found (Some c.in_ok-h.h)) h).0

pub returns-in_err-t : goal.returns-in_err-t
returns-in_err-t c =
    let p = err_from_is_err_and c.from_residual-in_err-t.result c.from_residual-in_err-t.ensures.1 in
    let h = rw c.in_ok-h.ensures.ok_part at c.card_counts.ensures in
    let o = c.in_err-t.ensures.ok_part in
    end_depths _ _ (counts_found (Some c.in_ok-h.h)) h _ (tail_found None) (rw o at c.card_depths.ensures.0) refl refl (given_first _ _ _ _ p.1 p.2 o c.in_err-t.ensures.value)

pub map_err-requires : goal.map_err-requires
map_err-requires c good is w r =
    let h = rw c.in_ok-h.ensures.ok_part at c.card_counts.ensures in
    omega (arith, ran_good _ _ _ _ _ (sym c.pass_many.ensures ∙ is), (head_range c.args.s.now (counts_found (Some c.in_ok-h.h)) h).1)

pub returns-in_err-taken : goal.returns-in_err-taken
returns-in_err-taken c =
    let h = rw c.in_ok-h.ensures.ok_part at c.card_counts.ensures in
    let t = rw c.in_ok-t.ensures.ok_part at c.card_depths.ensures.0 in
    let k = rows_stop c.pass_many.result c.in_err-taken.field-0.0 c.in_err-taken.ensures.cases (λ good q. search rules) in
    let p = err_from_is_err_and c.from_residual-in_err-taken.result c.from_residual-in_err-taken.ensures.1 in
    end_soil _ _ (counts_found (Some c.in_ok-h.h)) h _ (tail_found (Some c.in_ok-t.t)) t refl refl k.0 (sym k.1 ∙ c.pass_many.ensures) (given_line _ _ _ _ p.1 p.2 k.2)

pub returns-then-soil-n : goal.returns-then-soil-n
returns-then-soil-n c =
    let h = rw c.in_ok-h.ensures.ok_part at c.card_counts.ensures in
    let t = rw c.in_ok-t.ensures.ok_part at c.card_depths.ensures.0 in
    let k = rows_stand c.pass_many.result _ c.in_ok-taken.ensures.cases in
    end_short _ _ (counts_found (Some c.in_ok-h.h)) h _ (tail_found (Some c.in_ok-t.t)) t refl refl _ (sym k ∙ c.pass_many.ensures) c.if-soil-n.true refl

pub returns : goal.returns
returns c =
    let h = rw c.in_ok-h.ensures.ok_part at c.card_counts.ensures in
    let t = rw c.in_ok-t.ensures.ok_part at c.card_depths.ensures.0 in
    let k = rows_stand c.pass_many.result _ c.in_ok-taken.ensures.cases in
    end_good _ _ (counts_found (Some c.in_ok-h.h)) h (refused_card 0 0) (tail_found (Some c.in_ok-t.t)) t refl refl
    _ _ _ _ (sym k ∙ c.pass_many.ensures) c.if-soil-n.false c.card_depths.ensures.1 c.to_depths.ensures c.read_many.ensures.1
