use Rattle.std.proofs.Common.{Ok, Err, ◌≡◌, refl, sym, ap, ◌∙◌, List, ℕ, ℤ, pos, get_or, Bool, true, false, cond}
use Rattle.cell.specs.Answers.{Answer, Verdict}
use Rattle.std.proofs.lemmas.Result.{err_from_is_err_and}
use Rattle.cell.specs.RangeLaws.{soil_in_lem}
use Rattle.cell.specs.declared.Card.{Card}
use Rattle.cell.specs.declared.Entry.{Entry}
use Rattle.cell.specs.declared.Reading.{Reading}
use Rattle.cell.specs.declared.Refusal.{Refusal}
use Rattle.cell.specs.declared.Depth.{Depth}
use Rattle.cell.specs.declared.ranges.Soil.{Soil}
use Rattle.cell.specs.Parts.{Checked, AcceptGives}
use Rattle.cell.specs.Ranges.{card_ok, soil_ok, soil_of, queue_of, life_of, next_of}
use Rattle.cell.specs.Refusals.{refusal_number, number_of, nothing, amounts_of, unless, verdict_of}
use Rattle.cell.proofs.CheckLaws.{Passed, passed, checked, verdict_card}
use Rattle.cell.specs.Still.{reading_of}
use Rattle.cell.proofs.StillLaws.{verdict_as, amounts_as, row_as, take_as}
use Rattle.cell.specs.Step.{amounts_by, row_after, sums_take, judged, final_of, answer_of, new_row, StepGives}
use Rattle.cell.specs.declared.Refusal.TheVariants.{BadSoil, FullSums}
use Rattle.cell.proofs.Verdict.{verdict_is}
use Rattle.cell.specs.declared.Amounts.{Amounts}
use Rattle.cell.proofs.step_row.Goals as goal

-- `cell::step_row` meets its contract: the entry is stepped as a reading, which has its verdict, its amounts and its row. Assumes nothing.
-- by a verdict that refuses the row stays
stays : (card : Card) (soil : List ℤ) (row : List ℕ) (e : Entry) {why : Refusal} → verdict_of card soil row e ≡ Err why → StepGives card soil row e (Err why) row
unfolding answer_of new_row final_of judged
stays card soil row e h = record { answer_is = rw h; number_is = rw h; amounts_are = rw h; row_is = rw h }

bad_soil : (card : Card) (soil : List ℤ) (row : List ℕ) (e : Entry) → card_ok card ≡ true → soil_ok soil ≡ false → verdict_of card soil row e ≡ Err BadSoil
unfolding verdict_of unless
bad_soil card soil row e g s = rw (g, s)

-- what the call gives by the verdict of the reading r
module _ (card : Card) (soil : List ℤ) (row : List ℕ) (e : Entry) {r : Reading} (er : r ≡ reading_of e) {v : Verdict} (is : v ≡ verdict_of card soil row (Entry.Reading r)) where
  verdict : verdict_of card soil row e ≡ v
  verdict = sym (verdict_as card soil row e) ∙ ap (λ (x : Reading). verdict_of card soil row (Entry.Reading x)) (sym er) ∙ sym is

  refused : {why : Refusal} → v ≡ Err why → StepGives card soil row e (Err why) row
  refused f = stays card soil row e (verdict ∙ f)

  passing : {d : Depth} → v ≡ Ok d → Passed card soil row e d
  passing {d} f = passed card soil row e d (verdict ∙ f)

  ranged : {d : Depth} → v ≡ Ok d → {s : Soil} → s ≡ soil_of soil → Checked card s r d
  ranged {d} f es = rw (es, er) (checked card soil row e d (passing f))

  -- 15 decides
  module _ {d : Depth} (f : v ≡ Ok d) where
    room : Bool
    room = sums_take card (soil_of soil) e d row

    final : final_of card soil row e ≡ unless room FullSums (Ok d)
    unfolding final_of judged room
    final = rw (verdict ∙ f)

    by_room : {A : Type 0} (b : Bool) (g : Depth → A) (k : Refusal → A) → cond b (g d) (k FullSums) ≡ judged (unless b FullSums (Ok d)) g k
    unfolding judged unless
    by_room true g k = refl
    by_room false g k = refl

    accepted : {s : Soil} → s ≡ soil_of soil → {answer : Answer} {after : List ℕ} → AcceptGives card s r d row answer after → StepGives card soil row e answer after
    unfolding answer_of new_row room
    accepted es {answer} {after} g =
        let p = passing f in
        let c = checked card soil row e d p in
        let top = get_or soil 0 (pos 0) in
        let k : AcceptGives card (soil_of soil) (reading_of e) d row answer after = rw (es, er) at g in
        let took = take_as card (soil_of soil) top e d p.fields_fine c row p.row_ok_lem in
        let amounts = amounts_as card (soil_of soil) top e d p.fields_fine c (queue_of card.delays row) in
        let rows = row_as card (soil_of soil) top e d p.fields_fine c row in
        let q = queue_of card.delays row in
        let a : answer ≡ cond room (Ok (amounts_by card (soil_of soil) e d q)) (Err FullSums) = k.answer_is ∙ rw (took, amounts) in
        record {
          answer_is = a ∙ rw final (by_room room (λ x. Ok (amounts_by card (soil_of soil) e x q)) (λ why. Err why));
          number_is = ap number_of a ∙ number room (amounts_by card (soil_of soil) e d q) ∙ rw final (by_room room (λ x. 0) refusal_number);
          amounts_are = ap amounts_of a ∙ given room (amounts_by card (soil_of soil) e d q) ∙ rw final (by_room room (λ x. amounts_by card (soil_of soil) e x q) (λ why. nothing));
          row_is = k.row_is ∙ rw (took, ← rows, final) (by_room room (λ x. row_after card (soil_of soil) e x row) (λ why. row));
        }
      where
        number : (b : Bool) (a : Amounts) → number_of (cond b (Ok a) (Err FullSums)) ≡ cond b 0 (refusal_number FullSums)
        number true a = refl
        number false a = refl

        given : (b : Bool) (a : Amounts) → amounts_of (cond b (Ok a) (Err FullSums)) ≡ cond b a nothing
        given true a = refl
        given false a = refl

pub returns-then-not-card_ok : goal.returns-then-not-card_ok
returns-then-not-card_ok c =
    let a = c.args in
    stays a.card a.soil.now a.row.now a.e (verdict_card a.card a.soil.now a.row.now a.e (sym c.card_ok.ensures ∙ c.if-not-card_ok.true))

pub returns-in_err-soil : goal.returns-in_err-soil
returns-in_err-soil c =
    let a = c.args in
    let p = err_from_is_err_and c.from_residual.result c.from_residual.ensures.1 in
    rw (p.1, p.2, c.in_err-soil.ensures.1) (stays a.card a.soil.now a.row.now a.e (bad_soil a.card a.soil.now a.row.now a.e (sym c.card_ok.ensures ∙ c.if-not-card_ok.false) c.in_err-soil.ensures.0))

pub judge-requires : goal.judge-requires
unfolding soil_of
judge-requires c =
    rw c.in_ok-soil.ensures.1 (soil_in_lem _ c.in_ok-soil.ensures.0).top

pub invariant_of-day : goal.invariant_of-day
unfolding life_of next_of
invariant_of-day c =
    let a = c.args in
    let v = verdict_is a.card a.soil.now a.row.now _ (sym c.card_ok.ensures ∙ c.if-not-card_ok.false) c.in_ok-soil.ensures c.row_ok-fits.ensures c.number_at-life.ensures c.number_at-next.ensures c.judge.ensures in
    record { checked = ranged a.card a.soil.now a.row.now a.e c.reading_of-reading.ensures v c.in_ok-depth.was c.in_ok-soil.ensures.1 }

pub accept-requires : goal.accept-requires
unfolding life_of next_of
accept-requires c =
    let a = c.args in
    let v = verdict_is a.card a.soil.now a.row.now _ (sym c.card_ok.ensures ∙ c.if-not-card_ok.false) c.in_ok-soil.ensures c.row_ok-fits.ensures c.number_at-life.ensures c.number_at-next.ensures c.judge.ensures in
    (passing a.card a.soil.now a.row.now a.e c.reading_of-reading.ensures v c.in_ok-depth.was).row_ok_lem

pub returns-in_err-depth : goal.returns-in_err-depth
unfolding life_of next_of
returns-in_err-depth c =
    let a = c.args in
    let v = verdict_is a.card a.soil.now a.row.now _ (sym c.card_ok.ensures ∙ c.if-not-card_ok.false) c.in_ok-soil.ensures c.row_ok-fits.ensures c.number_at-life.ensures c.number_at-next.ensures c.judge.ensures in
    let p = err_from_is_err_and c.from_residual-in_err-depth.result c.from_residual-in_err-depth.ensures.1 in
    rw (p.1, p.2) (refused a.card a.soil.now a.row.now a.e c.reading_of-reading.ensures v c.in_err-depth.was)

pub returns : goal.returns
unfolding life_of next_of
returns c =
    let a = c.args in
    let v = verdict_is a.card a.soil.now a.row.now _ (sym c.card_ok.ensures ∙ c.if-not-card_ok.false) c.in_ok-soil.ensures c.row_ok-fits.ensures c.number_at-life.ensures c.number_at-next.ensures c.judge.ensures in
    accepted a.card a.soil.now a.row.now a.e c.reading_of-reading.ensures v c.in_ok-depth.was c.in_ok-soil.ensures.1 c.accept.ensures
