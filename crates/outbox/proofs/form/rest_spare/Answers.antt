use Rattle.std.proofs.Common.{rules, tests, arith, take, drop, ◌-◌, ap, ◌∙◌, length-drop, take_all}
use Rattle.std.proofs.lemmas.Iterator.{YieldsList-from_slice}
use Rattle.std.proofs.lemmas.Iterator.Search.{all_from_yields_List}
use Rattle.outbox.specs.Outbox.{is_spare, all_spare}
use Rattle.outbox.specs.Laws.{spares_all}
use Rattle.outbox.proofs.form.rest_spare.Goals as goal

pub returns : goal.returns
returns c =
    let b = c.args.b.now in
    let ps = take (30 - b.held) (drop b.held b.places) in
    all_from_yields_List is_spare _ _ c.all.result c.all.ensures.ran (YieldsList-from_slice ps cc) (λ x t q k. search (rules, tests))
    ∙ spares_all ps ∙ ap all_spare (take_all (30 - b.held) (drop b.held b.places) (omega (arith, length-drop b.held b.places)))
