use Rattle.std.proofs.Common.{◌∙◌, rules, tests, eqb}
use Rattle.std.proofs.lemmas.Iterator.{YieldsList-from_slice}
use Rattle.std.proofs.lemmas.Iterator.Search.{all_from_yields_List}
use Rattle.text.proofs.Zeros.{all_zero}
use Rattle.text.proofs.card.all_zero.Goals as goal

pub returns : goal.returns
returns c =
    let d = c.args.depths.now in
    all_from_yields_List (λ x. eqb x 0) _ _ c.all.result c.all.ensures.ran (YieldsList-from_slice d cc) (λ x b q k. search (rules, tests)) ∙ all_zero d
