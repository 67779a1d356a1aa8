use Rattle.std.proofs.Common.{◌∙◌, rules, tests, eqb}
use Rattle.std.proofs.lemmas.Iterator.{YieldsList-from_slice}
use Rattle.std.proofs.lemmas.Iterator.Search.{all_from_yields_List}
use Rattle.node.proofs.Turns.{zeros_all}
use Rattle.node.proofs.numbers.all_zero.Goals as goal

pub returns : goal.returns
returns c =
    all_from_yields_List (λ n. eqb n 0) _ _ c.all.result c.all.ensures.ran (YieldsList-from_slice c.args.l.now cc) (λ x t q k. search (rules, tests)) ∙ zeros_all c.args.l.now
