use Rattle.std.proofs.Common.{rules, tests, arith}
use Rattle.std.proofs.lemmas.Grind.{common_steps}
use Rattle.gateway.proofs.Signs.{zeros_is}
use Rattle.gateway.proofs.records.all_zero.Goals as goal

pub returns : goal.returns
returns c =
    let r = c.all.ensures.runs in
    let u = rw (r.1, c.iter.ensures.rest) at (c.iter.ensures.runs r.0 r.0.seen) in
    zeros_is r.0 (λ x. x.now) c.args.l.now u.0 u.1 u.8 c.all.result (λ a b q k. search (rules, tests)) (λ x h. grind (arith, common_steps)) (λ x h. grind (arith, common_steps)) r.2
