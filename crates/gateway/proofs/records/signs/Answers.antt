use Rattle.std.proofs.Common.{◌≡◌, ◌∙◌, get_or, sym, rules, tests, arith}
use Rattle.std.proofs.lemmas.Grind.{common_steps}
use Rattle.gateway.proofs.Signs.{signs_is, through}
use Rattle.gateway.proofs.records.signs.Goals as goal

pub returns : goal.returns
returns c =
    let r = c.all.ensures.runs in
    let e = c.enumerate.ensures.runs r.0 r.0.seen r.1 in
    let q = e.1 in
    let u = rw (q.1, c.iter.ensures.rest) at (c.iter.ensures.runs q.0 q.0.seen) in
    let places = q.2.0 in
    let l = c.args.l.now in
    signs_is r.0 (λ x. x.1.now) l (omega (arith, u.0, places.0)) (λ w. sym places.0 ∙ u.1 (q.2.1 ∙ w)) (λ k. through (λ x. x.1) (λ y. y.now ≡ get_or l k y.now) (r.0.at k) (places.2 k) (u.8 k)) c.all.result (λ a b f k. search (rules, tests)) c.args.k (λ x. x.0) e.0 (λ x h. grind (arith, common_steps)) (λ x h. grind (arith, common_steps)) r.2
