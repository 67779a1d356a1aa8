use Rattle.std.proofs.Common.{rules, tests}
use Rattle.cell.specs.Sums.{no_sums}
use Rattle.site.proofs.Chunks.{all_passed, one_failed}
use Rattle.site.proofs.moves.Recut.collected.Goals as goal

pub returns-then-all : goal.returns-then-all
returns-then-all c =
    let r = c.if-all.ensures.runs in
    let u = rw (r.1, c.chunks_exact.ensures.size, c.chunks_exact.ensures.rest) at (c.chunks_exact.ensures.runs r.0 r.0.seen) c.args.self.some in
    rw (all_passed r.0 c.args.self.width c.args.card.now.cells c.args.rows.now u c.args.self.some c.requires.rows_fit no_sums (λ x h. search (rules, tests)) r.2.0 (r.2.1 (λ a b q k. search (rules, tests))))

pub returns-else-all : goal.returns-else-all
returns-else-all c =
    let r = c.if-all.ensures.runs in
    let u = rw (r.1, c.chunks_exact.ensures.size, c.chunks_exact.ensures.rest) at (c.chunks_exact.ensures.runs r.0 r.0.seen) c.args.self.some in
    rw (one_failed r.0 c.args.self.width c.args.card.now.cells c.args.rows.now u c.args.self.some c.requires.rows_fit no_sums (λ x h. search (rules, tests)) (r.2 (λ a b q k. search (rules, tests))))
