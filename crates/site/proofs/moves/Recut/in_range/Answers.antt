use Rattle.std.proofs.Common.{◌&&◌, leb, le-leb, rules, tests}
use Rattle.cell.specs.Ranges.{form_ok}
use Rattle.cell.specs.RangeLaws.{card_in}
use Rattle.site.proofs.Chunks.{all_passed, one_failed}
use Rattle.site.proofs.moves.Recut.in_range.Goals as goal

pub returns-then-all : goal.returns-then-all
returns-then-all c =
    let r = c.if-all.ensures.runs in
    let m = (card_in c.args.card.now c.requires.card_fits).delays in
    let u = rw (r.1, c.chunks_exact.ensures.size, c.chunks_exact.ensures.rest) at (c.chunks_exact.ensures.runs r.0 r.0.seen) c.args.self.some in
    let e = all_passed r.0 c.args.self.width c.args.card.now.cells c.args.rows.now u c.args.self.some c.requires.rows_fit (λ row. leb c.args.card.now.delays 30 && form_ok c.args.card.now.delays row) (λ x h. search (rules, tests)) r.2.0 (r.2.1 (λ a b q k. search (rules, tests))) in
    rw (rw (le-leb c.args.card.now.delays 30 m) at e)

pub returns-else-all : goal.returns-else-all
returns-else-all c =
    let r = c.if-all.ensures.runs in
    let m = (card_in c.args.card.now c.requires.card_fits).delays in
    let u = rw (r.1, c.chunks_exact.ensures.size, c.chunks_exact.ensures.rest) at (c.chunks_exact.ensures.runs r.0 r.0.seen) c.args.self.some in
    let e = one_failed r.0 c.args.self.width c.args.card.now.cells c.args.rows.now u c.args.self.some c.requires.rows_fit (λ row. leb c.args.card.now.delays 30 && form_ok c.args.card.now.delays row) (λ x h. search (rules, tests)) (r.2 (λ a b q k. search (rules, tests))) in
    rw (rw (le-leb c.args.card.now.delays 30 m) at e)
