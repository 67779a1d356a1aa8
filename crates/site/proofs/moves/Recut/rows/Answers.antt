use Rattle.std.proofs.Common.{◌≡◌, ◌*◌, arith}
use Rattle.site.specs.Moves.{recut_all, Cut}
use Rattle.site.proofs.Turns.{room, row_turn}
use Rattle.site.proofs.moves.Recut.rows.Goals as goal

pub loop-i-init : goal.loop-i-init
unfolding recut_all
loop-i-init c =
    let e : c.width_after-width.result * 0 ≡ 0 = omega arith in rw e

pub loop-i-preserved : goal.loop-i-preserved
loop-i-preserved c =
    let s = c.args.self in
    let r = room s.width c.loop-i.i c.args.cells c.loop-i-test.true in
    let cut : Cut s.width s.place s.out s.more = record { inside = s.inside; small = s.small } in
    rw (c.loop-i.invariant, c.width_after-width.ensures) (row_turn s.width s.place s.out s.more cut c.args.from.now c.args.to.now c.loop-i.i (omega (arith, r, c.requires.old)) c.row.new.to c.row.ensures)
