use Rattle.cell.specs.Ranges.{counts_ok, depths_ok, share_ok, card_ok}
use Rattle.cell.specs.RangeLaws.{many_delays}
use Rattle.std.proofs.Common.{leb, le-leb, ◌&&◌, sym}
use Rattle.std.proofs.Math.Bool.{and-true, and_assoc}
use Rattle.cell.proofs.card_ok.Goals as goal

-- `cell::card_ok` meets its contract. Assumes nothing.
pub returns-then-card-gt30 : goal.returns-then-card-gt30
unfolding card_ok
returns-then-card-gt30 c =
    let a = c.args.card in sym (rw (many_delays a.cells a.delays c.if-card-gt30.true))

pub returns : goal.returns
unfolding counts_ok share_ok card_ok
returns c =
    let a = c.args.card in
    rw (c.depths_ok-rising.ensures, le-leb _ 30 c.if-card-gt30.false, and-true (leb 1 a.cells && leb a.cells 256), and_assoc (leb 1 a.cells && leb a.cells 256 && depths_ok a.delays a.depths) (leb 5 a.share) (leb a.share 20))
