use Rattle.std.proofs.Common.{arith}
use Rattle.site.proofs.Turns.{row_recut}
use Rattle.site.proofs.moves.Recut.row.Goals as goal

pub returns : goal.returns
returns c =
    let s = c.args.self in
    row_recut s.place s.out s.more c.args.from.now c.args.to.now _ _ _ (omega arith) (omega (arith, c.requires.old, c.requires.room)) c.copy_from_slice.ensures.after (c.fill.ensures.after (λ y e. e)) c.copy_from_slice-2.ensures.after
