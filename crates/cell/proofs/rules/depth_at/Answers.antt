use Rattle.cell.proofs.Sides.{over_is, under_is}
use Rattle.cell.proofs.rules.depth_at.Goals as goal

pub returns-then-d-le0 : goal.returns-then-d-le0
returns-then-d-le0 c =
    over_is c.args.top.0 c.args.level.0 c.requires.0 c.requires.1 c.unsigned_abs-size.ensures.value c.if-d-le0.true

pub returns-else-d-le0 : goal.returns-else-d-le0
returns-else-d-le0 c =
    under_is c.args.top.0 c.args.level.0 c.requires.0 c.requires.1 c.unsigned_abs-size.ensures.value c.if-d-le0.false
