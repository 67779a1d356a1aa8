use Rattle.std.proofs.Common.{sym}
use Rattle.head.proofs.Nans.{carried_nan, carried_plain}
use Rattle.head.proofs.from_pattern.Goals as goal

pub returns-then-is_nan_pattern : goal.returns-then-is_nan_pattern
returns-then-is_nan_pattern c = carried_nan c.args.bits (sym c.if-is_nan_pattern.ensures)

pub returns-else-is_nan_pattern : goal.returns-else-is_nan_pattern
returns-else-is_nan_pattern c = carried_plain c.args.bits (sym c.if-is_nan_pattern.ensures)
