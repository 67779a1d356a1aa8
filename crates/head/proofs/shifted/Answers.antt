use Rattle.std.proofs.Common.{◌∙◌}
use Rattle.head.proofs.Floor.{shift_is}
use Rattle.head.proofs.shifted.Goals as goal

pub returns : goal.returns
returns c = c.unwrap_or.ensures ∙ shift_is c.checked_shr.result c.args.n c.args.k c.checked_shr.ensures c.ranges.n.fits
