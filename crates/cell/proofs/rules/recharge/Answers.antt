use Rattle.std.proofs.Common.{arith, ◌+◌}
use Rattle.cell.specs.Rules.{recharge_of}
use Rattle.cell.proofs.Fits.{net_is}
use Rattle.cell.proofs.rules.recharge.Goals as goal

pub returns : goal.returns
unfolding recharge_of
returns c =
    net_is (c.args.release.0 + c.args.direct.0 + c.args.septic.0) (c.args.etsat.0 + c.args.drain.0) 30000000000 c.requires.0 c.requires.1 (omega arith)
