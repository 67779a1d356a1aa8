use Rattle.std.proofs.Common.{w64, rules, arith}
use Rattle.std.proofs.lemmas.Int.{to_z-of_z, to_z_pos}
use Rattle.gateway.specs.Shapes.{amount_numbers}
use Rattle.gateway.proofs.records.amount_numbers.Goals as goal

pub returns : goal.returns
unfolding amount_numbers
returns c =
    let a = c.args.a in
    rw (to_z_pos w64 a.inflow.0 (omega (arith, c.requires.inflow)), to_z_pos w64 a.runoff.0 (omega (arith, c.requires.runoff)), to_z_pos w64 a.etvad.0 (omega (arith, c.requires.etvad)), to_z_pos w64 a.etstor.0 (omega (arith, c.requires.etstor)), to_z_pos w64 a.etsat.0 (omega (arith, c.requires.etsat)), to_z_pos w64 a.drain.0 (omega (arith, c.requires.drain)), to_z_pos w64 a.release.0 (omega (arith, c.requires.release)), to_z_pos w64 a.stored.0 (omega (arith, c.requires.stored)), to_z_pos w64 a.left.0 (omega (arith, c.requires.left)), to_z-of_z w64 a.recharge.0 (search rules))
