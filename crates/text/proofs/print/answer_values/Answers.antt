use Rattle.text.proofs.Printable.{amount_small}
use mir.Facts.{to_z_pos}
use Rattle.std.proofs.Common.{rules, w64, to_z-of_z}
use Rattle.text.proofs.print.answer_values.Goals as goal

pub overflow_cast-result : goal.overflow_cast-result
overflow_cast-result c =
    record { sfits = amount_small c.args.a c.requires 0 }

pub overflow_cast-result-2 : goal.overflow_cast-result-2
overflow_cast-result-2 c =
    record { sfits = amount_small c.args.a c.requires 1 }

pub overflow_cast-result-3 : goal.overflow_cast-result-3
overflow_cast-result-3 c =
    record { sfits = amount_small c.args.a c.requires 2 }

pub overflow_cast-result-4 : goal.overflow_cast-result-4
overflow_cast-result-4 c =
    record { sfits = amount_small c.args.a c.requires 3 }

pub overflow_cast-result-5 : goal.overflow_cast-result-5
overflow_cast-result-5 c =
    record { sfits = amount_small c.args.a c.requires 4 }

pub overflow_cast-result-6 : goal.overflow_cast-result-6
overflow_cast-result-6 c =
    record { sfits = amount_small c.args.a c.requires 5 }

pub overflow_cast-result-7 : goal.overflow_cast-result-7
overflow_cast-result-7 c =
    record { sfits = amount_small c.args.a c.requires 6 }

pub overflow_cast-result-8 : goal.overflow_cast-result-8
overflow_cast-result-8 c =
    record { sfits = amount_small c.args.a c.requires 7 }

pub overflow_cast-result-9 : goal.overflow_cast-result-9
overflow_cast-result-9 c =
    record { sfits = amount_small c.args.a c.requires 8 }

pub returns : goal.returns
returns c =
    let a = c.args.a in
    rw (
      to_z-of_z {w = w64} {z = c.from.result} (search rules),
      to_z-of_z {w = w64} {z = c.from-2.result} (search rules),
      c.from.ensures,
      c.from-2.ensures,
      to_z_pos w64 {n = a.inflow.0} (amount_small c.args.a c.requires 0),
      to_z_pos w64 {n = a.runoff.0} (amount_small c.args.a c.requires 1),
      to_z_pos w64 {n = a.etvad.0} (amount_small c.args.a c.requires 2),
      to_z_pos w64 {n = a.etstor.0} (amount_small c.args.a c.requires 3),
      to_z_pos w64 {n = a.etsat.0} (amount_small c.args.a c.requires 4),
      to_z_pos w64 {n = a.drain.0} (amount_small c.args.a c.requires 5),
      to_z_pos w64 {n = a.release.0} (amount_small c.args.a c.requires 6),
      to_z_pos w64 {n = a.stored.0} (amount_small c.args.a c.requires 7),
      to_z-of_z {w = w64} {z = a.recharge.0} (search rules),
      to_z_pos w64 {n = a.left.0} (amount_small c.args.a c.requires 8),
    )
