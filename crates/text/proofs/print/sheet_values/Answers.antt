use Rattle.std.proofs.Common.{rules, w64, to_z-of_z}
use Rattle.text.proofs.Printable.{sheet_small}
use mir.Facts.{to_z_pos}
use Rattle.text.proofs.print.sheet_values.Goals as goal

pub overflow_cast-result : goal.overflow_cast-result
overflow_cast-result c =
    record { sfits = sheet_small c.args.s c.requires 0 }

pub overflow_cast-result-2 : goal.overflow_cast-result-2
overflow_cast-result-2 c =
    record { sfits = sheet_small c.args.s c.requires 1 }

pub overflow_cast-result-3 : goal.overflow_cast-result-3
overflow_cast-result-3 c =
    record { sfits = sheet_small c.args.s c.requires 2 }

pub overflow_cast-result-4 : goal.overflow_cast-result-4
overflow_cast-result-4 c =
    record { sfits = sheet_small c.args.s c.requires 3 }

pub overflow_cast-result-5 : goal.overflow_cast-result-5
overflow_cast-result-5 c =
    record { sfits = sheet_small c.args.s c.requires 4 }

pub overflow_cast-result-6 : goal.overflow_cast-result-6
overflow_cast-result-6 c =
    record { sfits = sheet_small c.args.s c.requires 5 }

pub overflow_cast-result-7 : goal.overflow_cast-result-7
overflow_cast-result-7 c =
    record { sfits = sheet_small c.args.s c.requires 6 }

pub overflow_cast-result-8 : goal.overflow_cast-result-8
overflow_cast-result-8 c =
    record { sfits = sheet_small c.args.s c.requires 7 }

pub overflow_cast-result-9 : goal.overflow_cast-result-9
overflow_cast-result-9 c =
    record { sfits = sheet_small c.args.s c.requires 8 }

pub returns : goal.returns
returns c =
    let a = c.args.s in
    rw (
      to_z_pos w64 {n = a.steps} (sheet_small c.args.s c.requires 0),
      to_z_pos w64 {n = a.inflow.0} (sheet_small c.args.s c.requires 1),
      to_z_pos w64 {n = a.runoff.0} (sheet_small c.args.s c.requires 2),
      to_z_pos w64 {n = a.etvad.0} (sheet_small c.args.s c.requires 3),
      to_z_pos w64 {n = a.etstor.0} (sheet_small c.args.s c.requires 4),
      to_z_pos w64 {n = a.etsat.0} (sheet_small c.args.s c.requires 5),
      to_z_pos w64 {n = a.drain.0} (sheet_small c.args.s c.requires 6),
      to_z_pos w64 {n = a.release.0} (sheet_small c.args.s c.requires 7),
      to_z_pos w64 {n = a.stored.0} (sheet_small c.args.s c.requires 8),
      to_z-of_z {w = w64} {z = a.recharge.0} (search rules),
    )
