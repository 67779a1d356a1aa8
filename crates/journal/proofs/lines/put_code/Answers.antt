use Rattle.std.proofs.Common.{arith, w64, rules}
use mir.Facts.{to_z_pos}
use Rattle.cell.specs.Refusals.{refusal_number}
use Rattle.cell.proofs.CheckLaws.{refusal_in}
use Rattle.journal.specs.Book.{code_text}
use Rattle.journal.proofs.lines.put_code.Goals as goal

pub put_form-requires : goal.put_form-requires
unfolding code_text
put_form-requires c =
    (search rules, rw (c.from-2.ensures, c.from.ensures, to_z_pos w64 {n = refusal_number c.args.why} (omega (arith, (refusal_in c.args.why).1))) c.requires)

pub returns : goal.returns
unfolding code_text
returns c =
    rw (c.from-2.ensures, c.from.ensures, to_z_pos w64 {n = refusal_number c.args.why} (omega (arith, (refusal_in c.args.why).1))) at c.put_form.ensures
