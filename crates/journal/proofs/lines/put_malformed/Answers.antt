use Rattle.std.proofs.Common.{w64, rules}
use mir.Facts.{to_z_pos}
use Rattle.journal.specs.Book.{malformed_text}
use Rattle.journal.proofs.lines.put_malformed.Goals as goal

pub put_form-requires : goal.put_form-requires
unfolding malformed_text
put_form-requires c =
    (search rules, rw (to_z_pos w64 {n = c.args.line} c.requires.0) c.requires.1)

pub returns : goal.returns
unfolding malformed_text
returns c =
    rw (to_z_pos w64 {n = c.args.line} c.requires.0) at c.put_form.ensures
