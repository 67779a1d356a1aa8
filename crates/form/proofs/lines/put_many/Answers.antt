use Rattle.std.proofs.Common.{refl, arith}
use Rattle.form.specs.Form.{marks}
use Rattle.form.specs.RunLaws.{rows_less}
use Rattle.form.proofs.Rows.{len_more}
use Rattle.form.proofs.lines.put_many.Goals as goal

pub put_row-requires : goal.put_row-requires
put_row-requires c =
    let l = c.loop in
    let w = marks c.args.f.now in
    let r = rows_less c.args.n l.counter w c.loop-test.true in
    let e = len_more c.args.n c.args.f.now c.args.vals.now l.counter c.loop-test.true l.j w refl in
    (omega arith, omega arith)
