use Rattle.text.proofs.WrittenLaws.{no_room, has_room, writes_none, writes_all}
use Rattle.cell.specs.Refusals.{malformed}
use Rattle.std.proofs.Common.{arith}
use Rattle.form.specs.Form.{form_text}
use Rattle.text.proofs.put_line.Goals as goal

pub returns-then-buf-n : goal.returns-then-buf-n
returns-then-buf-n c =
    let a = c.args in
    writes_none _ _ _ malformed (omega arith) (rw (no_room (form_text a.f.now a.v.now) a.buf.now _ c.form_len-n.ensures.0 c.if-buf-n.true))

pub returns : goal.returns
returns c =
    let a = c.args in
    let e = c.form_len-n.ensures.0 in
    let l = c.if-buf-n.false in
    writes_all _ _ _ c.put_form.new.buf _ (rw (has_room (form_text a.f.now a.v.now) a.buf.now _ e l)) e l c.put_form.ensures.1
