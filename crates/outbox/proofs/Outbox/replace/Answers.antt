use Rattle.std.proofs.Common.{sym, ap, ◌∙◌, arith}
use Rattle.cell.specs.declared.Entry.{Entry}
use Rattle.outbox.specs.Outbox.{replaced_of, replacing}
use Rattle.outbox.specs.Laws.{form_in, holds_none}
use Rattle.outbox.proofs.Changed.{replaced_is}
use Rattle.outbox.proofs.Outbox.replace.Goals as goal

pub returns-then-self-eq0 : goal.returns-then-self-eq0
unfolding replaced_of replacing
returns-then-self-eq0 c =
    rw (sym c.form_ok.ensures ∙ c.if-not-form_ok.false, holds_none c.args.self.now c.if-self-eq0.true)

pub keep-requires : goal.keep-requires
keep-requires c =
    (omega arith, (form_in c.args.self.now (sym c.form_ok.ensures ∙ c.if-not-form_ok.false)).numbers.room)

pub returns : goal.returns
unfolding replaced_of
returns c =
    let b = c.args.self.now in
    let f = sym c.form_ok.ensures ∙ c.if-not-form_ok.false in
    rw f (replaced_is b (omega arith) _ _ _ (form_in b f).numbers.room c.if-self-eq0.false c.keep.ensures (ap Entry.Void c.notice_of.ensures))
