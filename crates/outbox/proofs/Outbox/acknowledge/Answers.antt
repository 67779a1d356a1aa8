use Rattle.std.proofs.Common.{refl, sym, ◌∙◌, arith}
use Rattle.outbox.specs.Outbox.{is_heard}
use Rattle.outbox.specs.Laws.{form_in, heard_in, heard_is}
use Rattle.outbox.proofs.Changed.{without_is}
use Rattle.outbox.proofs.Outbox.acknowledge.Goals as goal

pub overflow_sub-oldest : goal.overflow_sub-oldest
overflow_sub-oldest c =
    (form_in c.args.self.now (sym c.form_ok.ensures ∙ c.if-not-form_ok.false)).numbers.counts

pub keep-requires : goal.keep-requires
unfolding is_heard
keep-requires c =
    let b = c.args.self.now in
    let f = (form_in b (sym c.form_ok.ensures ∙ c.if-not-form_ok.false)).numbers in
    (omega (arith, f, heard_in b c.args.life c.args.next c.if-heard.true), f.room)

pub returns-then-heard : goal.returns-then-heard
unfolding is_heard
returns-then-heard c =
    let b = c.args.self.now in
    let f = sym c.form_ok.ensures ∙ c.if-not-form_ok.false in
    heard_is b c.args.life c.args.next _ f c.if-heard.true (without_is b (omega arith) c.args.next _ _ (form_in b f).numbers.room refl c.keep.ensures)
