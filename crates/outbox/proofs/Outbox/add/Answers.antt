use Rattle.std.proofs.Common.{sym, ◌∙◌, arith, lt-ltb}
use Rattle.outbox.specs.Outbox.{added_of, unless}
use Rattle.outbox.specs.Laws.{form_in, with_is}
use Rattle.outbox.proofs.Outbox.add.Goals as goal

pub overflow_add-self : goal.overflow_add-self
overflow_add-self c =
    omega (arith, (form_in c.args.self.now (sym c.form_ok.ensures ∙ c.if-not-form_ok.false)).numbers)

pub returns : goal.returns
unfolding added_of unless
returns c =
    let b = c.args.self.now in
    rw (sym c.form_ok.ensures ∙ c.if-not-form_ok.false, sym c.is_next.ensures ∙ c.if-not-is_next.false, lt-ltb _ _ c.if-self-ge30.false, ← with_is b (omega arith) _ _ c.if-self-ge30.false c.keep.ensures)
