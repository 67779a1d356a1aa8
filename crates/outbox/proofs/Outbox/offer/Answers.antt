use Rattle.std.proofs.Common.{sym, ap, ◌∙◌, arith}
use Rattle.outbox.specs.Outbox.{offer_of, offered, oldest}
use Rattle.outbox.specs.Laws.{holds_none, oldest_is}
use Rattle.outbox.proofs.Outbox.offer.Goals as goal

pub returns-then-self-eq0 : goal.returns-then-self-eq0
unfolding offer_of oldest
returns-then-self-eq0 c =
    rw (sym c.form_ok.ensures ∙ c.if-not-form_ok.false, holds_none c.args.self.now c.if-self-eq0.true)

pub returns : goal.returns
unfolding offer_of
returns c =
    rw (sym c.form_ok.ensures ∙ c.if-not-form_ok.false) (ap offered (oldest_is c.args.self.now (omega arith) _ c.if-self-eq0.false))
