use mathlib.Core.Path.{sym, ◌∙◌}
use borrow.Author.Tests.{eq-eqb, ne_eqb}
use Rattle.site.specs.Site.{rows_fit}
use Rattle.site.proofs.SiteLaws.{clear_card, clear_long, clear_done}
use Rattle.site.proofs.clear.Goals as goal

pub returns-then-not-card_ok : goal.returns-then-not-card_ok
returns-then-not-card_ok c =
    clear_card _ _ (sym c.card_ok.ensures ∙ c.if-not-card_ok.true)

pub returns-then-rows-cells : goal.returns-then-rows-cells
unfolding rows_fit
returns-then-rows-cells c =
    clear_long _ _ (sym c.card_ok.ensures ∙ c.if-not-card_ok.false) (ne_eqb _ _ c.if-rows-cells.true)

pub returns : goal.returns
unfolding rows_fit
returns c =
    let a = c.args in
    rw (c.fill.ensures.after (λ y e. e)) (clear_done a.card a.rows.now (sym c.card_ok.ensures ∙ c.if-not-card_ok.false) (eq-eqb _ _ c.if-rows-cells.false))
