use Rattle.std.proofs.Common.{sym, ap, ◌∙◌}
use Rattle.site.specs.declared.Added.{Added}
use Rattle.gateway.proofs.Added.{added_in}
use Rattle.gateway.proofs.waterbook_add.Goals as goal

pub sheet_numbers-requires : goal.sheet_numbers-requires
sheet_numbers-requires c =
    let q = rw (c.sheet_from.ensures.is, c.amounts_from.ensures.is) at c.add-added.ensures in
    rw q (added_in _ _ (sym (ap (λ (x : Added). x.number) q) ∙ c.if-added-ne0.false))
