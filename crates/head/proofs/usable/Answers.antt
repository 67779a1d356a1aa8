use Rattle.std.proofs.Common.{Bool, ◌&&◌, sym, ap, ◌∙◌}
use Rattle.std.specs.Float.Ieee.{le}
use Rattle.head.proofs.Range.{hi, both}
use Rattle.head.proofs.usable.Goals as goal

pub returns-then-x : goal.returns-then-x
returns-then-x c =
    let x = c.args.x in
    sym (ap (λ (t : Bool). t && le x hi) c.if-x.true) ∙ both x

pub returns-else-x : goal.returns-else-x
returns-else-x c =
    let x = c.args.x in
    c.if-x.false ∙ sym (ap (λ (t : Bool). t && le x hi) c.if-x.false) ∙ both x
