use Rattle.std.proofs.Common.{sym, ◌∙◌, pos}
use Rattle.std.proofs.lemmas.List.{length-replicate}
use Rattle.text.proofs.ReadLaws.{line_good}
use Rattle.text.proofs.read_line.Goals as goal

pub returns : goal.returns
returns g c =
    line_good _ _ _ _ _ (length-replicate g.row.W (pos 0) ∙ sym c.requires) (sym c.read_form.ensures.0 ∙ c.in_ok-taken.ensures.ok_part) c.read_form.ensures.1
