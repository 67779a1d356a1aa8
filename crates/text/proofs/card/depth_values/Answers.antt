use Rattle.std.proofs.Common.{rules, refl, map, pos, ◌∙◌}
use Rattle.std.proofs.lemmas.List.{length-map}
use Rattle.form.specs.Put.{sets_all}
use Rattle.text.proofs.card.depth_values.Goals as goal

pub loop-i-init : goal.loop-i-init
loop-i-init c = record {
  put = sets_all _ (map pos c.args.depths.now) (length-map c.args.depths.now pos ∙ search rules);
  long = refl;
}
