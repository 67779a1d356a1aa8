use Rattle.std.proofs.Common.{rules, refl, map, ◌∙◌}
use Rattle.std.proofs.lemmas.List.{length-map}
use Rattle.form.specs.Words.{word_of}
use Rattle.form.specs.Put.{sets_all}
use Rattle.text.proofs.card.to_depths.Goals as goal

pub loop-i-init : goal.loop-i-init
loop-i-init c = record {
  put = sets_all _ (map word_of c.args.v.now) (length-map c.args.v.now word_of ∙ search rules);
  long = refl;
}
