use Rattle.std.proofs.Common.{◌≡◌, map, length, drop}
use Rattle.std.proofs.lemmas.List.Edits.{sets}
use Rattle.form.specs.Words.{word_of}
use Rattle.text.proofs.card.to_depths.Given as goal

abbrev pub invariant-loop-i : goal.invariant-loop-i
invariant-loop-i l = record {
  put : sets l.depths l.i (map word_of (drop l.i l.v)) ≡ map word_of l.v;
  long : length l.depths ≡ 30;
}
