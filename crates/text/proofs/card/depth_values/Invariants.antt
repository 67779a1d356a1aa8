use Rattle.std.proofs.Common.{◌≡◌, map, pos, length, drop}
use Rattle.std.proofs.lemmas.List.Edits.{sets}
use Rattle.text.proofs.card.depth_values.Given as goal

abbrev pub invariant-loop-i : goal.invariant-loop-i
invariant-loop-i l = record {
  put : sets l.values l.i (map pos (drop l.i l.depths)) ≡ map pos l.depths;
  long : length l.values ≡ 30;
}
