use Rattle.std.proofs.Common.{◌≡◌, ◌+◌, ◌*◌, ◌++◌, length, take, drop}
use Rattle.node.specs.Numbers.{place_numbers}
use Rattle.node.proofs.numbers.put_box.Given as goal

abbrev pub invariant-loop-i : goal.invariant-loop-i
invariant-loop-i l = (length l.out ≡ 334) × (take (4 + 11 * l.i) l.out ++ place_numbers (drop l.i l.b.places) ≡ take 4 l.initial.out ++ place_numbers l.b.places)
