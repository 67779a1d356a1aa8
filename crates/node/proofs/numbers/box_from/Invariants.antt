use Rattle.std.proofs.Common.{◌≡◌, ◌++◌, length, take, drop, map}
use Rattle.std.specs.List.{list_all}
use Rattle.node.specs.Numbers.{is_entry, entry_from}
use Rattle.node.proofs.numbers.box_from.Given as goal

abbrev pub invariant-loop-i : goal.invariant-loop-i
invariant-loop-i l =
    (length l.places ≡ 30)
    × (take l.i l.places ++ map entry_from (drop l.i l.rows) ≡ map entry_from l.rows)
    × (list_all is_entry (drop l.i l.rows) ≡ list_all is_entry l.rows)
