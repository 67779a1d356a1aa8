use Rattle.std.proofs.Common.{◌≡◌, ◌+◌, ◌-◌, ◌≤◌, ◌++◌, take, drop}
use Rattle.cell.specs.Queue.{total, taken, spared}
use Rattle.cell.proofs.queue.draw.Given as goal

abbrev pub invariant-loop-slot : goal.invariant-loop-slot
invariant-loop-slot l = (l.want ≤ l.asked) × (take l.slot-index l.slots ++ spared l.want (drop l.slot-index l.slots) ≡ spared l.asked l.initial.slots) × (l.asked - l.want + total (taken l.want (drop l.slot-index l.slots)) ≡ total (taken l.asked l.initial.slots))
