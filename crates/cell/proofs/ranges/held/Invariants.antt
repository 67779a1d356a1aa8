use Rattle.std.proofs.Common.{◌≡◌, ◌-◌, ◌*◌, ◌≤◌, ◌&&◌, length, drop}
use Rattle.cell.specs.Parts.{held_under}
use Rattle.cell.proofs.ranges.held.Given as goal

abbrev pub invariant-loop-held : goal.invariant-loop-held
invariant-loop-held l = (2000000 * (length l.used - l.held-index) ≤ l.limit) × ((l.ok && held_under l.limit (drop l.held-index l.used)) ≡ held_under l.most l.used)
