use Rattle.std.proofs.Common.{◌∙◌}
use Rattle.cell.proofs.Parts.{lack_small, settling, putting, queue_is, amounts_are}
use Rattle.cell.proofs.step.Day.turn.Goals as goal

pub pull-p-requires : goal.pull-p-requires
pull-p-requires c =
    lack_small c.args.self.now.checked c.args.slots.now c.requires.slots_used c.requires.slots_in c.requires.wetting

pub settle-s-requires : goal.settle-s-requires
settle-s-requires c =
    settling c.args.self.now.checked c.args.slots.now c.requires.slots_used c.requires.slots_in c.requires.wetting c.pull-p.ensures

pub put-left-requires : goal.put-left-requires
put-left-requires c =
    putting c.args.self.now.checked c.args.slots.now c.requires.slots_used c.requires.slots_in c.requires.wetting c.pull-p.ensures c.settle-s.ensures

pub returns-clause-amounts : goal.returns-clause-amounts
returns-clause-amounts c =
    c.gathered.ensures ∙ amounts_are c.args.self.now.checked c.args.slots.now c.requires.slots_used c.requires.slots_in c.requires.wetting c.pull-p.ensures c.settle-s.ensures c.put-left.ensures

pub returns-clause-queue : goal.returns-clause-queue
returns-clause-queue c =
    queue_is c.args.self.now.checked c.args.slots.now c.requires.slots_used c.requires.slots_in c.requires.wetting c.pull-p.ensures c.settle-s.ensures c.put-left.ensures
