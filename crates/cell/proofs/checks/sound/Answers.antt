use Rattle.head.specs.LevelLaws.{level_small}
use Rattle.cell.specs.Refusals.{sounded}
use Rattle.cell.proofs.checks.sound.Goals as goal

pub depth_at-requires : goal.depth_at-requires
depth_at-requires c =
    (c.requires, rw c.level_um.ensures (level_small _))

pub returns-in-Unusable : goal.returns-in-Unusable
unfolding sounded
returns-in-Unusable c =
    rw c.in-Unusable.is

pub returns-in-Inactive : goal.returns-in-Inactive
unfolding sounded
returns-in-Inactive c =
    rw c.in-Inactive.is

pub returns-in-Dry : goal.returns-in-Dry
unfolding sounded
returns-in-Dry c =
    rw c.in-Dry.is

pub returns-in-Level : goal.returns-in-Level
unfolding sounded
returns-in-Level c =
    rw (c.in-Level.is, c.depth_at.ensures, c.level_um.ensures)
