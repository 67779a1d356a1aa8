use Rattle.std.proofs.Common.{arith}
use borrow.Author.Tests.{lt-leb}
use Rattle.cell.specs.Rules.{storm_of}
use Rattle.cell.specs.RuleLaws.{storm_le}
use Rattle.cell.proofs.rules.storm.Goals as goal

pub returns-clause-result_value : goal.returns-clause-result_value
unfolding storm_of
returns-clause-result_value c =
    simp (lt-leb _ _ c.if-p-s.false)

pub returns-clause-result_le_rain : goal.returns-clause-result_le_rain
unfolding storm_of
returns-clause-result_le_rain c =
    omega (arith, storm_le c.args.share c.args.c c.args.rain.0, returns-clause-result_value c)
