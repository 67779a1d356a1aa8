use Rattle.std.proofs.Common.{refl, sym}
use Rattle.head.proofs.Nans.{pattern_is}
use Rattle.head.proofs.pattern_of.Goals as goal

pub returns-then-not-is_nan : goal.returns-then-not-is_nan
returns-then-not-is_nan c = pattern_is c.args.h (sym c.if-not-is_nan.ensures.value) refl

pub returns-then-is_nan_pattern : goal.returns-then-is_nan_pattern
returns-then-is_nan_pattern c = pattern_is c.args.h (sym c.if-not-is_nan.ensures.value) (sym c.if-is_nan_pattern.ensures)

pub returns-else-is_nan_pattern : goal.returns-else-is_nan_pattern
returns-else-is_nan_pattern c = pattern_is c.args.h (sym c.if-not-is_nan.ensures.value) (sym c.if-is_nan_pattern.ensures)
