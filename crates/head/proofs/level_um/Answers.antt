use Rattle.std.proofs.Common.{sym, ◌∙◌, rules}
use Rattle.std.specs.Int.{w64}
use Rattle.std.proofs.lemmas.Int.{to_z-of_z}
use Rattle.head.proofs.Range.{held, no_nan}
use Rattle.head.proofs.Fields.{level_none, low_level, high_level, field_le}
use Rattle.head.proofs.level_um.Goals as goal

pub returns-then-not-usable : goal.returns-then-not-usable
returns-then-not-usable c = sym (level_none c.args.x (sym c.if-not-usable.ensures))

pub float_to_bits-bits : goal.float_to_bits-bits
float_to_bits-bits c = no_nan c.args.x (sym c.if-not-usable.ensures)

pub returns-then-field-eq0 : goal.returns-then-field-eq0
returns-then-field-eq0 c =
    to_z-of_z w64 c.floored.result (search rules)
    ∙ c.floored.ensures
    ∙ rw c.from-fraction.ensures (low_level c.args.x (held c.args.x c.well_formed.0.1) (sym c.if-not-usable.ensures) c.if-field-eq0.true)

pub overflow_sub-field : goal.overflow_sub-field
overflow_sub-field c = field_le c.args.x (held c.args.x c.well_formed.0.1) (sym c.if-not-usable.ensures) c.if-field-eq0.false

pub returns : goal.returns
returns c =
    to_z-of_z w64 c.floored-2.result (search rules)
    ∙ c.floored-2.ensures
    ∙ rw c.from-fraction.ensures (high_level c.args.x (held c.args.x c.well_formed.0.1) (sym c.if-not-usable.ensures) c.if-field-eq0.false)
