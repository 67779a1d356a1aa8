use Rattle.std.proofs.Common.{◌≡◌, Bool, true, Float, refl, sym, ◌∙◌}
use Rattle.std.specs.Float.{binary32}
use Rattle.std.specs.Float.Ieee.{fits, eq, neg, of_bits}
use Rattle.head.specs.Level.{usable}
use Rattle.head.specs.Class.{pick_head, class_of}
use Rattle.head.specs.declared.Head.TheVariants.{Level, Dry, Inactive, Unusable}
use Rattle.head.proofs.Range.{held}
use Rattle.head.proofs.Marks.{dry_test, inactive_test}
use Rattle.head.proofs.classify.Goals as goal

-- `class_of` at the answers of its three tests, the first two as the code makes them
class_is : (x : Float) → fits binary32 x ≡ true → {a b u : Bool} → eq x (neg (of_bits binary32 0x7149f2ca)) ≡ a → eq x (of_bits binary32 0x7149f2ca) ≡ b → usable x ≡ u
    → pick_head a Dry (pick_head b Inactive (pick_head u (Level x) Unusable)) ≡ class_of x
unfolding class_of
class_is x f p q r = simp (dry_test x (held x f) ∙ p, inactive_test x (held x f) ∙ q, r)

pub returns-then-x : goal.returns-then-x
returns-then-x c = class_is c.args.x c.well_formed.0.1 c.if-x.true refl refl

pub returns-then-x-2 : goal.returns-then-x-2
returns-then-x-2 c = class_is c.args.x c.well_formed.0.1 c.if-x.false c.if-x-2.true refl

pub returns-then-usable : goal.returns-then-usable
returns-then-usable c = class_is c.args.x c.well_formed.0.1 c.if-x.false c.if-x-2.false (sym c.if-usable.ensures)

pub returns : goal.returns
returns c = class_is c.args.x c.well_formed.0.1 c.if-x.false c.if-x-2.false (sym c.if-usable.ensures)
