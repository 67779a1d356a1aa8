-- Two notices are alike, as the code's comparison has it. Assumes nothing.
use Rattle.std.specs.Prelude.{◌≡◌, Bool, true, false, not, ◌&&◌, eqb}
use Rattle.std.proofs.Common.{refl, sym, ap, ◌∙◌}
use Rattle.std.proofs.lemmas.Bool.{not-true, not-false}
use Rattle.std.proofs.Math.Bool.{and_assoc}
use Rattle.cell.specs.declared.Notice.{Notice}
use Rattle.outbox.specs.Outbox.{same}

pub same_by : {r : Bool} (a b : Notice) → r ≡ (eqb a.cell b.cell && (eqb a.life b.life && eqb a.count b.count)) → r ≡ same a b
unfolding same
same_by a b e = e ∙ sym (and_assoc (eqb a.cell b.cell) (eqb a.life b.life) (eqb a.count b.count))

pub unlike_by : {r : Bool} (a b : Notice) → r ≡ not (eqb a.cell b.cell && (eqb a.life b.life && eqb a.count b.count)) → r ≡ true → same a b ≡ false
unlike_by a b e t = not-true (same a b) (ap not (sym (same_by a b refl)) ∙ sym e ∙ t)

pub alike_by : {r : Bool} (a b : Notice) → r ≡ not (eqb a.cell b.cell && (eqb a.life b.life && eqb a.count b.count)) → r ≡ false → same a b ≡ true
alike_by a b e t = not-false (same a b) (ap not (sym (same_by a b refl)) ∙ sym e ∙ t)
