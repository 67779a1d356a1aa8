-- A sheet to which the site added an answer. Assumes nothing.
use Rattle.std.specs.Prelude.{Ok}
use mathlib.Core.Path.{◌≡◌, refl, sym, ap, ◌∙◌}
use mathlib.Core.Bool.{Bool, true, false}
use native.Mathlib.Omega.{arith}
use Rattle.cell.specs.declared.Amounts.{Amounts}
use Rattle.cell.specs.Refusals.{not_addable}
use Rattle.site.specs.declared.Added.{Added}
use Rattle.site.specs.declared.Sheet.{Sheet}
use Rattle.site.specs.Sheet.{addable, added_of}
use Rattle.site.specs.SheetLaws.{SheetIn, sheet_added, takes_in, added_refused}

-- a sheet to which an answer was added is one that adding has made
pub added_in : (s : Sheet) (a : Amounts) → (added_of s (Ok a)).number ≡ 0 → SheetIn (added_of s (Ok a)).sheet
added_in s a z = go (addable s (Ok a)) refl
  where
    go : (b : Bool) → addable s (Ok a) ≡ b → SheetIn (added_of s (Ok a)).sheet
    go true e = let t = takes_in s a e in sheet_added s (Ok a) (record { steps = omega (arith, t.steps); sums = t.sums })
    go false e = absurd (let n : not_addable ≡ 0 = sym (ap (λ (x : Added). x.number) (added_refused s (Ok a) e)) ∙ z in omega arith)
