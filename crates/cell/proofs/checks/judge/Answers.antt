use Rattle.std.proofs.Common.{◌≡◌, refl, sym, ◌∙◌, Bool, not, ℕ, ℤ}
use Rattle.head.specs.Class.{class_of}
use Rattle.cell.specs.declared.Entry.{Entry}
use Rattle.cell.specs.declared.Reading.{Reading}
use Rattle.cell.specs.declared.Refusal.TheVariants.{BadRow, Old, Gap, BadReading, JammedBucket}
use Rattle.cell.specs.Ranges.{fields_ok, noticed}
use Rattle.cell.specs.Refusals.{is_old, is_gap, is_jammed, sounded, unless, fields_verdict, row_verdict}
use Rattle.cell.proofs.checks.judge.Goals as goal

-- `cell::checks::judge` meets its contract. Each refusal is the verdict by the checks that led to it. Assumes nothing.
module _ (top : ℤ) (fits : Bool) (life next : ℕ) (r : Reading) where
  by_checks : {a b c d e : Bool} → fits ≡ a → is_old life next (noticed r) ≡ b → is_gap life next (noticed r) ≡ c → fields_ok r ≡ d → is_jammed r ≡ e
      → unless a BadRow (unless (not b) Old (unless (not c) Gap (unless d BadReading (unless (not e) JammedBucket (sounded top (class_of r.head))))))
      ≡ row_verdict top fits life next (Entry.Reading r)
  unfolding fields_verdict
  by_checks p q s t u = rw (p, q, s, t, u)

pub returns-then-not-fits : goal.returns-then-not-fits
unfolding unless
returns-then-not-fits c =
    let s = c.args in
    by_checks s.top.0 s.fits s.life s.next s.r (c.if-not-fits.true) refl refl refl refl

pub returns-then-is_old : goal.returns-then-is_old
unfolding unless
returns-then-is_old c =
    let s = c.args in
    by_checks s.top.0 s.fits s.life s.next s.r (c.if-not-fits.false) (sym c.is_old.ensures ∙ c.if-is_old.true) refl refl refl

pub returns-then-is_gap : goal.returns-then-is_gap
unfolding unless
returns-then-is_gap c =
    let s = c.args in
    by_checks s.top.0 s.fits s.life s.next s.r (c.if-not-fits.false) (sym c.is_old.ensures ∙ c.if-is_old.false) (sym c.is_gap.ensures ∙ c.if-is_gap.true) refl refl

pub returns-then-not-fields_ok : goal.returns-then-not-fields_ok
unfolding unless
returns-then-not-fields_ok c =
    let s = c.args in
    by_checks s.top.0 s.fits s.life s.next s.r (c.if-not-fits.false) (sym c.is_old.ensures ∙ c.if-is_old.false) (sym c.is_gap.ensures ∙ c.if-is_gap.false) (sym c.fields_ok.ensures ∙ c.if-not-fields_ok.true) refl

pub returns-then-is_jammed : goal.returns-then-is_jammed
unfolding unless
returns-then-is_jammed c =
    let s = c.args in
    by_checks s.top.0 s.fits s.life s.next s.r (c.if-not-fits.false) (sym c.is_old.ensures ∙ c.if-is_old.false) (sym c.is_gap.ensures ∙ c.if-is_gap.false) (sym c.fields_ok.ensures ∙ c.if-not-fields_ok.false) (sym c.is_jammed.ensures ∙ c.if-is_jammed.true)

pub returns : goal.returns
unfolding unless
returns c =
    let s = c.args in
    rw (c.sound.ensures, c.classify.ensures)
    (by_checks s.top.0 s.fits s.life s.next s.r (c.if-not-fits.false) (sym c.is_old.ensures ∙ c.if-is_old.false) (sym c.is_gap.ensures ∙ c.if-is_gap.false) (sym c.fields_ok.ensures ∙ c.if-not-fields_ok.false) (sym c.is_jammed.ensures ∙ c.if-is_jammed.false))
