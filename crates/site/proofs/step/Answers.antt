use native.Mathlib.Omega.{arith}
use mathlib.Core.Path.{◌≡◌, refl, sym, ap, ◌∙◌}
use mathlib.Core.Bool.{true, false, ◌&&◌}
use mathlib.Core.List.{List, ◌++◌}
use Prim.Native.Nat.{ℕ, ◌+◌, ◌-◌, ◌*◌, ◌≤◌, ◌<◌}
use borrow.Author.Tests.{eq-eqb, ne_eqb, lt-ltb, le-ltb}
use borrow.Rule.Slice.PartMut.{put_mid, Post-is}
use lib.IntN.{ℤ}
use lib.ListN.{length, take, drop}
use Rattle.cell.specs.Answers.{Answer}
use Rattle.cell.specs.declared.Card.{Card}
use Rattle.cell.specs.declared.Entry.{Entry}
use Rattle.cell.specs.Ranges.{row_width, cell_of}
use Rattle.cell.specs.Step.{StepGives}
use Rattle.site.specs.Rows.{part_at, put_at}
use Rattle.site.specs.Site.{soil_fits, rows_fit, cell_fits, SiteGives}
use Rattle.site.proofs.SiteLaws.{gives, lengths_bad, cell_bad, reached, rows_reached, refused_gives}
use Rattle.site.proofs.step.Goals as goal

-- `site::step` meets its contract. Refused by check 2 or 3, or what the named row gives, put back in its place. Assumes nothing.
-- the tests of the code are those of checks 2 and 3
module _ (card : Card) (soil : List ℤ) (rows : List ℕ) where
  soil_off : ¬ (length soil ≡ 5 * card.cells) → (soil_fits card soil && rows_fit card rows) ≡ false
  unfolding soil_fits
  soil_off n = rw (ne_eqb _ _ n)

  rows_off : length soil ≡ 5 * card.cells → ¬ (length rows ≡ row_width card * card.cells) → (soil_fits card soil && rows_fit card rows) ≡ false
  unfolding soil_fits rows_fit
  rows_off e n = rw (eq-eqb _ _ e, ne_eqb _ _ n)

  both_fit : length soil ≡ 5 * card.cells → length rows ≡ row_width card * card.cells → (soil_fits card soil && rows_fit card rows) ≡ true
  unfolding soil_fits rows_fit
  both_fit e f = rw (eq-eqb _ _ e, eq-eqb _ _ f)

-- the cell that the code has is the entry's
cell_off : (card : Card) (i : Entry) {k : ℕ} → k ≡ cell_of i → card.cells ≤ k → cell_fits card i ≡ false
unfolding cell_fits
cell_off card i ek h = rw (← ek) (le-ltb _ _ h)

cell_on : (card : Card) (i : Entry) {k : ℕ} → k ≡ cell_of i → k < card.cells → cell_fits card i ≡ true
unfolding cell_fits
cell_on card i ek h = rw (← ek) (lt-ltb _ _ h)

-- what the named row gave, put back in its place
module _ (card : Card) (soil : List ℤ) (rows : List ℕ) (i : Entry) (e : (soil_fits card soil && rows_fit card rows) ≡ true) (f : cell_fits card i ≡ true) where
  -- over rows of w numbers
  row_gave : (w : ℕ) → w ≡ row_width card → (k : ℕ) → k ≡ cell_of i → (answer : Answer) (after : List ℕ)
      → StepGives card (take (5 * k + 5 - 5 * k) (drop (5 * k) soil)) (take (w * k + w - w * k) (drop (w * k) rows)) i answer after
      → SiteGives card soil rows i answer (put_mid (w * k) (w * k + w - w * k) rows after)
  unfolding part_at put_at
  row_gave w ew k ek answer after g =
      let s : 5 * k + 5 - 5 * k ≡ 5 = omega arith in
      let u : w * k + w - w * k ≡ w = omega arith in
      let h : StepGives card (part_at 5 (cell_of i) soil) (part_at (row_width card) (cell_of i) rows) i answer after = rw (s, u, ek, ew) at g in
      gives card soil rows i
      (h.answer_is ∙ sym (reached card soil rows i e f))
      (ap (λ (t : List ℕ). take (w * k) rows ++ (after ++ t)) (Post-is (w * k) (w * k + w) rows (omega arith))
      ∙ ap (λ (v : ℕ). put_at v k after rows) ew
      ∙ ap (λ (c : ℕ). put_at (row_width card) c after rows) ek
      ∙ ap (λ (t : List ℕ). put_at (row_width card) (cell_of i) t rows) h.row_is
      ∙ sym (rows_reached card soil rows i e f))

pub returns-then-soil-cells : goal.returns-then-soil-cells
returns-then-soil-cells c =
    let a = c.args in
    rw c.refused.ensures (refused_gives a.card a.soil.now a.rows.now a.e _ (lengths_bad a.card a.soil.now a.rows.now a.e (soil_off _ _ _ c.if-soil-cells.true)))

pub returns-then-rows-cells : goal.returns-then-rows-cells
returns-then-rows-cells c =
    let a = c.args in
    rw c.refused-then-rows-cells.ensures (refused_gives a.card a.soil.now a.rows.now a.e _ (lengths_bad a.card a.soil.now a.rows.now a.e (rows_off _ _ _ c.if-soil-cells.false c.if-rows-cells.true)))

pub returns-then-cells-cell : goal.returns-then-cells-cell
returns-then-cells-cell c =
    let a = c.args in
    rw c.refused-then-cells-cell.ensures (refused_gives a.card a.soil.now a.rows.now a.e _ (cell_bad a.card a.soil.now a.rows.now a.e (both_fit _ _ _ c.if-soil-cells.false c.if-rows-cells.false) (cell_off _ _ c.cell_of-cell.ensures c.if-cells-cell.true)))

pub slice_bounds-step_row-end : goal.slice_bounds-step_row-end
slice_bounds-step_row-end c =
    omega arith

pub slice_bounds-step_row-end-2 : goal.slice_bounds-step_row-end-2
slice_bounds-step_row-end-2 c =
    omega arith

pub returns : goal.returns
returns c =
    let a = c.args in
    row_gave a.card a.soil.now a.rows.now a.e (both_fit _ _ _ c.if-soil-cells.false c.if-rows-cells.false) (cell_on _ _ c.cell_of-cell.ensures c.if-cells-cell.false) (row_width a.card) refl c.cell_of-cell.result c.cell_of-cell.ensures c.step_row.result c.step_row.new.row c.step_row.ensures
