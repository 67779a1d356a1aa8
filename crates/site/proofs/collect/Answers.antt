use native.Mathlib.Omega.{arith}
use mathlib.Core.Path.{◌≡◌, refl, ap, sym, ◌∙◌}
use mathlib.Core.Bool.{true}
use mathlib.Core.List.{List, ◌++◌}
use Prim.Native.Nat.{ℕ, ◌+◌, ◌-◌, ◌*◌}
use borrow.Author.Tests.{eq-eqb, ne_eqb, lt-ltb, le-ltb}
use borrow.Rule.Slice.PartMut.{put_mid, Post-is}
use lib.Dec.{ltb}
use lib.ListN.{take, drop}
use Rattle.cell.specs.declared.Card.{Card}
use Rattle.std.specs.Prelude.{Result}
use Rattle.cell.specs.declared.Refusal.{Refusal}
use Rattle.cell.specs.declared.Collected.{Collected}
use Rattle.cell.specs.Collect.{CollectGives}
use Rattle.cell.specs.Ranges.{card_ok, row_width}
use Rattle.site.specs.Rows.{part_at, put_at}
use Rattle.site.specs.Site.{rows_fit}
use Rattle.site.specs.Forms.{SumsGive}
use Rattle.site.specs.FormLaws.{collect_bad_card, collect_bad_length, collect_bad_cell, collect_reached}
use Rattle.site.proofs.collect.Goals as goal

-- `site::collect` meets its contract. Refused by check 1, 2 or 3, or what the named row gives, put back in its place. Assumes nothing.
-- what the named row gave, put back in its place, over rows of w numbers
row_gave : (card : Card) (rows : List ℕ) (k : ℕ) → card_ok card ≡ true → rows_fit card rows ≡ true → ltb k card.cells ≡ true → (w : ℕ) → w ≡ row_width card → (got : Result Collected Refusal) (after : List ℕ)
    → CollectGives card (take (w * k + w - w * k) (drop (w * k) rows)) got after → SumsGive card rows k got (put_mid (w * k) (w * k + w - w * k) rows after)
unfolding part_at put_at
row_gave card rows k p q s w ew got after g =
    let u : w * k + w - w * k ≡ w = omega arith in
    let h : CollectGives card (part_at (row_width card) k rows) got after = rw (u, ew) at g in
    let put : put_mid (w * k) (w * k + w - w * k) rows after ≡ put_at (row_width card) k after rows =
    ap (λ (t : List ℕ). take (w * k) rows ++ (after ++ t)) (Post-is (w * k) (w * k + w) rows (omega arith)) ∙ ap (λ (v : ℕ). put_at v k after rows) ew in
    rw put (collect_reached card rows k p q s h)

pub returns-then-not-card_ok : goal.returns-then-not-card_ok
returns-then-not-card_ok c =
    let a = c.args in
    collect_bad_card a.card a.rows.now a.cell (sym c.card_ok.ensures ∙ c.if-not-card_ok.true)

pub returns-then-rows-cells : goal.returns-then-rows-cells
unfolding rows_fit
returns-then-rows-cells c =
    let a = c.args in
    collect_bad_length a.card a.rows.now a.cell (sym c.card_ok.ensures ∙ c.if-not-card_ok.false) (ne_eqb _ _ c.if-rows-cells.true)

pub returns-then-cells-c : goal.returns-then-cells-c
unfolding rows_fit
returns-then-cells-c c =
    let a = c.args in
    collect_bad_cell a.card a.rows.now a.cell (sym c.card_ok.ensures ∙ c.if-not-card_ok.false) (eq-eqb _ _ c.if-rows-cells.false) (le-ltb _ _ c.if-cells-c.true)

pub returns : goal.returns
unfolding rows_fit
returns c =
    let a = c.args in
    row_gave a.card a.rows.now a.cell (sym c.card_ok.ensures ∙ c.if-not-card_ok.false) (eq-eqb _ _ c.if-rows-cells.false) (lt-ltb _ _ c.if-cells-c.false) (row_width a.card) refl c.collect_row.result c.collect_row.new.row c.collect_row.ensures
