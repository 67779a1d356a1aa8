use Rattle.std.proofs.Common.{◌≡◌, ℕ, ◌≤◌, Bool, true, false, leb, leb-true, leb-false, refl, sym}
use Rattle.cell.specs.Ranges.{counts_ok}
use Rattle.cell.specs.RangeLaws.{counts_ok_lem, no_cells, many_cells, many_delays}
use Rattle.text.proofs.card.counts_ok.Goals as goal

-- with the cells in range the delays decide
few_delays : (cells delays : ℕ) → 1 ≤ cells → cells ≤ 256 → leb delays 30 ≡ counts_ok cells delays
few_delays cells delays a b = go (leb delays 30) refl
  where
    go : (x : Bool) → leb delays 30 ≡ x → x ≡ counts_ok cells delays
    go true e = sym (counts_ok_lem cells delays a b (leb-true delays 30 e))
    go false e = sym (many_delays cells delays (leb-false delays 30 e))

pub returns-then-cells-lt1 : goal.returns-then-cells-lt1
returns-then-cells-lt1 c =
    sym (no_cells _ _ c.if-cells-lt1.true)

pub returns-then-cells-gt256 : goal.returns-then-cells-gt256
returns-then-cells-gt256 c =
    sym (many_cells _ _ c.if-cells-gt256.true)

pub returns : goal.returns
returns c =
    few_delays c.args.cells c.args.delays c.if-cells-lt1.false c.if-cells-gt256.false
