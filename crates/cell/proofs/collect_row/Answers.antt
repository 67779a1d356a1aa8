use Rattle.std.proofs.Common.{arith, ◌≡◌, sym, ◌∙◌, Bool, true, ◌&&◌, List, le-leb, leb, ℕ}
use Rattle.cell.specs.declared.Card.{Card}
use Rattle.cell.specs.Ranges.{card_ok, row_ok}
use Rattle.cell.specs.RangeLaws.{card_in, row_in}
use Rattle.cell.specs.CollectLaws.{collect_card, collect_row, collect_done}
use Rattle.cell.proofs.collect_row.Goals as goal

-- `cell::collect_row` meets its contract. Assumes nothing.
-- under a card in range, what the row's check says
row_by : (card : Card) (row : List ℕ) → card_ok card ≡ true → {fits : Bool} → fits ≡ (leb card.delays 30 && row_ok card row) → row_ok card row ≡ fits
row_by card row p e = sym (e ∙ rw (le-leb card.delays 30 (card_in card p).delays))

pub returns-then-not-card_ok : goal.returns-then-not-card_ok
returns-then-not-card_ok c =
    let a = c.args in
    collect_card a.card a.row.now (sym c.card_ok.ensures ∙ c.if-not-card_ok.true)

pub returns-then-not-row_ok : goal.returns-then-not-row_ok
returns-then-not-row_ok c =
    let a = c.args in
    let p = sym c.card_ok.ensures ∙ c.if-not-card_ok.false in
    collect_row a.card a.row.now p (row_by a.card a.row.now p c.row_ok.ensures ∙ c.if-not-row_ok.true)

pub empty-requires : goal.empty-requires
empty-requires c =
    let a = c.args in
    let p = sym c.card_ok.ensures ∙ c.if-not-card_ok.false in
    omega (arith, (row_in a.card a.row.now (row_by a.card a.row.now p c.row_ok.ensures ∙ c.if-not-row_ok.false)).long)

pub returns : goal.returns
returns c =
    let a = c.args in
    let p = sym c.card_ok.ensures ∙ c.if-not-card_ok.false in
    collect_done a.card a.row.now p (row_by a.card a.row.now p c.row_ok.ensures ∙ c.if-not-row_ok.false) c.of-runoff.ensures c.of-drain.ensures c.empty.ensures
