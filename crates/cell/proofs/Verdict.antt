-- The verdict from what the code is told of a row, once checks 1 and 4 are passed: whether it is in range under a number of delays that is, its life and its next count; of the soil it is told the numbers by their names. Assumes nothing.
use Rattle.std.proofs.Common.{◌≡◌, ◌∙◌, Bool, true, ◌&&◌, List, ℕ, le-leb, leb, ℤ}
use Rattle.cell.specs.Answers.{Verdict}
use Rattle.cell.specs.declared.Card.{Card}
use Rattle.cell.specs.declared.Entry.{Entry}
use Rattle.cell.specs.declared.ranges.Soil.{Soil}
use Rattle.cell.specs.RangeLaws.{card_in}
use Rattle.cell.specs.Ranges.{card_ok, soil_ok, soil_of, row_ok, life_of, next_of}
use Rattle.cell.specs.Refusals.{unless, row_verdict, verdict_of}

pub verdict_is : (card : Card) (soil : List ℤ) (row : List ℕ) (e : Entry) {s : Soil} {fits : Bool} {life next : ℕ} {v : Verdict} → card_ok card ≡ true → (soil_ok soil ≡ true) × (s ≡ soil_of soil)
    → fits ≡ (leb card.delays 30 && row_ok card row) → life ≡ life_of row → next ≡ next_of row → v ≡ row_verdict s.top.0 fits life next e → v ≡ verdict_of card soil row e
unfolding verdict_of unless soil_of
verdict_is card soil row e g s is l n ev = ev ∙ rw (s.1, is, l, n, g, s.0, le-leb card.delays 30 (card_in card g).delays)
