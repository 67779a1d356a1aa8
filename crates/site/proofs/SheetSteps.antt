-- Laws of the sheet over a step: the amounts of whatever the site answers are within the limit. Assumes nothing.
use Rattle.std.specs.Prelude.{◌≡◌, refl, List, ℕ, ℤ, Ok, Err}
use Rattle.std.proofs.Common.{arith}
use Rattle.cell.specs.Answers.{Answer}
use Rattle.cell.specs.declared.Amounts.{Amounts}
use Rattle.cell.specs.declared.Card.{Card}
use Rattle.cell.specs.declared.Entry.{Entry}
use Rattle.cell.specs.Ranges.{row_width, cell_of}
use Rattle.cell.specs.Refusals.{amounts_of}
use Rattle.cell.proofs.AnswerLaws.{AmountsIn, amounts_in}
use Rattle.site.specs.Rows.{part_at}
use Rattle.site.specs.Site.{soil_width, site_answer}
use Rattle.site.proofs.SiteLaws.{row_answer}
use Rattle.site.specs.SheetLaws.{AmountsWithin}

-- amounts of a step are within the limit
pub step_within : (a : Amounts) → AmountsIn a → AmountsWithin a
step_within a h =
    record {
      inflow = omega (arith, h.inflow);
      runoff = omega (arith, h.runoff);
      etvad = omega (arith, h.plants);
      etstor = omega (arith, h.plants);
      etsat = omega (arith, h.plants);
      drain = omega (arith, h.drain);
      release = omega (arith, h.release);
      stored = omega (arith, h.stored);
      recharge = h.recharge;
      left = omega (arith, h.left);
    }

-- the amounts of whatever the site answers are within the limit
pub site_within : (card : Card) (soil : List ℤ) (rows : List ℕ) (i : Entry) → AmountsWithin (amounts_of (site_answer card soil rows i))
site_within card soil rows i = go (site_answer card soil rows i) refl
  where
    go : (x : Answer) → site_answer card soil rows i ≡ x → AmountsWithin (amounts_of x)
    go (Ok a) e = step_within a (amounts_in card (part_at soil_width (cell_of i) soil) (part_at (row_width card) (cell_of i) rows) i a (row_answer card soil rows i a e))
    go (Err why) e =
        record {
          inflow = omega arith;
          runoff = omega arith;
          etvad = omega arith;
          etstor = omega arith;
          etsat = omega arith;
          drain = omega arith;
          release = omega arith;
          stored = omega arith;
          recharge = omega arith;
          left = omega arith;
        }
