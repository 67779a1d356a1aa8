-- The gateway as built, seen from one plot: the site's row slice, and what `site::step` promises of a call. Definitions only.
use Rattle.std.specs.Prelude.{◌≡◌, Bool, true, false, ◌&&◌, List, ℕ, eqb, Ok, Err}
use Rattle.cell.specs.Answers.{Answer}
use Rattle.cell.specs.declared.Card.{Card}
use Rattle.cell.specs.Ranges.{life_of, next_of, cell_of}
use Rattle.site.specs.Site.{SiteGives}
use Rattle.account.specs.Run.{Call, row_of}
use Rattle.link.specs.Run.{Gateway}

abbrev pub accepts : Answer → Bool
accepts (Ok a) = true
accepts (Err why) = false

-- any answer and rows that meet the contract; a call of another plot is not accepted for this one
pub record Given (card : Card) (p : ℕ) (rows : List ℕ) (c : Call) (taken : Bool) (after : List ℕ) : Type 0 where
  pub answer : Answer
  pub gives : SiteGives card c.soil rows c.entry answer after
  pub taken_is : taken ≡ (eqb (cell_of c.entry) p && accepts answer)

abbrev pub site_gateway : Card → ℕ → Gateway
site_gateway card p =
    record {
      State = List ℕ;
      Call = Call;
      brings = λ c. c.entry;
      Gives = Given card p;
      life = λ rows. life_of (row_of card p rows);
      next = λ rows. next_of (row_of card p rows);
    }
