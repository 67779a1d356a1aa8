-- [6] Rows in another form: at one place of every row numbers are taken out, and zeros are put in. Definitions only.
use Rattle.std.specs.Prelude.{◌≡◌, Bool, true, cond, ◌&&◌, Result, Ok, Err, List, [], ◌∷◌, ◌++◌, ℕ, zero, suc, ◌+◌, ◌-◌, ◌*◌, ◌≤◌, eqb, length, take, drop, replicate}
use Rattle.cell.specs.declared.Card.{Card}
use Rattle.cell.specs.declared.Refusal.TheVariants.{BadCard, BadLengths, BadRow}
use Rattle.cell.specs.Ranges.{card_ok, form_ok}
use Rattle.cell.specs.Refusals.{refusal_number, first_failing, uncollected}
use Rattle.cell.specs.Sums.{no_sums}
use Rattle.cell.specs.Collect.{list_by}
use Rattle.site.specs.declared.moves.Unmoved.{Unmoved}
use Rattle.site.specs.declared.moves.Unmoved.TheVariants.{Refused, Uncollected}
use Rattle.site.specs.Rows.{part_at}

-- a row with `out` numbers at place p taken out, and `more` zeros put in there
unfoldable pub recut : ℕ → ℕ → ℕ → List ℕ → List ℕ
recut p out more row = take p row ++ (replicate more 0 ++ drop (p + out) row)

-- how long that leaves a row of w numbers
abbrev pub width_after : ℕ → ℕ → ℕ → ℕ
width_after w out more = w - out + more

-- the first n rows of a slice, w numbers each, so
unfoldable pub recut_all : ℕ → ℕ → ℕ → ℕ → ℕ → List ℕ → List ℕ
recut_all zero w p out more l = []
recut_all (suc n) w p out more l = recut_all n w p out more l ++ recut p out more (part_at w n l)

-- a test of each of the first n rows
unfoldable pub all_rows : (List ℕ → Bool) → ℕ → ℕ → List ℕ → Bool
all_rows ok zero w l = true
all_rows ok (suc n) w l = all_rows ok n w l && ok (part_at w n l)

-- a cut that a row of w numbers has room for
pub record Cut (w p out more : ℕ) : Type 0 where
  pub inside : p + out ≤ w
  pub small : w + more ≤ 1000

-- ---- a move from rows of w numbers to rows of v: 1; 2 for either slice; 5 for every row in order; and where every sum must be 0, 16
unfoldable pub move_number : ℕ → ℕ → Bool → Card → List ℕ → List ℕ → ℕ
move_number w v empty card from to =
    first_failing
    ((refusal_number BadCard, card_ok card)
    ∷ (refusal_number BadLengths, eqb (length from) (w * card.cells) && eqb (length to) (v * card.cells))
    ∷ (refusal_number BadRow, all_rows (form_ok card.delays) card.cells w from)
    ∷ (uncollected, cond empty (all_rows no_sums card.cells w from) true)
    ∷ [])

-- the number of what a move answers: 0, or why it was not made
abbrev pub unmoved_number : Unmoved → ℕ
unmoved_number (Refused why) = refusal_number why
unmoved_number Uncollected = uncollected

abbrev pub moved_number : Result (Unit {0}) Unmoved → ℕ
moved_number (Ok done) = 0
moved_number (Err why) = unmoved_number why

-- every row is cut anew; refused, the slice that is written stays as it came
pub record MoveGives (w p out more : ℕ) (empty : Bool) (card : Card) (from to : List ℕ) (number : ℕ) (after : List ℕ) : Type 0 where
  pub number_is : number ≡ move_number w (width_after w out more) empty card from to
  pub rows_are : after ≡ list_by (move_number w (width_after w out more) empty card from to) (recut_all card.cells w p out more from) to
