-- [6] What the parts of a move's code give. Nothing here says what is right: `Moves` has that.
use Rattle.std.specs.Prelude.{ℕ, Bool, cond, ◌&&◌, eqb, leb, Result, Ok, Err}
use Rattle.cell.specs.declared.Card.{Card}
use Rattle.cell.specs.declared.Refusal.{Refusal}
use Rattle.cell.specs.declared.Refusal.TheVariants.{BadCard, BadLengths}
use Rattle.cell.specs.Ranges.{card_ok}
use Rattle.site.specs.declared.Sheet.{Sheet}

-- a check that fails with e
abbrev pub passed : {E : Type 0} → Bool → E → Result (Unit {0}) E
passed b e = cond b (Ok tt) (Err e)

-- check 1, and 2 for two slices: how long each is, and how long it is by the card
abbrev pub fitting : Card → ℕ → ℕ → ℕ → ℕ → Result (Unit {0}) Refusal
fitting card from from' to to' = cond (card_ok card) (passed (eqb from from' && eqb to to') BadLengths) (Err BadCard)

-- no sum of water of a sheet is above so many µm
abbrev pub waters_within : ℕ → Sheet → Bool
waters_within most s =
    leb s.inflow.0 most
    && leb s.runoff.0 most
    && leb s.etvad.0 most
    && leb s.etstor.0 most
    && leb s.etsat.0 most
    && leb s.drain.0 most
    && leb s.release.0 most
    && leb s.stored.0 most
