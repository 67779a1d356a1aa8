-- The amounts of water of a step, held against a limit. Definitions only.
use Rattle.std.specs.Prelude.{ℕ, Bool, ◌&&◌, leb}
use Rattle.cell.specs.declared.Amounts.{Amounts}

-- no amount of water is above so many µm
abbrev pub waters_within : ℕ → Amounts → Bool
waters_within most a =
    leb a.inflow.0 most
    && leb a.runoff.0 most
    && leb a.etvad.0 most
    && leb a.etstor.0 most
    && leb a.etsat.0 most
    && leb a.drain.0 most
    && leb a.release.0 most
    && leb a.stored.0 most
    && leb a.left.0 most
