-- What an offer brings, as a list. Definitions only.
use Rattle.std.specs.Prelude.{List, [], ◌∷◌}
use Rattle.cell.specs.declared.Entry.{Entry}
use Rattle.outbox.specs.Outbox.{Offered, Oldest, Empty, BadForm}

-- what an offer brings: one entry or none
abbrev pub brought : Offered → List Entry
brought (Oldest e) = e ∷ []
brought Empty = []
brought BadForm = []
