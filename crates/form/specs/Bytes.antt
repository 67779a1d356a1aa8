-- A quoted text as its bytes. Definitions only.
use Rattle.std.specs.Prelude.{ℕ, List, [], ◌∷◌}
use Prim.Native.Char.{code}
use Prim.Native.String.{String, [] as nothing, ◌∷◌ as ◌before◌}

abbrev pub bytes : String → List ℕ
bytes nothing = []
bytes (c before t) = code c ∷ bytes t
