-- Amounts of water in the records of the code. Definitions only.
use Rattle.std.specs.Prelude.{ℕ, ℤ}
use Rattle.cell.specs.declared.Water.{Water}
use Rattle.cell.specs.declared.Net.{Net}

abbrev pub water : ℕ → Water
water n = record { 0 = n }

abbrev pub net : ℤ → Net
net z = record { 0 = z }
