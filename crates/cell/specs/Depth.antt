-- Where the water table stands. Definitions only.
use Rattle.std.specs.Prelude.{ℕ, zero, suc, ℤ, pos, negsuc, ◌-ℤ◌}
use Rattle.cell.specs.declared.Depth.{Depth}
use Rattle.cell.specs.declared.Depth.TheVariants.{Over, Under}

-- a depth d by its side: d <= 0 is Over (-d), d > 0 is Under d
unfoldable pub sided : ℤ → Depth
sided (pos zero) = Over 0
sided (pos (suc n)) = Under (suc n)
sided (negsuc n) = Over (suc n)

-- d = top - level
unfoldable pub depth_of : ℤ → ℤ → Depth
depth_of top level = sided (top -ℤ level)

-- dry means d = 20,000,000,000
abbrev pub dry_depth : Depth
dry_depth = Under 20000000000

-- the size of d
unfoldable pub distance : Depth → ℕ
distance (Over n) = n
distance (Under n) = n
