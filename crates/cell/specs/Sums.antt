-- [6] Sums that a row keeps until they are collected: runoff and drainage since collection, each a high and a low number of 32 bits. Definitions only.
use Rattle.std.specs.Prelude.{ℕ, ◌+◌, ◌*◌, ◌/◌, ◌%◌, Bool, ◌&&◌, List, eqb, get_or, set}

-- what every form of a row begins with: life, next count and 30 slots
abbrev pub front_width : ℕ
front_width = 32

-- where the two sums stand, after the slots: the high number of each, and its low one next to it
abbrev pub runoff_at : ℕ
runoff_at = 32

abbrev pub drain_at : ℕ
drain_at = 34

-- the numbers of both sums
abbrev pub sum_numbers : ℕ
sum_numbers = 4

-- no sum is above 10^18
abbrev pub sum_limit : ℕ
sum_limit = 1000000000000000000

-- the sum at a place of a row; a number that the row does not have counts as 0
unfoldable pub sum_of : ℕ → List ℕ → ℕ
sum_of at row = get_or row at 0 * 4294967296 + get_or row (at + 1) 0

-- the row with n as the sum at that place
unfoldable pub with_sum : ℕ → ℕ → List ℕ → List ℕ
with_sum at n row = set (set row at (n / 4294967296)) (at + 1) (n % 4294967296)

-- the row with n more there
unfoldable pub added : ℕ → ℕ → List ℕ → List ℕ
added at n row = with_sum at (sum_of at row + n) row

-- the row with both sums at 0
unfoldable pub emptied : List ℕ → List ℕ
emptied row = with_sum drain_at 0 (with_sum runoff_at 0 row)

-- both sums are 0
unfoldable pub no_sums : List ℕ → Bool
no_sums row = eqb (sum_of runoff_at row) 0 && eqb (sum_of drain_at row) 0
