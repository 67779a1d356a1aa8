-- [2] The delay was looked for from the shallow end; now it is from the deep end. The old search finds the same delay, over every list of depths. Assumes nothing.
use Rattle.std.specs.Prelude.{◌≡◌, cond, List, ℕ, zero, suc, ◌+◌, leb, get_or}
use Rattle.std.proofs.Common.{arith}
use Rattle.cell.specs.Rules.{reach_of}

-- the search as it was, k depths looked at and so many left to go: each that is at most n takes the place of what was found
unfoldable pub shallow_first : List ℕ → ℕ → ℕ → ℕ → ℕ → ℕ
shallow_first depths n zero k found = found
shallow_first depths n (suc left) k found = shallow_first depths n left (suc k) (cond (leb (get_or depths k 0) n) (suc k) found)

-- from the delay among the first k depths it comes to the delay among them all
from_place : (depths : List ℕ) (n left k : ℕ) → shallow_first depths n left k (reach_of depths k n) ≡ reach_of depths (left + k) n
unfolding shallow_first reach_of
from_place depths n zero k = let e : 0 + k ≡ k = omega arith in rw e
from_place depths n (suc left) k = let e : suc left + k ≡ left + suc k = omega arith in rw e (from_place depths n left (suc k))

-- so it finds what the search from the deep end does by its contract: rising or not, the delay is the same
pub same_delay : (depths : List ℕ) (m n : ℕ) → shallow_first depths n m 0 0 ≡ reach_of depths m n
unfolding reach_of
same_delay depths m n = let e : m + 0 ≡ m = omega arith in rw e at (from_place depths n m 0)
