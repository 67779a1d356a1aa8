-- The waiting queue of one plot: the list of its slots 1 .. M, in that order. Definitions only.
use Rattle.std.specs.Prelude.{cond, List, [], ◌∷◌, ◌++◌, ℕ, zero, suc, ◌+◌, ◌-◌, min, eqb, get_or, set}

-- what stands in slot k; 0 where there is no slot k (k is 0 or above M)
unfoldable pub slot : List ℕ → ℕ → ℕ
slot q zero = 0
slot q (suc i) = get_or q i 0

-- f where the two numbers are one, else 0
abbrev pub just : ℕ → ℕ → ℕ → ℕ
just a b f = cond (eqb a b) f 0

-- what all slots hold together
unfoldable pub total : List ℕ → ℕ
total [] = 0
total (s ∷ q) = s + total q

-- 1. slot k + 1 becomes slot k, slot M becomes 0; slot 1 has left it
unfoldable pub shifted : List ℕ → List ℕ
shifted [] = []
shifted (s ∷ q) = q ++ (0 ∷ [])

-- 7. what is drawn for a lack from slots 1, 2, .. in that order, from each as far as it goes
unfoldable pub taken : ℕ → List ℕ → List ℕ
taken lack [] = []
taken lack (s ∷ q) = min lack s ∷ taken (lack - s) q

-- and what that leaves in them
unfoldable pub spared : ℕ → List ℕ → List ℕ
spared lack [] = []
spared lack (s ∷ q) = (s - lack) ∷ spared (lack - s) q

-- 10. f joins slot k; with k = 0 none
unfoldable pub joined : ℕ → ℕ → List ℕ → List ℕ
joined zero f q = q
joined (suc i) f q = set q i (get_or q i 0 + f)
