-- A chain of tests, a && b && .. , tells each of them. Assumes nothing.
use Rattle.std.specs.Prelude.{◌≡◌, refl, Bool, true, ◌&&◌, List, [], ◌∷◌, ℕ, zero, suc, get_or}
use Rattle.std.proofs.Math.Bool.{and-eq-true_iff}

abbrev pub chain : Bool → List Bool → Bool
chain b [] = b
chain b (x ∷ xs) = chain (b && x) xs

-- the test at place k of a chain that holds
pub told : (b : Bool) (xs : List Bool) → chain b xs ≡ true → (k : ℕ) → get_or (b ∷ xs) k true ≡ true
told b [] e zero = e
told b [] e (suc k) = refl
told b (x ∷ xs) e zero = ((and-eq-true_iff b x).0 (told (b && x) xs e zero)).0
told b (x ∷ xs) e (suc zero) = ((and-eq-true_iff b x).0 (told (b && x) xs e zero)).1
told b (x ∷ xs) e (suc (suc k)) = told (b && x) xs e (suc k)
