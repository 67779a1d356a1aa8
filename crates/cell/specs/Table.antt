-- A test that is computed over a whole table, or at each number below a limit, and what it says of each. It holds for any table. Assumes nothing.
use Rattle.std.specs.Prelude.{◌≡◌, refl, Bool, true, false, List, [], ◌∷◌, ℕ, zero, suc, ◌<◌, T, eqb, length, get_or, ℤ, pos, negsuc}
use Rattle.std.proofs.Common.{ap, ap₂, ⊎_elim, eq-or-lt_of_le, le_of_suc-le-suc, not-suc-le-zero, eqb→eq}
use Rattle.std.proofs.Math.Path.{subst⁻¹}

abbrev pub both : Bool → Bool → Bool
both true b = b
both false b = false

pub left : (a b : Bool) → T (both a b) → T a
left true b t = tt
left false b t = t

pub right : (a b : Bool) → T (both a b) → T b
right true b t = t
right false b t = absurd t

abbrev pub every : {A : Type 0} → (A → Bool) → List A → Bool
every f [] = true
every f (x ∷ xs) = both (f x) (every f xs)

pub at : {A : Type 0} (f : A → Bool) (none : A) (xs : List A) → T (every f xs) → (k : ℕ) → k < length xs → T (f (get_or xs k none))
at f none [] t k h = absurd (not-suc-le-zero h)
at f none (x ∷ xs) t zero h = left (f x) (every f xs) t
at f none (x ∷ xs) t (suc k) h = at f none xs (right (f x) (every f xs) t) k (le_of_suc-le-suc h)

abbrev pub every_below : (ℕ → Bool) → ℕ → Bool
every_below f zero = true
every_below f (suc n) = both (f n) (every_below f n)

pub below : (f : ℕ → Bool) (n : ℕ) → T (every_below f n) → (k : ℕ) → k < n → T (f k)
below f zero t k h = absurd (not-suc-le-zero h)
below f (suc n) t k h =
    ⊎_elim (λ (e : k ≡ n). subst⁻¹ (λ (m : ℕ). T (f m)) e (left (f n) (every_below f n) t))
    (λ (l : k < n). below f n (right (f n) (every_below f n) t) k l) (eq-or-lt_of_le (le_of_suc-le-suc h))

-- ---- tests of what is no plain number: an integer, a list of numbers, a number with a list
abbrev pub eq_z : ℤ → ℤ → Bool
eq_z (pos a) (pos b) = eqb a b
eq_z (pos a) (negsuc b) = false
eq_z (negsuc a) (pos b) = false
eq_z (negsuc a) (negsuc b) = eqb a b

pub eq_z→eq : (x y : ℤ) → T (eq_z x y) → x ≡ y
eq_z→eq (pos a) (pos b) t = ap pos (eqb→eq a b t)
eq_z→eq (pos a) (negsuc b) t = absurd t
eq_z→eq (negsuc a) (pos b) t = absurd t
eq_z→eq (negsuc a) (negsuc b) t = ap negsuc (eqb→eq a b t)

abbrev pub eq_l : List ℕ → List ℕ → Bool
eq_l [] [] = true
eq_l [] (y ∷ ys) = false
eq_l (x ∷ xs) [] = false
eq_l (x ∷ xs) (y ∷ ys) = both (eqb x y) (eq_l xs ys)

pub eq_l→eq : (xs ys : List ℕ) → T (eq_l xs ys) → xs ≡ ys
eq_l→eq [] [] t = refl
eq_l→eq [] (y ∷ ys) t = absurd t
eq_l→eq (x ∷ xs) [] t = absurd t
eq_l→eq (x ∷ xs) (y ∷ ys) t =
    ap₂ (λ a l. a ∷ l) (eqb→eq x y (left (eqb x y) (eq_l xs ys) t)) (eq_l→eq xs ys (right (eqb x y) (eq_l xs ys) t))

abbrev pub eq_nl : ℕ × List ℕ → ℕ × List ℕ → Bool
eq_nl x y = both (eqb x.0 y.0) (eq_l x.1 y.1)

pub eq_nl→eq : (x y : ℕ × List ℕ) → T (eq_nl x y) → x ≡ y
eq_nl→eq x y t =
    ap₂ (λ a l. (a, l)) (eqb→eq x.0 y.0 (left (eqb x.0 y.0) (eq_l x.1 y.1) t))
    (eq_l→eq x.1 y.1 (right (eqb x.0 y.0) (eq_l x.1 y.1) t))
