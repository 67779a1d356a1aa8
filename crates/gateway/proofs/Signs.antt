-- A test of each number of a row, by the run that looked at them. Assumes nothing.
use Rattle.std.proofs.Common.{◌≡◌, ℕ, zero, suc, ◌+◌, ◌<◌, ◌≤◌, Bool, true, false, ◌&&◌, ◌||◌, not, eqb, List, [], ◌∷◌, Option, Some, None, length, get_or, ℤ, pos, nat_abs, sym, ◌∙◌, refl, inl, inr, arith, add-zero, zero-add}
use Rattle.std.specs.Bool.{MatchBool}
use Rattle.std.specs.Option.{IfSome, option_map}
use Rattle.std.specs.Iterator.Runs.{Run, YieldsRun, AllItems, AnyItem}
use Rattle.std.proofs.lemmas.Option.{slice_get_cases}
use Rattle.form.specs.Signed.{is_neg}
use Rattle.gateway.specs.Shapes.{signs_from, zeros}

-- a test of each number with its place, from place j on
pub each : (ℕ → ℤ → Bool) → ℕ → List ℤ → Bool
each test j [] = true
each test j (z ∷ zs) = test j z && each test (suc j) zs

signs_each : (k j : ℕ) (l : List ℤ) → each (λ i z. eqb i k || not (is_neg z)) j l ≡ signs_from j k l
unfolding each signs_from
signs_each k j [] = refl
signs_each k j (z ∷ zs) = rw (signs_each k (suc j) zs)

zeros_each : (j : ℕ) (l : List ℤ) → each (λ i z. eqb (nat_abs z) 0) j l ≡ zeros l
unfolding each zeros
zeros_each j [] = refl
zeros_each j (z ∷ zs) = rw (zeros_each (suc j) zs)

each_true : (test : ℕ → ℤ → Bool) (j : ℕ) (l : List ℤ) → ((i : ℕ) → i < length l → test (j + i) (get_or l i (pos 0)) ≡ true) → each test j l ≡ true
unfolding each
each_true test j [] h = refl
each_true test j (z ∷ zs) h =
    let a : test j z ≡ true = rw (add-zero j) at (h 0 (omega arith)) in
    rw a (each_true test (suc j) zs (λ i b. let m : j + suc i ≡ suc j + i = omega arith in (rw m at (h (suc i) (omega arith)))))

each_false : (test : ℕ → ℤ → Bool) (j : ℕ) (l : List ℤ) (i : ℕ) → i < length l → test (j + i) (get_or l i (pos 0)) ≡ false → each test j l ≡ false
unfolding each
each_false test j [] i b h = absurd (omega arith)
each_false test j (z ∷ zs) zero b h = let a : test j z ≡ false = rw (add-zero j) at h in rw a
each_false test j (z ∷ zs) (suc i) b h =
    let m : j + suc i ≡ suc j + i = omega arith in
    rw (each_false test (suc j) zs i (omega arith) (rw m at h)) (ends (test j z))
  where
    ends : (x : Bool) → (x && false) ≡ false
    ends true = refl
    ends false = refl

-- what holds of an item of a run holds of the item that it came from
pub through : {A B : Type 0} (f : A → B) (P : B → Type 0) (o : Option A) {o' : Option B} → o' ≡ option_map f o → IfSome o' P → IfSome o (λ x. P (f x))
through f P (Some x) e h = rw e at h
through f P None e h = rw e at h

-- of a run, where v reads the number of each item and the items are those of l in order
module _ {S A : Type 0} {steps : S → Option A → S → Type 0} (p : Run steps) (v : A → ℤ) (l : List ℤ) (short : p.len ≤ length l) (whole : p.whole ≡ true → p.len ≡ length l) (items : (k : ℕ) → IfSome (p.at k) (λ x. v x ≡ get_or l k (v x))) (test : ℕ → ℤ → Bool) where
  place : (k : ℕ) → k < p.len → (x : A) × (p.at k ≡ Some x) × (v x ≡ get_or l k (pos 0))
  unfolding YieldsRun
  place k h =
      elim (slice_get_cases p.items k).1 [
        | inl a ↦
            let e : p.at k ≡ Some a.0 = p.gave.1 k ∙ a.2 in
            (a.0, e, (rw e at (items k)) ∙ same l k (v a.0) (omega arith))
        | inr b ↦ absurd (omega (arith, b.0, p.long))
      ]
    where
      same : (xs : List ℤ) (i : ℕ) (d : ℤ) → i < length xs → get_or xs i d ≡ get_or xs i (pos 0)
      same [] i d h = absurd (omega arith)
      same (x ∷ xs) zero d h = refl
      same (x ∷ xs) (suc i) d h = same xs i d (omega arith)

  all_true : {P : A → Type 0} → ((k : ℕ) (x : A) → p.at k ≡ Some x → P x → test k (v x) ≡ true) → p.whole ≡ true → AllItems p P → each test 0 l ≡ true
  all_true told w h =
      each_true test 0 l (λ i b.
      let x = place i (omega (arith, whole w)) in
      rw (zero-add i, ← x.2) (told i x.0 x.1 (rw x.1 at (h i))))

  any_false : {P : A → Type 0} → ((k : ℕ) (x : A) → p.at k ≡ Some x → P x → test k (v x) ≡ false) → AnyItem p P → each test 0 l ≡ false
  any_false told h =
      let x = place h.0 h.1 in
      each_false test 0 l h.0 (omega (arith, h.1)) (rw (zero-add h.0, ← x.2) (told h.0 x.0 x.1 (rw x.1 at h.2)))

  pub each_is : {K : Type 0} {P Q : A → Type 0} (b : Bool) → K → ((k : ℕ) (x : A) → p.at k ≡ Some x → P x → test k (v x) ≡ true) → ((k : ℕ) (x : A) → p.at k ≡ Some x → Q x → test k (v x) ≡ false)
      → MatchBool b ((p.whole ≡ true) × (K → AllItems p P)) (K → AnyItem p Q) → b ≡ each test 0 l
  each_is true keep pass fail h = sym (all_true pass h.0 (h.1 keep))
  each_is false keep pass fail h = sym (any_false fail (h keep))

module _ {S A : Type 0} {steps : S → Option A → S → Type 0} (p : Run steps) (v : A → ℤ) (l : List ℤ) (short : p.len ≤ length l) (whole : p.whole ≡ true → p.len ≡ length l) (items : (k : ℕ) → IfSome (p.at k) (λ x. v x ≡ get_or l k (v x))) {K : Type 0} {P Q : A → Type 0} (b : Bool) (keep : K) where
  pub zeros_is : ((x : A) → P x → eqb (nat_abs (v x)) 0 ≡ true) → ((x : A) → Q x → eqb (nat_abs (v x)) 0 ≡ false) → MatchBool b ((p.whole ≡ true) × (K → AllItems p P)) (K → AnyItem p Q) → b ≡ zeros l
  zeros_is pass fail h = each_is p v l short whole items (λ i z. eqb (nat_abs z) 0) b keep (λ k x e. pass x) (λ k x e. fail x) h ∙ zeros_each 0 l

  pub signs_is : (k : ℕ) (n : A → ℕ) → ((i : ℕ) → IfSome (p.at i) (λ x. n x ≡ i)) → ((x : A) → P x → (eqb (n x) k || not (is_neg (v x))) ≡ true) → ((x : A) → Q x → (eqb (n x) k || not (is_neg (v x))) ≡ false)
      → MatchBool b ((p.whole ≡ true) × (K → AllItems p P)) (K → AnyItem p Q) → b ≡ signs_from 0 k l
  signs_is k n counts pass fail h =
      each_is p v l short whole items (λ i z. eqb i k || not (is_neg z)) b keep (λ i x e q. at i x e (pass x q)) (λ i x e q. at i x e (fail x q)) h ∙ signs_each k 0 l
    where
      at : {t : Bool} (i : ℕ) (x : A) → p.at i ≡ Some x → (eqb (n x) k || not (is_neg (v x))) ≡ t → (eqb i k || not (is_neg (v x))) ≡ t
      at i x e q = let m : n x ≡ i = rw e at (counts i) in rw m at q
