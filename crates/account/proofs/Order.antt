-- Lives and counts: each accepted entry follows those before it, and what comes of their sequence alone. Assumes nothing.
use Rattle.std.specs.Prelude.{Ok}
use mathlib.Core.Path.{◌≡◌, refl, sym, ap, ◌∙◌}
use mathlib.Core.Logic.{◌⊎◌, inl, inr}
use mathlib.Core.List.{List, [], ◌∷◌}
use Prim.Native.Nat.{ℕ, ◌+◌, ◌≤◌, ◌<◌}
use native.Mathlib.Omega.{arith}
use native.Mathlib.Decide.{ℕ_discrete}
use borrow.Author.Tests.{eq-eqb, ne_eqb}
use lib.IntN.{ℤ}
use lib.ListN.{length, replicate}
use Rattle.cell.specs.declared.Amounts.{Amounts}
use Rattle.cell.specs.declared.Card.{Card}
use Rattle.cell.specs.declared.Entry.{Entry}
use Rattle.cell.specs.Ranges.{life_of, next_of}
use Rattle.cell.specs.RangeLaws.{cleared_life, cleared_next}
use Rattle.cell.specs.Step.{answer_of, new_row}
use Rattle.cell.proofs.AnswerLaws.{was_in_order, life_after, next_after}
use Rattle.account.specs.Ledger.{Step, History, each, Follows, InSequence, counts_in, down_from}
use Rattle.account.specs.Run.{step_of}

-- ---- along a run: the row has the life of the last step, and as its next count that step's count + 1
abbrev Leaves : History → ℕ → ℕ → Type 0
Leaves [] life next = (life ≡ 0) × (next ≡ 0)
Leaves (s ∷ h) life next = (life ≡ s.life) × (next ≡ s.count + 1)

follows : (h : History) (s : Step) {life next : ℕ} → Leaves h life next → ((s.life ≡ life) × (s.count ≡ next)) ⊎ ((life < s.life) × (s.count ≡ 0)) → Follows s h
follows [] s v (inl o) = omega arith
follows [] s v (inr o) = o.1
follows (last ∷ h) s v (inl o) = inl (omega arith)
follows (last ∷ h) s v (inr o) = inr (omega arith)

abbrev pub Ordered : History → List ℕ → Type 0
Ordered h row = InSequence h × Leaves h (life_of row) (next_of row)

-- from a cleared row of w numbers
pub begins : (w : ℕ) → Ordered [] (replicate w 0)
begins w = (tt, (cleared_life w, cleared_next w))

pub goes_on : (card : Card) (h : History) (soil : List ℤ) (row : List ℕ) (i : Entry) (a : Amounts) → answer_of card soil row i ≡ Ok a
    → Ordered h row → Ordered (step_of card soil row i a ∷ h) (new_row card soil row i)
goes_on card h soil row i a e v =
    ((v.0, follows h (step_of card soil row i a) v.1 (was_in_order card soil row i a e)), (life_after card soil row i a e, next_after card soil row i a e))

-- ---- by the sequence alone
not_back : (h : History) (last s : Step) → Follows s (last ∷ h) → last.life ≤ s.life
not_back h last s (inl e) = omega arith
not_back h last s (inr e) = omega arith

none_above : (h : History) (s : Step) → InSequence (s ∷ h) → (life : ℕ) → s.life ≤ life → each (λ n before. before.life ≤ life) (s ∷ h)
none_above [] s v life k = (tt, k)
none_above (last ∷ h) s v life k = (none_above h last v.0 life (omega (arith, not_back h last s v.1)), k)

-- lives never go back: no step before this one has a higher life
pub lives_rise : (h : History) (s : Step) → InSequence (s ∷ h) → each (λ n before. before.life ≤ s.life) h
lives_rise h s v = (none_above h s v s.life (omega arith)).0

of_same : (h : History) (s : Step) (life : ℕ) → s.life ≡ life → counts_in life (s ∷ h) ≡ s.count ∷ counts_in life h
of_same h s life e = rw (eq-eqb s.life life e)

of_other : (h : History) (s : Step) (life : ℕ) → ¬ (s.life ≡ life) → counts_in life (s ∷ h) ≡ counts_in life h
of_other h s life e = rw (ne_eqb s.life life e)

none_of_lem : (h : History) (life l : ℕ) → life < l → each (λ n s. s.life ≤ life) h → counts_in l h ≡ []
none_of_lem [] life l k v = refl
none_of_lem (s ∷ h) life l k v = of_other h s l (λ e. omega arith) ∙ none_of_lem h life l k v.0

-- a step's count is how many steps of its life came before it
count_is : (h : History) (s : Step) → InSequence h → Follows s h → s.count ≡ length (counts_in s.life h)
count_is [] s v e = e
count_is (last ∷ h) s v (inl e) =
    let p = ap (length {A = ℕ}) (of_same h last s.life (sym e.0)) in
    let q = ap (λ (l : ℕ). length (counts_in l h)) e.0 in
    omega (arith, e.1, count_is h last v.0 v.1, p, q)
count_is (last ∷ h) s v (inr e) = e.1 ∙ sym (ap (length {A = ℕ}) (none_of_lem (last ∷ h) last.life s.life e.0 (none_above h last v last.life (omega arith))))

-- a life's counts are 0, 1, 2, .. with no repeat and no gap: the latest first, n - 1, .. , 1, 0
pub no_repeat_no_gap : (h : History) → InSequence h → (life : ℕ) → counts_in life h ≡ down_from (length (counts_in life h))
no_repeat_no_gap [] v life = refl
no_repeat_no_gap (s ∷ h) v life = go (no_repeat_no_gap h v.0 life) (ℕ_discrete s.life life)
  where
    go : counts_in life h ≡ down_from (length (counts_in life h)) → Dec (s.life ≡ life) → counts_in life (s ∷ h) ≡ down_from (length (counts_in life (s ∷ h)))
    go rest (yes e) = rw (of_same h s life e) (cc (count_is h s v.0 v.1))
    go rest (no e) = rw (of_other h s life e) rest
