-- One accepted step seen from one group: what stood for it, with what the step put in, was drawn, or released, or stands. Assumes nothing.
use mathlib.Core.Path.{◌≡◌, ap, sym, ◌∙◌}
use mathlib.Core.List.{List}
use Prim.Native.Nat.{ℕ, suc, ◌+◌, ◌-◌, ◌≤◌}
use native.Mathlib.Omega.{arith}
use native.Mathlib.Decide.{dec_le, ℕ_discrete}
use Rattle.cell.specs.Queue.{slot, just}
use Rattle.cell.specs.QueueLaws.{just_same, just_other, slot_none}
use Rattle.cell.proofs.AnswerLaws.{Moves}
use Rattle.account.specs.Ledger.{Step, put, drew, freed, stands}

-- both numbers moved on by n
just_shift : (n a b f : ℕ) → just (n + a) (n + b) f ≡ just a b f
just_shift n a b f = go (ℕ_discrete a b)
  where
    go : Dec (a ≡ b) → just (n + a) (n + b) f ≡ just a b f
    go (yes e) = just_same (n + a) (n + b) f (omega arith) ∙ sym (just_same a b f e)
    go (no e) = just_other (n + a) (n + b) f (λ d. e (omega arith)) ∙ sym (just_other a b f e)

module _ (s : Step) {q q' : List ℕ} (m : Moves q s.amounts s.delay s.draws q') where
  -- nothing is put into a group that is due at once
  none_now : (n t : ℕ) → t ≡ n → Dec (s.delay ≡ 0) → put n s t ≡ 0
  none_now n t c (yes e) = just_same (n + s.delay) t s.amounts.stored.0 (omega arith) ∙ m.direct e
  none_now n t c (no e) = just_other (n + s.delay) t s.amounts.stored.0 (λ d. e (omega arith))

  pub group : (n t : ℕ) → stands n q t + put (suc n) s t ≡ drew (suc n) s t + freed (suc n) s t + stands (suc n) q' t
  group n t = split (dec_le t n) (dec_le t (suc n))
    where
      at : (xs : List ℕ) (a b : ℕ) → a ≡ b → slot xs a ≡ slot xs b
      at xs a b e = ap (slot xs) e

      split : Dec (t ≤ n) → Dec (t ≤ suc n) → stands n q t + put (suc n) s t ≡ drew (suc n) s t + freed (suc n) s t + stands (suc n) q' t
      split (yes h) d =
          omega (
            arith,
            at q (t - n) 0 (omega arith) ∙ slot_none q,
            at q' (t - suc n) 0 (omega arith) ∙ slot_none q',
            at s.draws (t - suc n) 0 (omega arith) ∙ slot_none s.draws,
            just_other (suc n + s.delay) t s.amounts.stored.0 (λ e. omega arith),
            just_other (suc n) t s.amounts.release.0 (λ e. omega arith),
          )
      split (no h) (yes g) =
          let e : t ≡ suc n = omega arith in
          omega (
            arith,
            at q (t - n) 1 (omega arith),
            at q' (t - suc n) 0 (omega arith) ∙ slot_none q',
            at s.draws (t - suc n) 0 (omega arith) ∙ slot_none s.draws,
            none_now (suc n) t e (ℕ_discrete s.delay 0),
            just_same (suc n) t s.amounts.release.0 (omega arith),
            m.first,
          )
      split (no h) (no g) =
          let i : ℕ = t - suc (suc n) in
          let e : t ≡ suc n + suc i = omega arith in
          omega (
            arith,
            at q (t - n) (suc (suc i)) (omega arith),
            at q' (t - suc n) (suc i) (omega arith),
            at s.draws (t - suc n) (suc i) (omega arith),
            rw (← e) at (just_shift (suc n) s.delay (suc i) s.amounts.stored.0),
            just_other (suc n) t s.amounts.release.0 (λ e. omega arith),
            m.slots i,
          )
