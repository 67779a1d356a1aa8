-- Sums over groups: of one number at one group, and of the slots of a queue. Assumes nothing.
use mathlib.Core.Path.{◌≡◌, ap, sym, ◌∙◌}
use mathlib.Core.List.{List, [], ◌∷◌}
use Prim.Native.Nat.{ℕ, zero, suc, ◌+◌, ◌-◌, ◌≤◌}
use native.Mathlib.Omega.{arith}
use native.Mathlib.Nat.{le_of_suc-le-suc, not-suc-le-zero, add-suc}
use native.Mathlib.Decide.{dec_le}
use lib.ListN.{length}
use Rattle.cell.specs.Queue.{slot, just, total}
use Rattle.cell.specs.QueueLaws.{just_same, just_other, slot_none, slot_empty, slot_head, slot_tail, total_empty, total_more}
use Rattle.account.specs.Ledger.{up_to}

-- nothing up to t
up_none : (g : ℕ → ℕ) (t : ℕ) → ((u : ℕ) → u ≤ t → g u ≡ 0) → up_to t g ≡ 0
up_none g zero z = z 0 (omega arith)
up_none g (suc t) z = omega (arith, up_none g t (λ u h. z u (omega arith)), z (suc t) (omega arith))

-- one group
pub up_just : (a f t : ℕ) → a ≤ t → up_to t (λ u. just a u f) ≡ f
up_just a f zero h = just_same a 0 f (omega arith)
up_just a f (suc t) h = split (up_just a f t) (dec_le a t)
  where
    split : (a ≤ t → up_to t (λ u. just a u f) ≡ f) → Dec (a ≤ t) → up_to (suc t) (λ u. just a u f) ≡ f
    split r (yes k) = omega (arith, r k, just_other a (suc t) f (λ e. omega arith))
    split r (no k) = omega (arith, up_none (λ u. just a u f) t (λ u l. just_other a u f (λ e. omega arith)), just_same a (suc t) f (omega arith))

-- the slots
up_cons : (x : ℕ) (q : List ℕ) (t : ℕ) → up_to (suc t) (slot (x ∷ q)) ≡ x + up_to t (slot q)
up_cons x q zero = omega (arith, slot_none (x ∷ q), slot_none q, slot_head x q)
up_cons x q (suc t) = omega (arith, up_cons x q t, slot_tail x q t)

up_slots : (q : List ℕ) (t : ℕ) → length q ≤ t → up_to t (slot q) ≡ total q
up_slots [] t h = up_none (slot []) t (λ u k. slot_empty u) ∙ sym total_empty
up_slots (x ∷ q) zero h = absurd (not-suc-le-zero h)
up_slots (x ∷ q) (suc t) h = omega (arith, up_cons x q t, up_slots q t (le_of_suc-le-suc h), total_more x q)

-- the slots, seen from step n
up_from : (n : ℕ) (q : List ℕ) (k : ℕ) → up_to (n + k) (λ u. slot q (u - n)) ≡ up_to k (slot q)
up_from n q zero = up_none (λ u. slot q (u - n)) (n + 0) (λ u h. ap (slot q) (none u h) ∙ slot_none q) ∙ sym (slot_none q)
  where
    none : (u : ℕ) → u ≤ n + 0 → u - n ≡ 0
    none u h = omega arith
up_from n q (suc k) =
    let e : suc (n + k) - n ≡ suc k = omega arith in
    rw (add-suc n k) (omega (arith, up_from n q k, ap (slot q) e))

pub up_stands : (n : ℕ) (q : List ℕ) (t : ℕ) → n + length q ≤ t → up_to t (λ u. slot q (u - n)) ≡ total q
up_stands n q t h =
    let e : n + (t - n) ≡ t = omega arith in
    (rw e at (up_from n q (t - n))) ∙ up_slots q (t - n) (omega arith)
