-- What follows of groups of water: by how they are named, and by what the program keeps. Assumes nothing.
use mathlib.Core.Path.{◌≡◌, refl, ap, sym, ◌∙◌}
use mathlib.Core.List.{List, [], ◌∷◌}
use Prim.Native.Nat.{ℕ, suc, ◌+◌, ◌-◌, ◌≤◌, ◌<◌}
use native.Mathlib.Omega.{arith}
use lib.ListN.{length}
use Rattle.cell.specs.Queue.{slot, total}
use Rattle.cell.specs.QueueLaws.{just_other, slot_none}
use Rattle.account.specs.Ledger.{Step, History, Kept, put, drew, freed, stands, over, up_to, waiting}
use Rattle.account.proofs.Sums.{up_just, up_stands}

-- ---- by the naming of groups alone: these hold of any history and any queue
-- nothing stands for a group whose step has come
pub gone : (h : History) (q : List ℕ) (t : ℕ) → t ≤ length h → stands (length h) q t ≡ 0
gone h q t k = let e : t - length h ≡ 0 = omega arith in ap (slot q) e ∙ slot_none q

-- none is freed at another step than its own, so none before it
pub other : (n : ℕ) (s : Step) (t : ℕ) → ¬ (n ≡ t) → freed n s t ≡ 0
other n s t e = just_other n t s.amounts.release.0 e

pub early : (h : History) (t : ℕ) → length h < t → over freed h t ≡ 0
early [] t k = refl
early (s ∷ h) t k = omega (arith, early h t (omega arith), other (suc (length h)) s t (λ e. omega arith))

-- over all groups, what a step puts in is its stored, and what it frees is its release
pub puts : (n : ℕ) (s : Step) (t : ℕ) → n + s.delay ≤ t → up_to t (put n s) ≡ s.amounts.stored.0
puts n s t k = up_just _ _ t (omega arith)

pub frees : (n : ℕ) (s : Step) (t : ℕ) → n ≤ t → up_to t (freed n s) ≡ s.amounts.release.0
frees n s t k = up_just _ _ t k

-- ---- by what the program keeps: these hold of the history and the queue of a run
module _ {h : History} {q : List ℕ} (kept : Kept h q) where
  -- a group whose step has come: all that was put in was drawn or freed
  pub come : (t : ℕ) → t ≤ length h → over put h t ≡ over drew h t + over freed h t
  come t k = omega (arith, kept.groups t, gone h q t k)

  -- a group ahead: all that was put in was drawn or stands in its slot
  pub ahead : (t : ℕ) → length h < t → over put h t ≡ over drew h t + stands (length h) q t
  ahead t k = omega (arith, kept.groups t, early h t k)

  -- all that the queue holds is what the last answer says is left
  pub queue : total q ≡ waiting h
  queue = sym (up_stands (length h) q (length h + length q) (omega arith)) ∙ kept.waits (length h + length q) (omega arith)
