-- What a plot's accepted steps say of its waiting water, group by group, and of all its water (demand 3). Definitions only.
-- A history lists a plot's accepted steps, the latest first, so the step at its head has as number the length of the list.
-- Each number is an amount of a step; none is worked out as the difference of others.
use Rattle.std.specs.Prelude.{◌≡◌, cond, ◌⊎◌, List, [], ◌∷◌, ℕ, zero, suc, ◌+◌, ◌-◌, ◌≤◌, ◌<◌, eqb, ℤ, pos, ◌+ℤ◌, length}
use Rattle.cell.specs.declared.Amounts.{Amounts}
use Rattle.cell.specs.Queue.{slot, just}

-- one accepted step: the entry's life and count, the ten amounts of the answer, the delay of step 4, and what step 7 took from each slot
pub record Step : Type 0 where
  pub life : ℕ
  pub count : ℕ
  pub amounts : Amounts
  pub delay : ℕ
  pub draws : List ℕ

abbrev pub History : Type 0
History = List Step

-- ---- groups. The group t is the water due at step t
-- Step n leaves the water that is due k steps later in slot k. So after its shift group t stands in slot t - n if t is above n, and in
-- none if it is not (t - n is then 0, and there is no slot 0); and slot 1, which the shift takes out, is where group n stood.
-- What step n put into group t; what plants drew from it in step n; what step n released of it
abbrev pub put : ℕ → Step → ℕ → ℕ
put n s t = just (n + s.delay) t s.amounts.stored.0

abbrev pub drew : ℕ → Step → ℕ → ℕ
drew n s t = slot s.draws (t - n)

abbrev pub freed : ℕ → Step → ℕ → ℕ
freed n s t = just n t s.amounts.release.0

-- what stands in the queue for group t after n steps
abbrev pub stands : ℕ → List ℕ → ℕ → ℕ
stands n q t = slot q (t - n)

-- one of put, drew, freed, summed over the steps of a history
abbrev pub over : (ℕ → Step → ℕ → ℕ) → History → ℕ → ℕ
over f [] t = 0
over f (s ∷ h) t = over f h t + f (suc (length h)) s t

-- a number for each group, summed over the groups 0 .. t
abbrev pub up_to : ℕ → (ℕ → ℕ) → ℕ
up_to zero g = g zero
up_to (suc t) g = up_to t g + g (suc t)

-- ---- all water. An amount summed over a history; net recharge, signed; what the last answer says is left
abbrev pub sum : (Amounts → ℕ) → History → ℕ
sum f [] = 0
sum f (s ∷ h) = sum f h + f s.amounts

abbrev pub net_recharge : History → ℤ
net_recharge [] = pos 0
net_recharge (s ∷ h) = net_recharge h +ℤ s.amounts.recharge.0

abbrev pub waiting : History → ℕ
waiting [] = 0
waiting (s ∷ h) = s.amounts.left.0

abbrev pub plant_use : Amounts → ℕ
plant_use a = a.etvad.0 + a.etstor.0 + a.etsat.0

-- ---- demand 3, of a history and of the queue that it left
-- something holds of each step of a history and its number
abbrev pub each : (ℕ → Step → Type 0) → History → Type 0
each P [] = Unit {0}
each P (s ∷ h) = each P h × P (suc (length h)) s

pub record Kept (h : History) (q : List ℕ) : Type 0 where
  -- of every group, all that was put in was drawn by plants, or released, or stands in the queue
  pub groups : (t : ℕ) → over put h t ≡ over drew h t + over freed h t + stands (length h) q t
  -- over all groups, what plants drew in a step is its etstor, and what stands is what the last answer says is left
  pub drawn : each (λ n s. (t : ℕ) → n + length s.draws ≤ t → up_to t (drew n s) ≡ s.amounts.etstor.0) h
  pub waits : (t : ℕ) → length h + length q ≤ t → up_to t (stands (length h) q) ≡ waiting h
  -- inflow so far equals runoff, plant use, drainage, water still waiting and net recharge
  pub balance : pos (sum (λ a. a.inflow.0) h) ≡ pos (sum (λ a. a.runoff.0) h + sum plant_use h + sum (λ a. a.drain.0) h + waiting h) +ℤ net_recharge h

-- ---- lives and counts
-- a step follows a history: the first has count 0, and any other is the next count of the last one's life or count 0 of a higher life
abbrev pub Follows : Step → History → Type 0
Follows s [] = s.count ≡ 0
Follows s (last ∷ h) = ((s.life ≡ last.life) × (s.count ≡ last.count + 1)) ⊎ ((last.life < s.life) × (s.count ≡ 0))

-- each step follows those before it
abbrev pub InSequence : History → Type 0
InSequence [] = Unit {0}
InSequence (s ∷ h) = InSequence h × Follows s h

-- the counts of the steps of one life, the latest first
abbrev pub counts_in : ℕ → History → List ℕ
counts_in life [] = []
counts_in life (s ∷ h) = cond (eqb s.life life) (s.count ∷ counts_in life h) (counts_in life h)

-- n - 1, .. , 2, 1, 0
abbrev pub down_from : ℕ → List ℕ
down_from zero = []
down_from (suc n) = n ∷ down_from n
