-- Laws of the sheet: what an answer that can be added tells, and what a sheet holds after any list of answers. Assumes nothing.
use Rattle.std.specs.Prelude.{◌≡◌, refl, Bool, true, false, List, [], ◌∷◌, ℕ, suc, ◌+◌, ◌*◌, ◌≤◌, ◌<◌, leb, ltb, ℤ, pos, nat_abs, ◌+ℤ◌, Ok, Err}
use Rattle.std.proofs.Common.{sym, ap, ◌∙◌, arith, leb-true, ltb-true, le-leb, lt-ltb}
use Rattle.std.proofs.Math.IntN.{+ℤ_assoc, +ℤ_idr}
use Rattle.cell.specs.Answers.{Answer}
use Rattle.cell.specs.declared.Amounts.{Amounts}
use Rattle.cell.specs.declared.Refusal.{Refusal}
use Rattle.cell.specs.Bounds.{abs_add}
use Rattle.cell.specs.Conj.{told}
use Rattle.cell.specs.Refusals.{not_addable}
use Rattle.site.specs.declared.Sheet.{Sheet}
use Rattle.site.specs.declared.Added.{Added}
use Rattle.site.specs.Sheet.{no_steps, amount_limit, step_limit, amounts_fit, sums_within, addable, plus_of, sheet_by, added_of, after_all}

-- ---- the parts of the tests
pub record AmountsWithin (a : Amounts) : Type 0 where
  pub inflow : a.inflow.0 ≤ 30000000000
  pub runoff : a.runoff.0 ≤ 30000000000
  pub etvad : a.etvad.0 ≤ 30000000000
  pub etstor : a.etstor.0 ≤ 30000000000
  pub etsat : a.etsat.0 ≤ 30000000000
  pub drain : a.drain.0 ≤ 30000000000
  pub release : a.release.0 ≤ 30000000000
  pub stored : a.stored.0 ≤ 30000000000
  pub recharge : nat_abs a.recharge.0 ≤ 30000000000
  pub left : a.left.0 ≤ 30000000000

pub amounts_within : (a : Amounts) → amounts_fit a ≡ true → AmountsWithin a
unfolding amounts_fit
amounts_within a e =
    let p =
    told (leb a.inflow.0 amount_limit)
    (leb a.runoff.0 amount_limit ∷ leb a.etvad.0 amount_limit ∷ leb a.etstor.0 amount_limit ∷ leb a.etsat.0 amount_limit ∷ leb a.drain.0 amount_limit
    ∷ leb a.release.0 amount_limit ∷ leb a.stored.0 amount_limit ∷ leb (nat_abs a.recharge.0) amount_limit ∷ leb a.left.0 amount_limit ∷ []) e in
    record {
      inflow = leb-true _ _ (p 0);
      runoff = leb-true _ _ (p 1);
      etvad = leb-true _ _ (p 2);
      etstor = leb-true _ _ (p 3);
      etsat = leb-true _ _ (p 4);
      drain = leb-true _ _ (p 5);
      release = leb-true _ _ (p 6);
      stored = leb-true _ _ (p 7);
      recharge = leb-true _ _ (p 8);
      left = leb-true _ _ (p 9);
    }

pub amounts_fit_lem : (a : Amounts) → AmountsWithin a → amounts_fit a ≡ true
unfolding amounts_fit
amounts_fit_lem a h =
    rw (
      le-leb _ _ h.inflow,
      le-leb _ _ h.runoff,
      le-leb _ _ h.etvad,
      le-leb _ _ h.etstor,
      le-leb _ _ h.etsat,
      le-leb _ _ h.drain,
      le-leb _ _ h.release,
      le-leb _ _ h.stored,
      le-leb _ _ h.recharge,
      le-leb _ _ h.left,
    )

pub record SumsIn (n : ℕ) (s : Sheet) : Type 0 where
  pub inflow : s.inflow.0 ≤ 30000000000 * n
  pub runoff : s.runoff.0 ≤ 30000000000 * n
  pub etvad : s.etvad.0 ≤ 30000000000 * n
  pub etstor : s.etstor.0 ≤ 30000000000 * n
  pub etsat : s.etsat.0 ≤ 30000000000 * n
  pub drain : s.drain.0 ≤ 30000000000 * n
  pub release : s.release.0 ≤ 30000000000 * n
  pub stored : s.stored.0 ≤ 30000000000 * n
  pub recharge : nat_abs s.recharge.0 ≤ 30000000000 * n

pub sums_in : (n : ℕ) (s : Sheet) → sums_within n s ≡ true → SumsIn n s
unfolding sums_within
sums_in n s e =
    let most : ℕ = amount_limit * n in
    let p =
    told (leb s.inflow.0 most)
    (leb s.runoff.0 most ∷ leb s.etvad.0 most ∷ leb s.etstor.0 most ∷ leb s.etsat.0 most ∷ leb s.drain.0 most
    ∷ leb s.release.0 most ∷ leb s.stored.0 most ∷ leb (nat_abs s.recharge.0) most ∷ []) e in
    record {
      inflow = leb-true _ _ (p 0);
      runoff = leb-true _ _ (p 1);
      etvad = leb-true _ _ (p 2);
      etstor = leb-true _ _ (p 3);
      etsat = leb-true _ _ (p 4);
      drain = leb-true _ _ (p 5);
      release = leb-true _ _ (p 6);
      stored = leb-true _ _ (p 7);
      recharge = leb-true _ _ (p 8);
    }

pub sums_within_lem : (n : ℕ) (s : Sheet) → SumsIn n s → sums_within n s ≡ true
unfolding sums_within
sums_within_lem n s h =
    rw (
      le-leb _ _ h.inflow,
      le-leb _ _ h.runoff,
      le-leb _ _ h.etvad,
      le-leb _ _ h.etstor,
      le-leb _ _ h.etsat,
      le-leb _ _ h.drain,
      le-leb _ _ h.release,
      le-leb _ _ h.stored,
      le-leb _ _ h.recharge,
    )

-- an answer that can be added
pub record Takes (s : Sheet) (a : Amounts) : Type 0 where
  pub steps : s.steps < 100000000
  pub amounts : AmountsWithin a
  pub sums : SumsIn s.steps s

pub takes_in : (s : Sheet) (a : Amounts) → addable s (Ok a) ≡ true → Takes s a
unfolding addable
takes_in s a e =
    let p = told (ltb s.steps step_limit) (amounts_fit a ∷ sums_within s.steps s ∷ []) e in
    record { steps = ltb-true _ _ (p 0); amounts = amounts_within a (p 1); sums = sums_in s.steps s (p 2) }

pub takes_ok : (s : Sheet) (a : Amounts) → Takes s a → addable s (Ok a) ≡ true
unfolding addable
takes_ok s a h = rw (lt-ltb _ _ h.steps, amounts_fit_lem a h.amounts, sums_within_lem s.steps s h.sums)

-- ---- one answer
pub added_taken : (s : Sheet) (a : Amounts) → Takes s a → added_of s (Ok a) ≡ record { sheet = plus_of s a; number = 0 }
unfolding added_of sheet_by
added_taken s a h = rw (takes_ok s a h)

pub added_refused : (s : Sheet) (answer : Answer) → addable s answer ≡ false → added_of s answer ≡ record { sheet = s; number = not_addable }
unfolding added_of
added_refused s answer e = rw e

-- ---- any list of answers
-- how many of them are accepted, and the sum of an amount over those
abbrev pub accepted : List Answer → ℕ
accepted [] = 0
accepted (Ok a ∷ xs) = suc (accepted xs)
accepted (Err why ∷ xs) = accepted xs

abbrev pub sum_of : (Amounts → ℕ) → List Answer → ℕ
sum_of f [] = 0
sum_of f (Ok a ∷ xs) = f a + sum_of f xs
sum_of f (Err why ∷ xs) = sum_of f xs

abbrev pub net_of : List Answer → ℤ
net_of [] = pos 0
net_of (Ok a ∷ xs) = a.recharge.0 +ℤ net_of xs
net_of (Err why ∷ xs) = net_of xs

-- every accepted one has its amounts within the limit
abbrev pub AllWithin : List Answer → Type 0
AllWithin [] = Unit {0}
AllWithin (Ok a ∷ xs) = AmountsWithin a × AllWithin xs
AllWithin (Err why ∷ xs) = AllWithin xs

-- a sheet t that is s with the accepted ones of xs added
pub record Holds (s : Sheet) (xs : List Answer) (t : Sheet) : Type 0 where
  pub steps : t.steps ≡ s.steps + accepted xs
  pub inflow : t.inflow.0 ≡ s.inflow.0 + sum_of (λ a. a.inflow.0) xs
  pub runoff : t.runoff.0 ≡ s.runoff.0 + sum_of (λ a. a.runoff.0) xs
  pub etvad : t.etvad.0 ≡ s.etvad.0 + sum_of (λ a. a.etvad.0) xs
  pub etstor : t.etstor.0 ≡ s.etstor.0 + sum_of (λ a. a.etstor.0) xs
  pub etsat : t.etsat.0 ≡ s.etsat.0 + sum_of (λ a. a.etsat.0) xs
  pub drain : t.drain.0 ≡ s.drain.0 + sum_of (λ a. a.drain.0) xs
  pub release : t.release.0 ≡ s.release.0 + sum_of (λ a. a.release.0) xs
  pub stored : t.stored.0 ≡ s.stored.0 + sum_of (λ a. a.stored.0) xs
  pub recharge : t.recharge.0 ≡ s.recharge.0 +ℤ net_of xs

-- sums within their limit stay so
plus_in : (s : Sheet) (a : Amounts) → Takes s a → SumsIn (s.steps + 1) (plus_of s a)
unfolding plus_of
plus_in s a h =
    let m = h.amounts in
    let k = h.sums in
    record {
      inflow = omega (arith, m.inflow, k.inflow);
      runoff = omega (arith, m.runoff, k.runoff);
      etvad = omega (arith, m.etvad, k.etvad);
      etstor = omega (arith, m.etstor, k.etstor);
      etsat = omega (arith, m.etsat, k.etsat);
      drain = omega (arith, m.drain, k.drain);
      release = omega (arith, m.release, k.release);
      stored = omega (arith, m.stored, k.stored);
      recharge = omega (arith, abs_add s.recharge.0 a.recharge.0 (30000000000 * s.steps) 30000000000 k.recharge m.recharge);
    }

one_more : (s : Sheet) (a : Amounts) (xs : List Answer) (t : Sheet) → Holds (plus_of s a) xs t → Holds s (Ok a ∷ xs) t
unfolding plus_of
one_more s a xs t h =
    record {
      steps = omega (arith, h.steps);
      inflow = omega (arith, h.inflow);
      runoff = omega (arith, h.runoff);
      etvad = omega (arith, h.etvad);
      etstor = omega (arith, h.etstor);
      etsat = omega (arith, h.etsat);
      drain = omega (arith, h.drain);
      release = omega (arith, h.release);
      stored = omega (arith, h.stored);
      recharge = h.recharge ∙ +ℤ_assoc s.recharge.0 a.recharge.0 (net_of xs);
    }

skipped : (s : Sheet) (why : Refusal) (xs : List Answer) (t : Sheet) → Holds s xs t → Holds s (Err why ∷ xs) t
skipped s why xs t h =
    record {
      steps = h.steps;
      inflow = h.inflow;
      runoff = h.runoff;
      etvad = h.etvad;
      etstor = h.etstor;
      etsat = h.etsat;
      drain = h.drain;
      release = h.release;
      stored = h.stored;
      recharge = h.recharge;
    }

none_more : (s : Sheet) → Holds s [] s
none_more s = record { steps = omega arith; inflow = omega arith; runoff = omega arith; etvad = omega arith; etstor = omega arith; etsat = omega arith; drain = omega arith; release = omega arith; stored = omega arith; recharge = sym (+ℤ_idr s.recharge.0) }

counted : (s : Sheet) (a : Amounts) → Takes s a → SumsIn (plus_of s a).steps (plus_of s a)
unfolding plus_of
counted s a t = plus_in s a t

steps_more : (s : Sheet) (a : Amounts) (n : ℕ) → s.steps + suc n ≤ 100000000 → (plus_of s a).steps + n ≤ 100000000
unfolding plus_of
steps_more s a n l = omega arith

none_added : (s : Sheet) (answer : Answer) → addable s answer ≡ false → (added_of s answer).sheet ≡ s
none_added s answer e = ap (λ (x : Added). x.sheet) (added_refused s answer e)

never_added : (s : Sheet) (why : Refusal) → addable s (Err why) ≡ false
unfolding addable
never_added s why = refl

-- as long as the limit of steps is not met, the sums are those of the accepted answers and `steps` is their count
pub sums_hold : (s : Sheet) (xs : List Answer) → SumsIn s.steps s → AllWithin xs → s.steps + accepted xs ≤ 100000000 → Holds s xs (after_all s xs)
sums_hold s [] k w l = none_more s
sums_hold s (Ok a ∷ xs) k w l =
    let t : Takes s a = record { steps = omega arith; amounts = w.0; sums = k } in
    rw (added_taken s a t) (one_more s a xs (after_all (plus_of s a) xs) (sums_hold (plus_of s a) xs (counted s a t) w.1 (steps_more s a (accepted xs) l)))
sums_hold s (Err why ∷ xs) k w l =
    let h = sums_hold s xs k w l in
    rw (none_added s (Err why) (never_added s why)) (skipped s why xs (after_all s xs) h)

-- ---- a sheet that adding has made, whatever was added: at most 100,000,000 steps, and its sums within them
pub record SheetIn (s : Sheet) : Type 0 where
  pub steps : s.steps ≤ 100000000
  pub sums : SumsIn s.steps s

pub sheet_none : SheetIn no_steps
sheet_none =
    record {
      steps = omega arith;
      sums = record { inflow = omega arith; runoff = omega arith; etvad = omega arith; etstor = omega arith; etsat = omega arith; drain = omega arith; release = omega arith; stored = omega arith; recharge = omega arith };
    }

plus_in_steps : (s : Sheet) (a : Amounts) → Takes s a → SheetIn (plus_of s a)
plus_in_steps s a t = record { steps = let h = steps_more s a 0 (omega (arith, t.steps)) in omega arith; sums = counted s a t }

pub sheet_added : (s : Sheet) (answer : Answer) → SheetIn s → SheetIn (added_of s answer).sheet
sheet_added s (Err why) h = rw (none_added s (Err why) (never_added s why)) h
sheet_added s (Ok a) h = go (addable s (Ok a)) refl
  where
    go : (b : Bool) → addable s (Ok a) ≡ b → SheetIn (added_of s (Ok a)).sheet
    go true e = let t = takes_in s a e in rw (added_taken s a t) (plus_in_steps s a t)
    go false e = rw (none_added s (Ok a) e) h

-- from a sheet with no step on it
pub from_none : (xs : List Answer) → AllWithin xs → accepted xs ≤ 100000000 → Holds no_steps xs (after_all no_steps xs)
from_none xs w l = sums_hold no_steps xs sheet_none.sums w (omega arith)
