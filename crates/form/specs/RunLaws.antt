-- What reading a form several times finds: as many values as marks, and how far it came. Assumes nothing.
use Rattle.std.specs.Prelude.{ℤ, Result, Ok, Err, Option, Some, None, ◌≡◌, refl, List, [], ◌∷◌, Bool, true, false, cond, ℕ, zero, suc, ◌+◌, ◌-◌, ◌*◌, ◌≤◌, ◌<◌, length, eqb}
use Rattle.std.proofs.Common.{ap, ◌∙◌, arith, length-append}
use Rattle.std.proofs.lemmas.Bool.{false≢true}
use Rattle.form.specs.Form.{Out, taken_of, form_at, val_at, with_val, byte_at, is_mark, failed, marks}
use Rattle.form.specs.Many.{Run, onto, many_at, stood_of}

-- what the place after a form tells, and after rows of it
pub took : (o : Out) (n : ℕ) → taken_of o ≡ Some n → (o.ok ≡ true) × (o.next ≡ n)
took o n e = go o.ok refl
  where
    go : (b : Bool) → o.ok ≡ b → (o.ok ≡ true) × (o.next ≡ n)
    go true p = (p, let q : ◌≡◌ {A = Option ℕ} (Some o.next) (Some n) = rw p at e in cc)
    go false p = let q : ◌≡◌ {A = Option ℕ} None (Some n) = rw p at e in cc

pub not_taken : (o : Out) → taken_of o ≡ None → o.ok ≡ false
not_taken o e = go o.ok refl
  where
    go : (b : Bool) → o.ok ≡ b → o.ok ≡ false
    go true p = let q : ◌≡◌ {A = Option ℕ} (Some o.next) None = rw p at e in cc
    go false p = p

pub stood_all : (r : Run) (n : ℕ) → stood_of r ≡ Ok n → (r.ok ≡ true) × (r.next ≡ n)
stood_all r n e = go r.ok refl
  where
    go : (b : Bool) → r.ok ≡ b → (r.ok ≡ true) × (r.next ≡ n)
    go true p = (p, let q : ◌≡◌ {A = Result ℕ ℕ} (Ok r.next) (Ok n) = rw p at e in cc)
    go false p = let q : ◌≡◌ {A = Result ℕ ℕ} (Err r.good) (Ok n) = rw p at e in cc

pub stood_some : (r : Run) (k : ℕ) → stood_of r ≡ Err k → (r.ok ≡ false) × (r.good ≡ k)
stood_some r k e = go r.ok refl
  where
    go : (b : Bool) → r.ok ≡ b → (r.ok ≡ false) × (r.good ≡ k)
    go true p = let q : ◌≡◌ {A = Result ℕ ℕ} (Ok r.next) (Err k) = rw p at e in cc
    go false p = (p, let q : ◌≡◌ {A = Result ℕ ℕ} (Err r.good) (Err k) = rw p at e in cc)

-- an accepted form has as many values as marks
pub form_length : (f s : List ℕ) (at : ℕ) → (form_at f s at).ok ≡ true → length (form_at f s at).vals ≡ marks f
unfolding form_at
form_length [] s at e = refl
form_length (c ∷ f) s at e = go (is_mark c) refl (form_length f s)
  where
    Ih : Type 0
    Ih = (at : ℕ) → (form_at f s at).ok ≡ true → length (form_at f s at).vals ≡ marks f

    by_val : (v : Option (ℤ × ℕ)) → (with_val v (λ n. form_at f s n)).ok ≡ true → Ih → length (with_val v (λ n. form_at f s n)).vals ≡ suc (marks f)
    by_val (Some (z, n)) e ih = ap suc (ih n e)
    by_val None e ih = absurd (false≢true e)

    by_lit : (b : Bool) → (cond b (form_at f s (suc at)) failed).ok ≡ true → Ih → length (cond b (form_at f s (suc at)) failed).vals ≡ marks f
    by_lit true e ih = ih (suc at) e
    by_lit false e ih = absurd (false≢true e)

    go : (b : Bool) → is_mark c ≡ b → Ih → length (form_at (c ∷ f) s at).vals ≡ marks (c ∷ f)
    go true m ih = rw m (by_val (val_at c s at) (rw m at e) ih)
    go false m ih = rw m (by_lit (eqb (byte_at s at) c) (rw m at e) ih)

pub many_end : (n : ℕ) (f s : List ℕ) (at : ℕ) → n ≡ 0 → many_at n f s at ≡ record { ok = true; next = at; good = 0; vals = [] }
unfolding many_at
many_end n f s at e = rw e

pub many_more : (n j : ℕ) (f s : List ℕ) (at : ℕ) → n ≡ suc j → (form_at f s at).ok ≡ true → many_at n f s at ≡ onto (form_at f s at).vals (many_at j f s (form_at f s at).next)
unfolding many_at
many_more n j f s at e o = rw (e, o)

pub many_stop : (n j : ℕ) (f s : List ℕ) (at : ℕ) → n ≡ suc j → (form_at f s at).ok ≡ false → many_at n f s at ≡ record { ok = false; next = 0; good = 0; vals = (form_at f s at).vals }
unfolding many_at
many_stop n j f s at e o = rw (e, o)

pub rows_less : (n k w : ℕ) → k < n → (n - k) * w ≡ w + (n - (k + 1)) * w
rows_less n k w h =
    let e : n - k ≡ suc (n - (k + 1)) = omega arith in
    rw e (omega arith)

-- no more rows are good than were asked for
pub good_most : (n : ℕ) (f s : List ℕ) (at : ℕ) → (many_at n f s at).good ≤ n
unfolding many_at
good_most zero f s at = omega arith
good_most (suc n) f s at = go (form_at f s at).ok (good_most n f s (form_at f s at).next)
  where
    go : (b : Bool) → (many_at n f s (form_at f s at).next).good ≤ n
        → (cond b (onto (form_at f s at).vals (many_at n f s (form_at f s at).next)) (record { ok = false; next = 0; good = 0; vals = (form_at f s at).vals })).good ≤ suc n
    go true h = omega arith
    go false h = omega arith

pub many_length : (n : ℕ) (f s : List ℕ) (at : ℕ) → (many_at n f s at).ok ≡ true → length (many_at n f s at).vals ≡ n * marks f
unfolding many_at
many_length zero f s at e = omega arith
many_length (suc n) f s at e = go (form_at f s at).ok refl e (many_length n f s (form_at f s at).next)
  where
    go : (b : Bool) → (form_at f s at).ok ≡ b
        → (cond b (onto (form_at f s at).vals (many_at n f s (form_at f s at).next)) (record { ok = false; next = 0; good = 0; vals = (form_at f s at).vals })).ok ≡ true
        → ((many_at n f s (form_at f s at).next).ok ≡ true → length (many_at n f s (form_at f s at).next).vals ≡ n * marks f)
        → length (cond b (onto (form_at f s at).vals (many_at n f s (form_at f s at).next)) (record { ok = false; next = 0; good = 0; vals = (form_at f s at).vals })).vals ≡ suc n * marks f
    go true o e ih = length-append (form_at f s at).vals (many_at n f s (form_at f s at).next).vals ∙ omega (arith, form_length f s at o, ih e)
    go false o e ih = absurd (false≢true e)

-- and so rows that stood before one that did not are no more than were asked for
pub ran_good : (n : ℕ) (f s : List ℕ) (at k : ℕ) → stood_of (many_at n f s at) ≡ Err k → k ≤ n
ran_good n f s at k e = omega (arith, (stood_some (many_at n f s at) k e).1, good_most n f s at)
