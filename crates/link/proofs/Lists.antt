-- Laws of lists of entries: what stands among them, those of a life, counts that run on, and first parts. Assumes nothing.
use Rattle.std.proofs.Common.{◌≡◌, refl, sym, ap, ◌∙◌, Bool, true, false, cond, ◌⊎◌, inl, inr, List, [], ◌∷◌, ◌++◌, append-nil, ℕ, zero, suc, ◌≤◌, ◌<◌, arith, eq-eqb, eqb, length, take, drop, length-append}
use Rattle.std.proofs.lemmas.Bool.{ne_eqb}
use Rattle.cell.specs.declared.Entry.{Entry}
use Rattle.outbox.specs.Counts.{Among}
use Rattle.link.specs.Lists.{life_in, At, of_life, Holds, FirstPart}

-- ---- among, and at a place
module _ {A : Type 0} (x : A) where
  pub among_left : (xs ys : List A) → Among x xs → Among x (xs ++ ys)
  among_left [] ys x0 = elim x0 [ ]
  among_left (y ∷ xs) ys (inl e) = inl e
  among_left (y ∷ xs) ys (inr m) = inr (among_left xs ys m)

  pub among_right : (xs ys : List A) → Among x ys → Among x (xs ++ ys)
  among_right [] ys m = m
  among_right (y ∷ xs) ys m = inr (among_right xs ys m)

  pub among_either : (xs ys : List A) → Among x (xs ++ ys) → Among x xs ⊎ Among x ys
  among_either [] ys m = inr m
  among_either (y ∷ xs) ys (inl e) = inl (inl e)
  among_either (y ∷ xs) ys (inr m) = go (among_either xs ys m)
    where
      go : Among x xs ⊎ Among x ys → Among x (y ∷ xs) ⊎ Among x ys
      go (inl k) = inl (inr k)
      go (inr k) = inr k

  pub among_drop : (k : ℕ) (xs : List A) → Among x (drop k xs) → Among x xs
  among_drop zero xs m = m
  among_drop (suc k) [] m = m
  among_drop (suc k) (y ∷ xs) m = inr (among_drop k xs m)

  pub among_take : (k : ℕ) (xs : List A) → Among x (take k xs) → Among x xs
  among_take (suc k) [] m = elim m [ ]
  among_take zero xs m = absurd m
  among_take (suc k) (y ∷ xs) (inl e) = inl e
  among_take (suc k) (y ∷ xs) (inr m) = inr (among_take k xs m)

  pub at_left : (xs ys : List A) (n : ℕ) → At xs n x → At (xs ++ ys) n x
  at_left [] ys n e = elim e [ ]
  at_left (y ∷ xs) ys zero e = e
  at_left (y ∷ xs) ys (suc n) e = at_left xs ys n e

  pub at_end_lem : (xs : List A) → At (xs ++ (x ∷ [])) (length xs) x
  at_end_lem [] = refl
  at_end_lem (y ∷ xs) = at_end_lem xs

  pub at_below : (xs : List A) (n : ℕ) → At xs n x → n < length xs
  at_below [] n e = elim e [ ]
  at_below (y ∷ xs) zero e = omega arith
  at_below (y ∷ xs) (suc n) e = omega (arith, at_below xs n e)

  -- a place holds one
  pub at_one : (y : A) (xs : List A) (n : ℕ) → At xs n x → At xs n y → x ≡ y
  at_one y [] n e f = elim e [ ]
  at_one y (z ∷ xs) zero e f = sym e ∙ f
  at_one y (z ∷ xs) (suc n) e f = at_one y xs n e f

-- each place of a list holds something
pub at_some : {A : Type 0} (xs : List A) (n : ℕ) → n < length xs → (x : A) × At xs n x
at_some [] n h = absurd (omega arith)
at_some (y ∷ xs) zero h = (y, refl)
at_some (y ∷ xs) (suc n) h = at_some xs n (omega arith)

-- ---- of a life
pub life_append : (l : ℕ) (xs ys : List Entry) → of_life l (xs ++ ys) ≡ of_life l xs ++ of_life l ys
life_append l [] ys = refl
life_append l (x ∷ xs) ys = go (eqb (life_in x) l) (life_append l xs ys)
  where
    go : (b : Bool) → of_life l (xs ++ ys) ≡ of_life l xs ++ of_life l ys → cond b (x ∷ of_life l (xs ++ ys)) (of_life l (xs ++ ys)) ≡ cond b (x ∷ of_life l xs) (of_life l xs) ++ of_life l ys
    go true e = ap (λ (t : List Entry). x ∷ t) e
    go false e = e

-- as many of a life as before, or more
pub life_longer : (l : ℕ) (xs ys : List Entry) → length (of_life l xs) ≤ length (of_life l (xs ++ ys))
life_longer l xs ys = rw (life_append l xs ys) (omega (arith, length-append (of_life l xs) (of_life l ys)))

-- one more entry, of this life or of another
module _ (l : ℕ) (es : List Entry) (e : Entry) where
  pub life_with : life_in e ≡ l → of_life l (es ++ (e ∷ [])) ≡ of_life l es ++ (e ∷ [])
  life_with h = life_append l es (e ∷ []) ∙ ap (λ (b : Bool). of_life l es ++ cond b (e ∷ []) []) (eq-eqb (life_in e) l h)

  pub life_without : ¬ (life_in e ≡ l) → of_life l (es ++ (e ∷ [])) ≡ of_life l es
  life_without h = life_append l es (e ∷ []) ∙ ap (λ (b : Bool). of_life l es ++ cond b (e ∷ []) []) (ne_eqb (life_in e) l h) ∙ append-nil (of_life l es)

pub among_life : (x : Entry) (es : List Entry) → Among x es → Among x (of_life (life_in x) es)
among_life x [] x0 = elim x0 [ ]
among_life x (e ∷ es) (inl h) = rw (eq-eqb (life_in e) (life_in x) (ap life_in (sym h))) (inl h)
among_life x (e ∷ es) (inr m) = go (eqb (life_in e) (life_in x)) (among_life x es m)
  where
    go : (b : Bool) → Among x (of_life (life_in x) es) → Among x (cond b (e ∷ of_life (life_in x) es) (of_life (life_in x) es))
    go true k = inr k
    go false k = k

pub life_among : (l : ℕ) (x : Entry) (es : List Entry) → Among x (of_life l es) → Among x es
life_among l x [] m = elim m [ ]
life_among l x (e ∷ es) m = go (eqb (life_in e) l) (λ k. life_among l x es k) m
  where
    go : (b : Bool) → (Among x (of_life l es) → Among x es) → Among x (cond b (e ∷ of_life l es) (of_life l es)) → Among x (e ∷ es)
    go true r (inl h) = inl h
    go true r (inr k) = inr (r k)
    go false r k = inr (r k)

-- ---- first parts, as more is made and more is replaced
pub holds_more : (v w : List Entry) (m e : Entry) → Holds v m e → Holds (v ++ w) m e
holds_more v w m e (inl h) = inl h
holds_more v w m e (inr h) = inr (h.0, among_left e v w h.1)

pub first_made : (v es ms ns : List Entry) → FirstPart v es ms → FirstPart v es (ms ++ ns)
first_made v (e ∷ es) [] ns h = elim h [ ]
first_made v [] ms ns h = tt
first_made v (e ∷ es) (m ∷ ms) ns h = (h.0, first_made v es ms ns h.1)

pub first_voids : (v w es ms : List Entry) → FirstPart v es ms → FirstPart (v ++ w) es ms
first_voids v w (e ∷ es) [] h = elim h [ ]
first_voids v w [] ms h = tt
first_voids v w (e ∷ es) (m ∷ ms) h = (holds_more v w m e h.0, first_voids v w es ms h.1)

pub first_length : (v es ms : List Entry) → FirstPart v es ms → length es ≤ length ms
first_length v (e ∷ es) [] h = elim h [ ]
first_length v [] ms h = omega arith
first_length v (e ∷ es) (m ∷ ms) h = omega (arith, first_length v es ms h.1)

-- what stands in a first part stands for what was made in its place
pub first_at : (v es ms : List Entry) (n : ℕ) (e : Entry) → FirstPart v es ms → At es n e → (m : Entry) × At ms n m × Holds v m e
first_at v (x ∷ es) [] n e f a = elim f [ ]
first_at v [] ms n e f a = elim a [ ]
first_at v (x ∷ es) (m ∷ ms) zero e f a = (m, refl, rw a at f.0)
first_at v (x ∷ es) (m ∷ ms) (suc n) e f a = first_at v es ms n e f.1 a

-- one more is accepted, from the place that is next
pub first_next : (v es ms : List Entry) (e m : Entry) → FirstPart v es ms → At ms (length es) m → Holds v m e → FirstPart v (es ++ (e ∷ [])) ms
first_next v (x ∷ es) [] e m f a h = elim f [ ]
first_next v [] [] e m f a h = elim a [ ]
first_next v [] (n ∷ ms) e m f a h = (rw a h, tt)
first_next v (x ∷ es) (n ∷ ms) e m f a h = (f.0, first_next v es ms e m f.1 a h)
