-- One byte of a form f at its place k: what reading, measuring, writing and trying values comes to there, where the byte is a mark and where it is not. Assumes nothing.
use Rattle.std.proofs.Common.{◌≡◌, ℕ, zero, suc, ◌+◌, ◌≤◌, ◌<◌, Option, Some, None, true, false, List, [], ◌∷◌, ◌++◌, ℤ, pos, length, get_or, set, drop, sym, ap, ◌∙◌, refl, add-one, arith, drop-cons, drop_of_length-le, length-append, ne_eqb, eq-eqb}
use Rattle.std.specs.List.{count_by}
use Rattle.std.proofs.lemmas.List.Edits.{sets}
use Rattle.std.proofs.lemmas.List.Recursion.{is_count_by}
use Rattle.form.specs.Put.{sets_append}
use Rattle.form.specs.Form.{byte_at, val_at, is_mark, push, failed, form_at, marks, form_text, val_text, head_z, tail_z, ok_val, fits}

head_at : (vs : List ℤ) (j : ℕ) → head_z (drop j vs) ≡ get_or vs j (pos 0)
head_at [] zero = refl
head_at [] (suc j) = refl
head_at (z ∷ vs) zero = refl
head_at (z ∷ vs) (suc j) = head_at vs j

tail_at : (vs : List ℤ) (j : ℕ) → tail_z (drop j vs) ≡ drop (suc j) vs
tail_at [] zero = refl
tail_at [] (suc j) = refl
tail_at (z ∷ vs) zero = refl
tail_at (z ∷ vs) (suc j) = tail_at vs j

-- how many marks a form has
pub marks_count : (f : List ℕ) → count_by is_mark f ≡ marks f
marks_count f = sym (is_count_by marks is_mark refl (λ c r. let e : 1 + marks r ≡ suc (marks r) = omega arith in rw e) f)

-- the end of the form
module _ (f : List ℕ) (k : ℕ) (h : length f ≤ k) where
  pub marks_end : marks (drop k f) ≡ 0
  marks_end = rw (drop_of_length-le f h)

  pub form_end : (s : List ℕ) (i : ℕ) → form_at (drop k f) s i ≡ record { ok = true; next = i; vals = [] }
  unfolding form_at
  form_end s i = rw (drop_of_length-le f h)

  pub text_end : (vs : List ℤ) → form_text (drop k f) vs ≡ []
  unfolding form_text
  text_end vs = rw (drop_of_length-le f h)

  pub fits_end : (vs : List ℤ) → fits (drop k f) vs ≡ true
  unfolding fits
  fits_end vs = rw (drop_of_length-le f h)

module _ (f : List ℕ) (k : ℕ) (h : k < length f) where
  -- a mark
  module _ (m : is_mark (get_or f k 0) ≡ true) where
    pub marks_mark : marks (drop k f) ≡ suc (marks (drop (k + 1) f))
    marks_mark = rw (add-one k, drop-cons f k 0 h, m)

    pub form_val : (s : List ℕ) (i : ℕ) (z : ℤ) (n : ℕ) → val_at (get_or f k 0) s i ≡ Some (z, n) → form_at (drop k f) s i ≡ push z (form_at (drop (k + 1) f) s n)
    unfolding form_at
    form_val s i z n e = rw (add-one k, drop-cons f k 0 h, m, e)

    pub form_got : (s : List ℕ) (i b : ℕ) (z : ℤ) (n : ℕ) → get_or f k 0 ≡ b → ◌≡◌ {A = Option (ℤ × ℕ)} (Some (z, n)) (val_at b s i) → form_at (drop k f) s i ≡ push z (form_at (drop (k + 1) f) s n)
    form_got s i b z n q e = form_val s i z n (rw q (sym e))

    pub form_not : (s : List ℕ) (i : ℕ) → val_at (get_or f k 0) s i ≡ None → form_at (drop k f) s i ≡ failed
    unfolding form_at
    form_not s i e = rw (drop-cons f k 0 h, m, e)

    pub text_mark : (vs : List ℤ) (j : ℕ) → form_text (drop k f) (drop j vs) ≡ val_text (get_or f k 0) (get_or vs j (pos 0)) ++ form_text (drop (k + 1) f) (drop (j + 1) vs)
    unfolding form_text
    text_mark vs j = rw (add-one k, add-one j, drop-cons f k 0 h, m, head_at vs j, tail_at vs j)

    pub len_mark : (vs : List ℤ) (j : ℕ) → length (form_text (drop k f) (drop j vs)) ≡ length (val_text (get_or f k 0) (get_or vs j (pos 0))) + length (form_text (drop (k + 1) f) (drop (j + 1) vs))
    len_mark vs j = ap length (text_mark vs j) ∙ simp length-append

    pub put_mark : (b : List ℕ) (at : ℕ) (vs : List ℤ) (j : ℕ)
        → sets b at (form_text (drop k f) (drop j vs)) ≡ sets (sets b at (val_text (get_or f k 0) (get_or vs j (pos 0)))) (at + length (val_text (get_or f k 0) (get_or vs j (pos 0)))) (form_text (drop (k + 1) f) (drop (j + 1) vs))
    put_mark b at vs j = ap (sets b at) (text_mark vs j) ∙ sets_append b at (val_text (get_or f k 0) (get_or vs j (pos 0))) (form_text (drop (k + 1) f) (drop (j + 1) vs))

    pub fits_yes : (vs : List ℤ) (j : ℕ) → ok_val (get_or f k 0) (get_or vs j (pos 0)) ≡ true → fits (drop k f) (drop j vs) ≡ fits (drop (k + 1) f) (drop (j + 1) vs)
    unfolding fits
    fits_yes vs j o = rw (add-one k, add-one j, drop-cons f k 0 h, m, head_at vs j, tail_at vs j, o)

    pub fits_no : (vs : List ℤ) (j : ℕ) → ok_val (get_or f k 0) (get_or vs j (pos 0)) ≡ false → fits (drop k f) (drop j vs) ≡ false
    unfolding fits
    fits_no vs j o = rw (drop-cons f k 0 h, m, head_at vs j, o)

  -- a byte of its own
  module _ (m : is_mark (get_or f k 0) ≡ false) where
    pub marks_lit : marks (drop k f) ≡ marks (drop (k + 1) f)
    marks_lit = rw (add-one k, drop-cons f k 0 h, m)

    pub form_lit : (s : List ℕ) (i : ℕ) → byte_at s i ≡ get_or f k 0 → form_at (drop k f) s i ≡ form_at (drop (k + 1) f) s (i + 1)
    unfolding form_at
    form_lit s i e = rw (add-one k, add-one i, drop-cons f k 0 h, m, eq-eqb (byte_at s i) (get_or f k 0) e)

    pub form_other : (s : List ℕ) (i : ℕ) → (byte_at s i ≡ get_or f k 0 → ⊥) → form_at (drop k f) s i ≡ failed
    unfolding form_at
    form_other s i e = rw (drop-cons f k 0 h, m, ne_eqb (byte_at s i) (get_or f k 0) e)

    pub text_lit : (vs : List ℤ) → form_text (drop k f) vs ≡ get_or f k 0 ∷ form_text (drop (k + 1) f) vs
    unfolding form_text
    text_lit vs = rw (add-one k, drop-cons f k 0 h, m)

    pub len_lit : (vs : List ℤ) → length (form_text (drop k f) vs) ≡ suc (length (form_text (drop (k + 1) f) vs))
    len_lit vs = ap length (text_lit vs)

    pub put_lit : (b : List ℕ) (at : ℕ) (vs : List ℤ) → sets b at (form_text (drop k f) vs) ≡ sets (set b at (get_or f k 0)) (at + 1) (form_text (drop (k + 1) f) vs)
    put_lit b at vs = rw (add-one at) (ap (sets b at) (text_lit vs))

    pub fits_lit : (vs : List ℤ) → fits (drop k f) vs ≡ fits (drop (k + 1) f) vs
    unfolding fits
    fits_lit vs = rw (add-one k, drop-cons f k 0 h, m)

pub ruleset reading = (marks_mark, marks_lit, marks_end, form_end, form_val, form_not, form_lit, form_other)

pub ruleset measuring = (marks_mark, marks_lit, marks_end, text_end, len_mark, len_lit)

pub ruleset writing = (marks_mark, marks_lit, marks_end, text_end, put_mark, put_lit, len_mark, len_lit)

pub ruleset fitting = (marks_mark, marks_lit, marks_end, fits_end, fits_yes, fits_no, fits_lit)
