-- The text of a form has the line ends of the form, since no value has one; and so have the bytes that reading it takes. Assumes nothing.
use Rattle.std.specs.Prelude.{◌≡◌, refl, Bool, true, false, List, [], ◌∷◌, ◌++◌, ℕ, zero, suc, ◌+◌, ◌*◌, ◌/◌, ◌%◌, ◌≤◌, eqb, ltb, length, take, drop, ℤ, pos, nat_abs}
use Rattle.std.proofs.Common.{sym, ◌∙◌, zero-add, arith, eqb-true, ne_eqb, length-take-le, drop_at}
use Rattle.std.proofs.lemmas.Bool.{false≢true, eqb-false}
use Rattle.form.specs.Dec.{dec, dec_f}
use Rattle.form.specs.Hex.{hex_byte, hex}
use Rattle.form.specs.Form.{val_text, is_mark, head_z, tail_z, marks, form_at, form_text}
use Rattle.form.specs.FormLaws.{text_neg, text_pos, text_hex, all_bytes, form_one}
use Rattle.form.specs.Keys.{key_text}
use Rattle.form.specs.Many.{many_at, rows_text}
use Rattle.form.specs.ManyLaws.{many_one}
use Rattle.form.specs.Signed.{is_neg}
use Rattle.form.specs.Ends.{line_ends}

pub ends_append : (a b : List ℕ) → line_ends (a ++ b) ≡ line_ends a + line_ends b
ends_append [] b = sym (zero-add (line_ends b))
ends_append (c ∷ a) b = go (eqb c 10) refl (ends_append a b)
  where
    go : (k : Bool) → eqb c 10 ≡ k → line_ends (a ++ b) ≡ line_ends a + line_ends b → line_ends (c ∷ a ++ b) ≡ line_ends (c ∷ a) + line_ends b
    go true e ih = rw e (omega (arith, ih))
    go false e ih = rw e ih

-- a byte that is no line end, behind a text that has none
ends_snoc : (a : List ℕ) (c : ℕ) → line_ends a ≡ 0 → ¬ (c ≡ 10) → line_ends (a ++ (c ∷ [])) ≡ 0
ends_snoc a c e n = ends_append a (c ∷ []) ∙ rw (e, ne_eqb c 10 n)

ends_digits : (k n : ℕ) → line_ends (dec_f k n) ≡ 0
unfolding dec_f
ends_digits zero n = refl
ends_digits (suc k) n = go (ltb n 10) refl (ends_digits k (n / 10))
  where
    go : (b : Bool) → ltb n 10 ≡ b → line_ends (dec_f k (n / 10)) ≡ 0 → line_ends (dec_f (suc k) n) ≡ 0
    go true e ih = rw (e, ne_eqb (48 + n) 10 (λ z. omega arith))
    go false e ih = rw e (ends_snoc (dec_f k (n / 10)) (48 + n % 10) ih (λ z. omega arith))

ends_dec : (n : ℕ) → line_ends (dec n) ≡ 0
unfolding dec
ends_dec n = ends_digits (suc n) n

hex_end : (d : ℕ) → ¬ (hex_byte d ≡ 10)
hex_end d e = go (ltb d 10) refl
  where
    go : (b : Bool) → ltb d 10 ≡ b → ⊥
    go true f = let z : 48 + d ≡ 10 = rw f at e in omega arith
    go false f = let z : 87 + d ≡ 10 = rw f at e in omega arith

ends_hex : (k n : ℕ) → line_ends (hex k n) ≡ 0
unfolding hex
ends_hex zero n = refl
ends_hex (suc k) n = ends_snoc (hex k (n / 16)) (hex_byte (n % 16)) (ends_hex k (n / 16)) (hex_end (n % 16))

pub ends_value : (c : ℕ) (z : ℤ) → line_ends (val_text c z) ≡ 0
ends_value c z = go (eqb c 37) refl (is_neg z) refl
  where
    go : (b : Bool) → eqb c 37 ≡ b → (d : Bool) → is_neg z ≡ d → line_ends (val_text c z) ≡ 0
    go true e d g = rw (text_hex c z (eqb-true c 37 e)) (ends_hex 8 (nat_abs z))
    go false e true g = rw (text_neg c z (eqb-false c 37 e) g) (ends_dec (nat_abs z))
    go false e false g = rw (text_pos c z (eqb-false c 37 e) g) (ends_dec (nat_abs z))

pub mark_end : (c : ℕ) → is_mark c ≡ true → eqb c 10 ≡ false
mark_end c e = ne_eqb c 10 (λ z. false≢true (rw z at e))

pub ends_form : (f : List ℕ) (vs : List ℤ) → line_ends (form_text f vs) ≡ line_ends f
unfolding form_text
ends_form [] vs = refl
ends_form (c ∷ f) vs = go (is_mark c) refl (ends_form f)
  where
    go : (b : Bool) → is_mark c ≡ b → ((vs : List ℤ) → line_ends (form_text f vs) ≡ line_ends f) → line_ends (form_text (c ∷ f) vs) ≡ line_ends (c ∷ f)
    go true e ih = rw (e, mark_end c e) (ends_append (val_text c (head_z vs)) (form_text f (tail_z vs)) ∙ rw (ends_value c (head_z vs)) (zero-add _ ∙ ih (tail_z vs)))
    go false e ih = rw (e, ih vs)

pub ends_rows : (n : ℕ) (f : List ℕ) (vs : List ℤ) → line_ends (rows_text n f vs) ≡ n * line_ends f
unfolding rows_text
ends_rows zero f vs = omega arith
ends_rows (suc n) f vs =
    let a : List ℤ = take (marks f) vs in
    let b : List ℤ = drop (marks f) vs in
    ends_append (form_text f a) (rows_text n f b) ∙ omega (arith, ends_form f a, ends_rows n f b)

-- [5] a key has none where its form has none
pub ends_key : (f : List ℕ) (d w : ℕ) → line_ends f ≡ 0 → line_ends (key_text f d w) ≡ 0
unfolding key_text
ends_key f d w e = go (eqb w d) refl
  where
    go : (b : Bool) → eqb w d ≡ b → line_ends (key_text f d w) ≡ 0
    go true g = rw g
    go false g = rw g (ends_form f (pos w ∷ []) ∙ e)

-- ---- the bytes that reading takes

-- the bytes from `at` to n, where the text up to n is known
part : (s : List ℕ) (at n : ℕ) (v : List ℕ) → at ≤ length s → take n s ≡ take at s ++ v → drop at (take n s) ≡ v
part s at n v l e = rw (e, drop_at (take at s) v at (length-take-le at s l))

pub form_ends : (f s : List ℕ) (at : ℕ) → all_bytes f ≡ true → at ≤ length s → (form_at f s at).ok ≡ true → line_ends (drop at (take (form_at f s at).next s)) ≡ line_ends f
form_ends f s at b l e =
    let o = form_at f s at in
    rw (part s at o.next (form_text f o.vals) l (form_one f s at b l e).text) (ends_form f o.vals)

pub many_ends : (n : ℕ) (f s : List ℕ) (at : ℕ) → all_bytes f ≡ true → at ≤ length s → (many_at n f s at).ok ≡ true → line_ends (drop at (take (many_at n f s at).next s)) ≡ n * line_ends f
many_ends n f s at b l e =
    let r = many_at n f s at in
    rw (part s at r.next (rows_text n f r.vals) l (many_one n f s at b l e).text) (ends_rows n f r.vals)
