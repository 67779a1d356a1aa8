-- [5] Laws of keys, over any form with one value: a key's text is read back, what is read is its one text, and `unsaid` written out is malformed. Assumes nothing.
use Rattle.std.specs.Prelude.{eqb, false, length, refl, true, Option, Some, None, ◌≡◌, List, [], ◌∷◌, ◌++◌, map, Bool, ℕ, suc, ◌+◌, ◌≤◌, ◌<◌, get_or, take, drop, ℤ, pos}
use Rattle.std.proofs.Common.{add-zero, eq-eqb, eqb-true, lt-ltb, ne_eqb, sym, ap, ◌∙◌, append-nil, add-one, arith, drop-drop}
use Rattle.std.proofs.lemmas.Bool.{false≢true}
use Rattle.std.proofs.lemmas.List.Edits.{sets}
use Rattle.std.proofs.Math.Seq.{drop-append_seam}
use Rattle.form.specs.Form.{head_or, byte_at, is_mark, marks, form_at, form_text, taken_of, fits}
use Rattle.form.specs.DecLaws.{some_pair}
use Rattle.form.specs.FormLaws.{form_one, form_back, all_bytes, plain, parted, unword, ok_words, small_oks, small_z, and_i}
use Rattle.form.specs.Put.{sets_all}
use Rattle.form.specs.RunLaws.{form_length, took, not_taken}
use Rattle.form.specs.Words.{word_of}
use Rattle.form.specs.Keys.{Key, said_of, key_of, bad_key, key_at, key_text, unlike}

-- a form does not stand where its first bytes do not
pub unlike_not : (f s : List ℕ) (at : ℕ) → unlike f (drop at s) ≡ true → (form_at f s at).ok ≡ false
unfolding form_at byte_at
unlike_not [] s at e = absurd (false≢true e)
unlike_not (c ∷ f) s at e = go (is_mark c) refl (eqb (head_or (drop at s)) c) refl (unlike_not f s (suc at))
  where
    go : (a : Bool) → is_mark c ≡ a → (b : Bool) → eqb (head_or (drop at s)) c ≡ b → (unlike f (drop (suc at) s) ≡ true → (form_at f s (suc at)).ok ≡ false) → (form_at (c ∷ f) s at).ok ≡ false
    go true m b k ih = absurd (false≢true (rw m at e))
    go false m true k ih = rw (m, k) (ih (rw (m, k, drop-drop 1 at s, add-one at) at e))
    go false m false k ih = rw (m, k)

-- and then the key is not said: it has the value d, and no byte is taken
pub key_absent : (f : List ℕ) (d : ℕ) (s : List ℕ) (at : ℕ) → unlike f (drop at s) ≡ true → key_at f d s at ≡ key_of at d
unfolding key_at
key_absent f d s at u = rw (unlike_not f s at u)

-- nor is it where another byte stands than its first
pub key_elsewhere : (c : ℕ) (f : List ℕ) (d : ℕ) (s : List ℕ) (at : ℕ) → is_mark c ≡ false → ¬ (byte_at s at ≡ c) → key_at (c ∷ f) d s at ≡ key_of at d
unfolding key_at form_at
key_elsewhere c f d s at m n = rw (m, ne_eqb (byte_at s at) c n)

-- the one value of a form
one_value : (vs : List ℤ) → length vs ≡ 1 → map unword vs ≡ vs → ◌≡◌ {A = List ℤ} (pos (word_of (get_or vs 0 (pos 0))) ∷ []) vs
one_value [] l e = absurd (omega arith)
one_value (z ∷ []) l e = e
one_value (z ∷ y ∷ zs) l e = absurd (omega arith)

-- what is read as a key is its one text
pub record KeyRead (f : List ℕ) (d : ℕ) (s : List ℕ) (at : ℕ) (k : Key) : Type 0 where
  pub text : take k.next s ≡ take at s ++ key_text f d k.word
  pub room : k.next ≤ length s

module _ (f : List ℕ) (d : ℕ) (p : plain f ≡ true) (m : marks f ≡ 1) where
  pub key_one : (s : List ℕ) (at : ℕ) → all_bytes f ≡ true → at ≤ length s → (key_at f d s at).ok ≡ true → KeyRead f d s at (key_at f d s at)
  unfolding key_at key_text
  key_one s at b l e = go (form_at f s at).ok refl (eqb (word_of (get_or (form_at f s at).vals 0 (pos 0))) d) refl
    where
      go : (x : Bool) → (form_at f s at).ok ≡ x → (y : Bool) → eqb (word_of (get_or (form_at f s at).vals 0 (pos 0))) d ≡ y → KeyRead f d s at (key_at f d s at)
      go false k y g = rw k (record { text = rw (eq-eqb d d refl) (sym (append-nil (take at s))); room = l })
      go true k true g = absurd (false≢true (rw (k, g) at e))
      go true k false g =
          let r = form_one f s at b l k in
          let n : length (form_at f s at).vals ≡ marks f = form_length f s at k in
          let v = one_value (form_at f s at).vals (n ∙ m) (ok_words f (form_at f s at).vals p n r.fits) in
          rw (k, g) (record { text = rw (g, v) r.text; room = r.room })

  carries : (w : ℕ) → w < 4294967296 → fits f (pos w ∷ []) ≡ true
  carries w l = small_oks f (pos w ∷ []) p (and_i (small_z (pos w)) true (lt-ltb w 4294967296 l) refl)

  -- the text of a key is read back, whatever stands behind it that goes on with no digit and cannot be taken for the key
  pub key_back : (w : ℕ) (a q : List ℕ) → w < 4294967296 → parted f q ≡ true → unlike f q ≡ true → key_at f d (a ++ (key_text f d w ++ q)) (length a) ≡ key_of (length a + length (key_text f d w)) w
  unfolding key_at key_text
  key_back w a q l h u = go (eqb w d) refl
    where
      go : (y : Bool) → eqb w d ≡ y → key_at f d (a ++ (key_text f d w ++ q)) (length a) ≡ key_of (length a + length (key_text f d w)) w
      go true g =
          let n : (form_at f (a ++ q) (length a)).ok ≡ false = unlike_not f (a ++ q) (length a) (rw (drop-append_seam a q) u) in
          rw (g, n, add-zero (length a)) (ap (key_of (length a)) (sym (eqb-true w d g)))
      go false g = rw (g, form_back f (pos w ∷ []) a q (sym m) (carries w l) h, lt-ltb w 4294967296 l, g)

  -- d written out is malformed
  pub key_default : (a q : List ℕ) → d < 4294967296 → parted f q ≡ true → key_at f d (a ++ (form_text f (pos d ∷ []) ++ q)) (length a) ≡ bad_key
  unfolding key_at
  key_default a q l h = rw (form_back f (pos d ∷ []) a q (sym m) (carries d l) h, lt-ltb d 4294967296 l, eq-eqb d d refl)

-- what holds of the text behind a key, and of the key's form with that text behind it, holds where the key may stand
pub key_then : (P : List ℕ → Bool) (f : List ℕ) (d w : ℕ) (q : List ℕ) → P q ≡ true → P (form_text f (pos w ∷ []) ++ q) ≡ true → P (key_text f d w ++ q) ≡ true
unfolding key_text
key_then P f d w q h k = go (eqb w d) refl
  where
    go : (y : Bool) → eqb w d ≡ y → P (key_text f d w ++ q) ≡ true
    go true g = rw g h
    go false g = rw g k

-- ---- what the functions cite
pub text_none : (f : List ℕ) (d w : ℕ) → w ≡ d → key_text f d w ≡ []
unfolding key_text
text_none f d w e = rw (eq-eqb w d e)

pub text_some : (f : List ℕ) (d w : ℕ) → (w ≡ d → ⊥) → key_text f d w ≡ form_text f (pos w ∷ [])
unfolding key_text
text_some f d w e = rw (ne_eqb w d e)

-- the form did not stand there; it stood there with a value w
module _ (f : List ℕ) (d : ℕ) (s : List ℕ) (at : ℕ) where
  pub key_off : (form_at f s at).ok ≡ false → key_of at d ≡ key_at f d s at
  unfolding key_at
  key_off o = rw o

  module _ (v : List ℤ) (w : ℕ) (o : (form_at f s at).ok ≡ true) (ev : v ≡ sets (pos 0 ∷ []) 0 (form_at f s at).vals) (m : marks f ≡ 1) (ew : w ≡ word_of (get_or v 0 (pos 0))) where
    value : w ≡ word_of (get_or (form_at f s at).vals 0 (pos 0))
    value = ew ∙ ap (λ (x : List ℤ). word_of (get_or x 0 (pos 0))) (ev ∙ sets_all (pos 0 ∷ []) (form_at f s at).vals (form_length f s at o ∙ m))

    pub key_bad : w ≡ d → bad_key ≡ key_at f d s at
    unfolding key_at
    key_bad g = rw (o, ← value, eq-eqb w d g)

    pub key_on : (w ≡ d → ⊥) → key_of (form_at f s at).next w ≡ key_at f d s at
    unfolding key_at
    key_on g = rw (o, ← value, ne_eqb w d g)

  -- and what is then said
  pub said_off : taken_of (form_at f s at) ≡ None → Some (d, at) ≡ said_of (key_at f d s at)
  said_off e = ap said_of (key_off (not_taken (form_at f s at) e))

  module _ (n : ℕ) (e : taken_of (form_at f s at) ≡ Some n) (v : List ℤ) (w : ℕ) (ev : v ≡ sets (pos 0 ∷ []) 0 (form_at f s at).vals) (m : marks f ≡ 1) (ew : w ≡ word_of (get_or v 0 (pos 0))) where
    pub said_bad : w ≡ d → None ≡ said_of (key_at f d s at)
    said_bad g = ap said_of (key_bad v w (took (form_at f s at) n e).0 ev m ew g)

    pub said_on : (w ≡ d → ⊥) → Some (w, n) ≡ said_of (key_at f d s at)
    said_on g = ap (λ (x : ℕ). Some (w, x)) (sym (took (form_at f s at) n e).1) ∙ ap said_of (key_on v w (took (form_at f s at) n e).0 ev m ew g)

-- what is said of a key tells all of it
pub said_key : (k : Key) (w n : ℕ) → said_of k ≡ Some (w, n) → (k.ok ≡ true) × (k.word ≡ w) × (k.next ≡ n)
said_key k w n e = go k.ok refl
  where
    go : (b : Bool) → k.ok ≡ b → (k.ok ≡ true) × (k.word ≡ w) × (k.next ≡ n)
    go true p = let q = some_pair (rw p at e) in (p, q.0, q.1)
    go false p = let q : ◌≡◌ {A = Option (ℕ × ℕ)} None (Some (w, n)) = rw p at e in cc

pub ill_said : (k : Key) → said_of k ≡ None → k.ok ≡ false
ill_said k e = go k.ok refl
  where
    go : (b : Bool) → k.ok ≡ b → k.ok ≡ false
    go true p = let q : ◌≡◌ {A = Option (ℕ × ℕ)} (Some (k.word, k.next)) None = rw p at e in cc
    go false p = p
