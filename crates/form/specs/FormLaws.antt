-- Laws of forms: a form's text is read back, and what is read is the form's one text. Assumes nothing.
use Rattle.std.specs.Prelude.{Option, Some, None, ◌≡◌, refl, List, [], ◌∷◌, ◌++◌, map, Bool, true, false, cond, ◌&&◌, ℕ, zero, suc, ◌+◌, ◌-◌, ◌≤◌, ◌<◌, ◌^◌, length, get_or, take, drop, ℤ, pos, negsuc, nat_abs, ltb, eqb}
use Rattle.std.proofs.Common.{sym, ap, ◌∙◌, append_assoc, append-nil, add-zero, add-suc, suc-add, add_assoc, add-one, arith, length-append, length-drop, drop_of_length-le, take-add, drop-cons, take-suc, lt-ltb, eq-eqb, ne_eqb, ltb-true, ltb-false, eqb-true, SFits}
use Rattle.std.proofs.lemmas.Bool.{false≢true, eqb-false}
use Rattle.std.proofs.Math.Seq.{append_snoc, drop-append_seam, drop-append-add}
use Rattle.form.specs.Dec.{dec, num_at, num_start, digit_of}
use Rattle.form.specs.DecLaws.{some_pair, num_back, num_one, num_in, stops, len_20}
use Rattle.form.specs.Hex.{hex, hex_at}
use Rattle.form.specs.HexLaws.{hex_back, hex_one, hex_len}
use Rattle.form.specs.Signed.{is_neg, size_fits}
use Rattle.form.specs.Words.{word_of}
use Rattle.std.specs.Int.{w64}
use Rattle.form.specs.Form.{byte_at, pos_of, neg_of, val_at, val_text, is_mark, Out, push, failed, with_val, form_at, form_text, head_or, marks, head_z, tail_z, ok_val, fits}

-- what was read at `at` up to n is the text of the value
pub record ValRead (c : ℕ) (z : ℤ) (s : List ℕ) (at n : ℕ) : Type 0 where
  pub text : take n s ≡ take at s ++ val_text c z
  pub low : at ≤ n
  pub room : n ≤ length s
  pub fits : ok_val c z ≡ true

take_to : (s : List ℕ) (at n : ℕ) (x : List ℕ) → at ≤ n → take (n - at) (drop at s) ≡ x → take n s ≡ take at s ++ x
take_to s at n x h e =
    let k : n ≡ at + (n - at) = omega arith in
    ap (λ (j : ℕ). take j s) k ∙ take-add at (n - at) s ∙ ap (λ (y : List ℕ). take at s ++ y) e

-- a decimal and a hex number that stand at a place
dec_here : (m : ℕ) (s : List ℕ) (at w n : ℕ) → 9 ≤ m → num_at m s at ≡ Some (w, n) → (take n s ≡ take at s ++ dec w) × (at ≤ n) × (n ≤ length s) × (w ≤ m)
unfolding num_at
dec_here m s at w n h e =
    let r = num_one (drop at s) m at w n h e in
    (take_to s at n (dec w) r.low r.text, r.low, omega (arith, r.room, length-drop at s, num_in (drop at s) m at w n e), r.small)

hex_here : (s : List ℕ) (at w n : ℕ) → hex_at s at ≡ Some (w, n) → (take n s ≡ take at s ++ hex 8 w) × (at ≤ n) × (n ≤ length s) × (w < 4294967296)
unfolding hex_at hex
hex_here s at w n e =
    let r = hex_one (drop at s) 8 0 0 at w n (omega arith) e in
    let k : n - at ≡ 8 = omega (arith, r.next) in
    (take_to s at n (hex 8 w) (omega (arith, r.next)) (rw k r.text), omega (arith, r.next), omega (arith, r.next, r.room, length-drop at s), r.small)

pub mark_range : (c : ℕ) → is_mark c ≡ true → (35 ≤ c) × (c < 38)
mark_range c m = go (ltb c 35) refl
  where
    go : (b : Bool) → ltb c 35 ≡ b → (35 ≤ c) × (c < 38)
    go true e = absurd (false≢true (rw e at m))
    go false e = (ltb-false c 35 e, ltb-true c 38 (rw e at m))

-- a byte that stands at a place
pub byte_is : (s : List ℕ) (at b : ℕ) → b < 256 → byte_at s at ≡ b → (at < length s) × (get_or s at 0 ≡ b)
unfolding byte_at
byte_is s at b l e = go (ltb at (length s)) refl
  where
    go : (x : Bool) → ltb at (length s) ≡ x → (at < length s) × (get_or s at 0 ≡ b)
    go true f = let h : at < length s = ltb-true at (length s) f in (h, rw (drop-cons s at 0 h) at e)
    go false f = absurd (let h : 256 ≡ b = rw (drop_of_length-le s (ltb-false at (length s) f)) at e in omega arith)

-- the byte past the end, and the byte that a slice's `get` finds
pub byte_end : (s : List ℕ) (i : ℕ) → length s ≤ i → byte_at s i ≡ 256
unfolding byte_at
byte_end s i h = rw (drop_of_length-le s h)

pub byte_in : (s : List ℕ) (i b : ℕ) → i < length s → b ≡ get_or s i b → byte_at s i ≡ b
unfolding byte_at
byte_in s i b h e = rw (drop-cons s i b h) (sym e)

-- the text up to a byte, and the byte
pub take_byte : (s : List ℕ) (at b : ℕ) → b < 256 → byte_at s at ≡ b → take (suc at) s ≡ take at s ++ (b ∷ [])
take_byte s at b l e = let (h, g) = byte_is s at b l e in rw (take-suc s at 0 h, g)

-- what is read at a mark is the value's one text
pub val_one : (c : ℕ) (s : List ℕ) (at : ℕ) (z : ℤ) (n : ℕ) → is_mark c ≡ true → val_at c s at ≡ Some (z, n) → ValRead c z s at n
unfolding val_at val_text
val_one c s at z n m e = by_dec (eqb c 35) refl
  where
    by_pos : (r : Option (ℕ × ℕ)) (b : ℕ) → 9 ≤ b → b < 9223372036854775808 → num_at b s at ≡ r → eqb c 37 ≡ false
        → ((w : ℕ) → w ≤ b → ok_val c (pos w) ≡ true) → pos_of r ≡ Some (z, n) → ValRead c z s at n
    by_pos (Some (w, k)) b l u f g o e =
        let (t, a, q, v) = dec_here b s at w k l f in
        let p = some_pair e in
        rw (← p.0, ← p.1) (record { text = rw g t; low = a; room = q; fits = o w v })
    by_pos None b l u f g o e = cc

    by_neg : (r : Option (ℕ × ℕ)) → num_at 9223372036854775808 s (suc at) ≡ r → c ≡ 36 → byte_at s at ≡ 45 → neg_of r ≡ Some (z, n) → ValRead c z s at n
    by_neg (Some (zero, k)) f g h e = cc
    by_neg (Some (suc v, k)) f g h e =
        let (t, a, q, u) = dec_here 9223372036854775808 s (suc at) (suc v) k (omega arith) f in
        let p = some_pair e in
        rw (← p.0, ← p.1) (record {
          text = rw (ne_eqb c 37 (omega arith)) (t ∙ ap (λ (y : List ℕ). y ++ dec (suc v)) (take_byte s at 45 (omega arith) h) ∙ append_snoc (take at s) 45 (dec (suc v)));
          low = omega arith;
          room = q;
          fits = rw (eq-eqb c 36 g) (lt-ltb v 9223372036854775808 (omega arith));
        })
    by_neg None f g h e = cc

    by_hex : (r : Option (ℕ × ℕ)) → hex_at s at ≡ r → c ≡ 37 → pos_of r ≡ Some (z, n) → ValRead c z s at n
    by_hex (Some (w, k)) f g e =
        let (t, a, q, u) = hex_here s at w k f in
        let p = some_pair e in
        rw (← p.0, ← p.1) (record { text = rw (eq-eqb c 37 g) t; low = a; room = q; fits = rw (ne_eqb c 36 (omega arith)) (lt-ltb w 4294967296 u) })
    by_hex None f g e = cc

    by_sign : (b : Bool) → eqb (byte_at s at) 45 ≡ b → c ≡ 36
        → cond b (neg_of (num_at 9223372036854775808 s (suc at))) (pos_of (num_at 9223372036854775807 s at)) ≡ Some (z, n) → ValRead c z s at n
    by_sign true f g e = by_neg (num_at 9223372036854775808 s (suc at)) refl g (eqb-true (byte_at s at) 45 f) e
    by_sign false f g e =
        by_pos (num_at 9223372036854775807 s at) 9223372036854775807 (omega arith) (omega arith) refl (ne_eqb c 37 (omega arith))
        (λ w l. rw (eq-eqb c 36 g) (lt-ltb w 9223372036854775808 (omega arith))) e

    by_36 : (b : Bool) → eqb c 36 ≡ b → eqb c 35 ≡ false → ValRead c z s at n
    by_36 true f g = by_sign (eqb (byte_at s at) 45) refl (eqb-true c 36 f) (rw (g, f) at e)
    by_36 false f g =
        let (a, b) = mark_range c m in
        let h : c ≡ 37 = omega (arith, eqb-false c 36 f, eqb-false c 35 g) in
        by_hex (hex_at s at) refl h (rw (g, f) at e)

    by_dec : (b : Bool) → eqb c 35 ≡ b → ValRead c z s at n
    by_dec true f =
        let h : c ≡ 35 = eqb-true c 35 f in
        by_pos (num_at 4294967295 s at) 4294967295 (omega arith) (omega arith) refl (ne_eqb c 37 (omega arith))
        (λ w l. rw (ne_eqb c 36 (omega arith)) (lt-ltb w 4294967296 (omega arith))) (rw f at e)
    by_dec false f = by_36 (eqb c 36) refl f

-- no number starts with a minus
no_minus : (t : List ℕ) (m i w n : ℕ) → num_start m i t ≡ Some (w, n) → head_or t ≡ 45 → ⊥
unfolding num_start
no_minus [] m i w n e h = absurd (omega arith)
no_minus (c ∷ t) m i w n e h = let g : ◌≡◌ {A = Option (ℕ × ℕ)} None (Some (w, n)) = rw h at e in cc

drop_next : (p : List ℕ) (c : ℕ) (x : List ℕ) → drop (suc (length p)) (p ++ c ∷ x) ≡ x
drop_next p c x = rw (add-one (length p)) at (drop-append-add p (c ∷ x) 1)

-- the text of a value is read back, whatever stands behind it that is no digit
pub val_back : (c : ℕ) (z : ℤ) (p q : List ℕ) → is_mark c ≡ true → ok_val c z ≡ true → stops q ≡ true
    → val_at c (p ++ (val_text c z ++ q)) (length p) ≡ Some (z, length p + length (val_text c z))
unfolding val_at val_text num_at hex_at byte_at
val_back c z p q m o h = by_dec (eqb c 35) refl
  where
    goal : ℤ → Type 0
    goal z = val_at c (p ++ (val_text c z ++ q)) (length p) ≡ Some (z, length p + length (val_text c z))

    by_pos : (n b : ℕ) → n ≤ b → num_start b (length p) (drop (length p) (p ++ (dec n ++ q))) ≡ Some (n, length p + length (dec n))
    by_pos n b l = rw drop-append_seam (num_back b n (length p) q l h)

    dec_35 : (z : ℤ) → ok_val c z ≡ true → c ≡ 35 → goal z
    dec_35 (pos n) o e =
        let l : n < 4294967296 = ltb-true n 4294967296 (rw (ne_eqb c 36 (omega arith)) at o) in
        rw (eq-eqb c 35 e, ne_eqb c 37 (omega arith), by_pos n 4294967295 (omega arith))
    dec_35 (negsuc n) o e = absurd (false≢true (rw (ne_eqb c 36 (omega arith)) at o))

    dec_36 : (z : ℤ) → ok_val c z ≡ true → c ≡ 36 → goal z
    dec_36 (pos n) o e =
        let l : n < 9223372036854775808 = ltb-true n 9223372036854775808 (rw (eq-eqb c 36 e) at o) in
        let g = by_pos n 9223372036854775807 (omega arith) in
        rw (ne_eqb c 35 (omega arith), eq-eqb c 36 e, ne_eqb c 37 (omega arith), ne_eqb (head_or (drop (length p) (p ++ (dec n ++ q)))) 45 (no_minus _ _ _ _ _ g), g)
    dec_36 (negsuc n) o e =
        let l : n < 9223372036854775808 = ltb-true n 9223372036854775808 (rw (eq-eqb c 36 e) at o) in
        rw (ne_eqb c 35 (omega arith), eq-eqb c 36 e, ne_eqb c 37 (omega arith), drop-append_seam, drop_next, num_back 9223372036854775808 (suc n) (suc (length p)) q (omega arith) h) (ap (λ (k : ℕ). Some (negsuc n, k)) (omega arith))

    hex_37 : (z : ℤ) → ok_val c z ≡ true → c ≡ 37 → goal z
    hex_37 (pos n) o e =
        let l : n < 4294967296 = ltb-true n 4294967296 (rw (ne_eqb c 36 (omega arith)) at o) in
        rw (ne_eqb c 35 (omega arith), ne_eqb c 36 (omega arith), eq-eqb c 37 e, drop-append_seam, hex_back 8 n (length p) q l, hex_len)
    hex_37 (negsuc n) o e = absurd (false≢true (rw (ne_eqb c 36 (omega arith)) at o))

    by_36 : (b : Bool) → eqb c 36 ≡ b → eqb c 35 ≡ false → goal z
    by_36 true f g = dec_36 z o (eqb-true c 36 f)
    by_36 false f g = let (a, b) = mark_range c m in hex_37 z o (omega (arith, eqb-false c 36 f, eqb-false c 35 g))

    by_dec : (b : Bool) → eqb c 35 ≡ b → goal z
    by_dec true f = dec_35 z o (eqb-true c 35 f)
    by_dec false f = by_36 (eqb c 36) refl f

-- ---- whole forms

-- behind each value of a form stands a byte of the form that is no digit; behind its last byte stands q
abbrev pub apart : List ℕ → List ℕ → Bool
apart [] q = stops q
apart (d ∷ f) q = cond (is_mark d) false (ltb 9 (digit_of d))

abbrev pub parted : List ℕ → List ℕ → Bool
parted [] q = true
parted (c ∷ f) q = let r = parted f q in cond (is_mark c) (apart f q && r) r

-- what was read at `at` is the form's text with the values read
pub record FormRead (f s : List ℕ) (at : ℕ) (o : Out) : Type 0 where
  pub text : take o.next s ≡ take at s ++ form_text f o.vals
  pub low : at ≤ o.next
  pub room : o.next ≤ length s
  pub fits : fits f o.vals ≡ true

abbrev pub all_bytes : List ℕ → Bool
all_bytes [] = true
all_bytes (c ∷ f) = ltb c 256 && all_bytes f

pub and_i : (a b : Bool) → a ≡ true → b ≡ true → (a && b) ≡ true
and_i a b p q = rw (p, q)

pub and_1 : (a b : Bool) → (a && b) ≡ true → a ≡ true
and_1 true b e = refl
and_1 false b e = e

pub and_2 : (a b : Bool) → (a && b) ≡ true → b ≡ true
and_2 true b e = e
and_2 false b e = absurd (false≢true e)

-- a form that starts with a byte of its own stands only where that byte does
pub first_byte : (c : ℕ) (f s : List ℕ) → is_mark c ≡ false → (form_at (c ∷ f) s 0).ok ≡ true → byte_at s 0 ≡ c
unfolding form_at
first_byte c f s m k = go (eqb (byte_at s 0) c) refl
  where
    go : (b : Bool) → eqb (byte_at s 0) c ≡ b → byte_at s 0 ≡ c
    go true e = eqb-true (byte_at s 0) c e
    go false e = let z : false ≡ true = rw (m, e) at k in absurd (false≢true z)

-- what is read as a form is the one text of the values read
pub form_one : (f s : List ℕ) (at : ℕ) → all_bytes f ≡ true → at ≤ length s → (form_at f s at).ok ≡ true → FormRead f s at (form_at f s at)
unfolding form_at form_text fits
form_one [] s at w l e = record { text = sym (append-nil (take at s)); low = omega arith; room = l; fits = refl }
form_one (c ∷ f) s at w l e = go (is_mark c) refl (form_one f s)
  where
    Ih : Type 0
    Ih = (at : ℕ) → all_bytes f ≡ true → at ≤ length s → (form_at f s at).ok ≡ true → FormRead f s at (form_at f s at)

    by_val : (v : Option (ℤ × ℕ)) → val_at c s at ≡ v → is_mark c ≡ true → (with_val v (λ n. form_at f s n)).ok ≡ true → Ih → FormRead (c ∷ f) s at (with_val v (λ n. form_at f s n))
    by_val (Some (z, n)) g m e ih =
        let v = val_one c s at z n m g in
        let r = ih n (and_2 (ltb c 256) (all_bytes f) w) v.room e in
        record {
          text = rw m (r.text ∙ ap (λ (x : List ℕ). x ++ form_text f (form_at f s n).vals) v.text ∙ append_assoc (take at s) (val_text c z) (form_text f (form_at f s n).vals));
          low = omega (arith, v.low, r.low);
          room = r.room;
          fits = rw m (and_i (ok_val c z) (fits f (form_at f s n).vals) v.fits r.fits);
        }
    by_val None g m e ih = absurd (false≢true e)

    by_lit : (b : Bool) → eqb (byte_at s at) c ≡ b → is_mark c ≡ false → (cond b (form_at f s (suc at)) failed).ok ≡ true → Ih
        → FormRead (c ∷ f) s at (cond b (form_at f s (suc at)) failed)
    by_lit true g m e ih =
        let a : c < 256 = ltb-true c 256 (and_1 (ltb c 256) (all_bytes f) w) in
        let b : byte_at s at ≡ c = eqb-true (byte_at s at) c g in
        let r = ih (suc at) (and_2 (ltb c 256) (all_bytes f) w) (byte_is s at c a b).0 e in
        record {
          text = rw m (r.text ∙ ap (λ (x : List ℕ). x ++ form_text f (form_at f s (suc at)).vals) (take_byte s at c a b) ∙ append_snoc (take at s) c (form_text f (form_at f s (suc at)).vals));
          low = omega (arith, r.low);
          room = r.room;
          fits = rw m r.fits;
        }
    by_lit false g m e ih = absurd (false≢true e)

    go : (b : Bool) → is_mark c ≡ b → Ih → FormRead (c ∷ f) s at (form_at (c ∷ f) s at)
    go true m ih = rw m (by_val (val_at c s at) refl m (rw m at e) ih)
    go false m ih = rw m (by_lit (eqb (byte_at s at) c) refl m (rw m at e) ih)

-- what follows a value in a form is no digit
pub apart_stops : (f : List ℕ) (vs : List ℤ) (q : List ℕ) → apart f q ≡ true → stops (form_text f vs ++ q) ≡ true
unfolding form_text
apart_stops [] vs q e = e
apart_stops (d ∷ f) vs q e = go (is_mark d) refl
  where
    go : (b : Bool) → is_mark d ≡ b → stops (form_text (d ∷ f) vs ++ q) ≡ true
    go true m = absurd (false≢true (rw m at e))
    go false m = rw m (rw m at e)

pub byte_seam : (p : List ℕ) (c : ℕ) (x : List ℕ) → byte_at (p ++ c ∷ x) (length p) ≡ c
unfolding byte_at
byte_seam p c x = rw (drop-append_seam p (c ∷ x))

abbrev pub read : ℕ → List ℤ → Out
read n vs = record { ok = true; next = n; vals = vs }

-- the text of a form with a fitting value for each mark is read back, whatever stands behind it
pub form_back : (f : List ℕ) (vs : List ℤ) (p q : List ℕ) → length vs ≡ marks f → fits f vs ≡ true → parted f q ≡ true
    → form_at f (p ++ (form_text f vs ++ q)) (length p) ≡ read (length p + length (form_text f vs)) vs
unfolding form_at form_text fits
form_back [] [] p q l o h = rw (add-zero (length p))
form_back [] (z ∷ zs) p q l o h = absurd (omega arith)
form_back (c ∷ f) vs p q l o h = go (is_mark c) refl vs l o (form_back f)
  where
    Ih : Type 0
    Ih = (vs : List ℤ) (p q : List ℕ) → length vs ≡ marks f → fits f vs ≡ true → parted f q ≡ true
        → form_at f (p ++ (form_text f vs ++ q)) (length p) ≡ read (length p + length (form_text f vs)) vs

    go : (b : Bool) → is_mark c ≡ b → (vs : List ℤ) → length vs ≡ marks (c ∷ f) → fits (c ∷ f) vs ≡ true → Ih
        → form_at (c ∷ f) (p ++ (form_text (c ∷ f) vs ++ q)) (length p) ≡ read (length p + length (form_text (c ∷ f) vs)) vs
    go true m [] l o ih = absurd (let k : 0 ≡ suc (marks f) = rw m at l in omega arith)
    go true m (z ∷ zs) l o ih =
        let k : suc (length zs) ≡ suc (marks f) = rw m at l in
        let o1 : (ok_val c z && fits f zs) ≡ true = rw m at o in
        let h1 : (apart f q && parted f q) ≡ true = rw m at h in
        let v = val_back c z p (form_text f zs ++ q) m (and_1 (ok_val c z) (fits f zs) o1) (apart_stops f zs q (and_1 (apart f q) (parted f q) h1)) in
        let r = ih zs (p ++ val_text c z) q (omega arith) (and_2 (ok_val c z) (fits f zs) o1) (and_2 (apart f q) (parted f q) h1) in
        rw (m, append_assoc (val_text c z) (form_text f zs) q, v, length-append (val_text c z) (form_text f zs)) (ap (push z) (rw (append_assoc p (val_text c z), length-append p (val_text c z), add_assoc (length p) (length (val_text c z)) (length (form_text f zs))) at r))
    go false m vs l o ih =
        let r = ih vs (p ++ (c ∷ [])) q (rw m at l) (rw m at o) (rw m at h) in
        rw (m, byte_seam p c (form_text f vs ++ q), eq-eqb c c refl) (rw (append_snoc p c (form_text f vs ++ q), length-append p (c ∷ []), add-one (length p), suc-add (length p) (length (form_text f vs)), ← add-suc (length p) (length (form_text f vs))) at r)

-- ---- lengths and writing

pub text_hex : (c : ℕ) (z : ℤ) → c ≡ 37 → val_text c z ≡ hex 8 (nat_abs z)
unfolding val_text
text_hex c z e = rw (eq-eqb c 37 e)

pub text_neg : (c : ℕ) (z : ℤ) → (c ≡ 37 → ⊥) → is_neg z ≡ true → val_text c z ≡ 45 ∷ dec (nat_abs z)
unfolding val_text
text_neg c (pos n) e f = absurd (false≢true f)
text_neg c (negsuc n) e f = rw (ne_eqb c 37 e)

pub text_pos : (c : ℕ) (z : ℤ) → (c ≡ 37 → ⊥) → is_neg z ≡ false → val_text c z ≡ dec (nat_abs z)
unfolding val_text
text_pos c (pos n) e f = rw (ne_eqb c 37 e)
text_pos c (negsuc n) e f = absurd (false≢true (sym f))

pub len_hex : (c : ℕ) (z : ℤ) → c ≡ 37 → length (val_text c z) ≡ 8
len_hex c z e = rw (text_hex c z e) (hex_len 8 (nat_abs z))

-- a value takes 21 bytes at the most where its size is below 2 ^ 64
pub val_most : (c : ℕ) (z : ℤ) → nat_abs z < 2 ^ 64 → length (val_text c z) ≤ 21
val_most c z h = go (eqb c 37) refl (is_neg z) refl
  where
    go : (b : Bool) → eqb c 37 ≡ b → (d : Bool) → is_neg z ≡ d → length (val_text c z) ≤ 21
    go true e d g = omega (arith, len_hex c z (eqb-true c 37 e))
    go false e true g = rw (text_neg c z (eqb-false c 37 e) g) (omega (arith, len_20 (nat_abs z) h))
    go false e false g = rw (text_pos c z (eqb-false c 37 e) g) (omega (arith, len_20 (nat_abs z) h))

pub len_val : (c : ℕ) (z : ℤ) → SFits w64 z → length (val_text c z) ≤ 21
len_val c z f = val_most c z (size_fits z f)

-- a form with no signed value: each value it can carry is a natural number of 32 bits
abbrev pub plain : List ℕ → Bool
plain [] = true
plain (c ∷ f) = cond (eqb c 36) false (plain f)

abbrev pub unword : ℤ → ℤ
unword z = pos (word_of z)

ok_word : (c : ℕ) (z : ℤ) → eqb c 36 ≡ false → ok_val c z ≡ true → unword z ≡ z
ok_word c (pos n) p o = let h : ltb n 4294967296 ≡ true = rw p at o in rw h
ok_word c (negsuc n) p o = absurd (false≢true (rw p at o))

pub ok_words : (f : List ℕ) (vs : List ℤ) → plain f ≡ true → length vs ≡ marks f → fits f vs ≡ true → map unword vs ≡ vs
unfolding fits
ok_words [] [] p l o = refl
ok_words [] (z ∷ zs) p l o = absurd (omega arith)
ok_words (c ∷ f) vs p l o = go (eqb c 36) refl (is_mark c) refl vs l o (ok_words f)
  where
    go : (a : Bool) → eqb c 36 ≡ a → (b : Bool) → is_mark c ≡ b → (vs : List ℤ) → length vs ≡ marks (c ∷ f) → fits (c ∷ f) vs ≡ true
        → ((vs : List ℤ) → plain f ≡ true → length vs ≡ marks f → fits f vs ≡ true → map unword vs ≡ vs) → map unword vs ≡ vs
    go true q b m vs l o ih = absurd (false≢true (rw q at p))
    go false q true m [] l o ih = refl
    go false q true m (z ∷ zs) l o ih =
        let k : suc (length zs) ≡ suc (marks f) = rw m at l in
        let o1 : (ok_val c z && fits f zs) ≡ true = rw m at o in
        rw (ok_word c z q (and_1 (ok_val c z) (fits f zs) o1), ih zs (rw q at p) (omega arith) (and_2 (ok_val c z) (fits f zs) o1))
    go false q false m vs l o ih = ih vs (rw q at p) (rw m at l) (rw m at o)

-- n values from the place i on
abbrev pub cells : ℕ → ℕ → List ℤ → List ℤ
cells zero i vs = []
cells (suc n) i vs = get_or vs i (pos 0) ∷ cells n (suc i) vs

pub cells_take : (n i : ℕ) (vs : List ℤ) → i + n ≤ length vs → cells n i vs ≡ take n (drop i vs)
cells_take zero i vs h = refl
cells_take (suc n) i vs h = rw (drop-cons vs i (pos 0) (omega arith), cells_take n (suc i) vs (omega arith))

-- values that a form with no signed value can carry
abbrev pub small_z : ℤ → Bool
small_z (pos n) = ltb n 4294967296
small_z (negsuc n) = false

abbrev pub all_small : List ℤ → Bool
all_small [] = true
all_small (z ∷ zs) = small_z z && all_small zs

small_ok : (c : ℕ) (z : ℤ) → eqb c 36 ≡ false → small_z z ≡ true → ok_val c z ≡ true
small_ok c (pos n) p o = rw p o
small_ok c (negsuc n) p o = absurd (false≢true o)

small_head : (vs : List ℤ) → all_small vs ≡ true → small_z (head_z vs) ≡ true
small_head [] o = refl
small_head (z ∷ zs) o = and_1 (small_z z) (all_small zs) o

small_tail : (vs : List ℤ) → all_small vs ≡ true → all_small (tail_z vs) ≡ true
small_tail [] o = refl
small_tail (z ∷ zs) o = and_2 (small_z z) (all_small zs) o

pub small_oks : (f : List ℕ) (vs : List ℤ) → plain f ≡ true → all_small vs ≡ true → fits f vs ≡ true
unfolding fits
small_oks [] vs p o = refl
small_oks (c ∷ f) vs p o = go (eqb c 36) refl (is_mark c) refl (small_oks f)
  where
    go : (a : Bool) → eqb c 36 ≡ a → (b : Bool) → is_mark c ≡ b → ((vs : List ℤ) → plain f ≡ true → all_small vs ≡ true → fits f vs ≡ true) → fits (c ∷ f) vs ≡ true
    go true q b m ih = absurd (false≢true (rw q at p))
    go false q true m ih = rw m (and_i (ok_val c (head_z vs)) (fits f (tail_z vs)) (small_ok c (head_z vs) q (small_head vs o)) (ih (tail_z vs) (rw q at p) (small_tail vs o)))
    go false q false m ih = rw m (ih vs (rw q at p) o)

-- neither the test of a form's values nor its text looks at values behind those of its marks
pub front_only : (f : List ℕ) (vs : List ℤ) → (fits f (take (marks f) vs) ≡ fits f vs) × (form_text f (take (marks f) vs) ≡ form_text f vs)
unfolding fits form_text
front_only [] vs = (refl, refl)
front_only (c ∷ f) vs = go (is_mark c) refl vs (front_only f)
  where
    go : (b : Bool) → is_mark c ≡ b → (vs : List ℤ) → ((vs : List ℤ) → (fits f (take (marks f) vs) ≡ fits f vs) × (form_text f (take (marks f) vs) ≡ form_text f vs))
        → (fits (c ∷ f) (take (marks (c ∷ f)) vs) ≡ fits (c ∷ f) vs) × (form_text (c ∷ f) (take (marks (c ∷ f)) vs) ≡ form_text (c ∷ f) vs)
    go true m [] ih = (rw m, rw m)
    go true m (z ∷ zs) ih = (rw (m, (ih zs).0), rw (m, (ih zs).1))
    go false m vs ih = (rw (m, (ih vs).0), rw (m, (ih vs).1))
