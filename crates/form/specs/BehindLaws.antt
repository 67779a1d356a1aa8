-- A reader looks at nothing behind its lines: two texts that show the same lines from a place on are read alike there. Assumes nothing.
use Rattle.std.specs.Prelude.{Option, Some, None, ◌≡◌, refl, Bool, true, false, cond, List, [], ◌∷◌, ◌++◌, ℕ, zero, suc, ◌+◌, ◌-◌, ◌*◌, ◌≤◌, ◌<◌, eqb, ltb, ℤ, length, take, drop}
use Rattle.std.proofs.Common.{ap, sym, ◌∙◌, append_assoc, zero-add, arith, eqb-true, ltb-true, take-append-drop}
use Rattle.std.proofs.lemmas.List.{append_cancel_left}
use Rattle.form.specs.Dec.{num_at, num_start, num_go, digit_of}
use Rattle.form.specs.Hex.{hex_at, hex_go, hex_of}
use Rattle.form.specs.Form.{head_or, byte_at, val_at, val_text, is_mark, push, failed, with_val, marks, form_at, form_text}
use Rattle.form.specs.FormLaws.{val_one, take_byte, byte_is, all_bytes, plain, and_1, and_2, FormRead, form_one}
use Rattle.form.specs.Many.{many_at, rows_text}
use Rattle.form.specs.ManyLaws.{RowsRead, many_one}
use Rattle.form.specs.Ends.{line_ends, first_lines, first_line}
use Rattle.form.specs.EndLaws.{ends_value, ends_form, ends_rows, ends_key, mark_end}
use Rattle.form.specs.Keys.{key_at, key_text}
use Rattle.form.specs.KeyLaws.{KeyRead, key_one}

-- ---- the first lines of a text

-- the first j of the first k lines are the first j
fewer_lines : (j k : ℕ) (s : List ℕ) → j ≤ k → first_lines j (first_lines k s) ≡ first_lines j s
unfolding first_lines
fewer_lines zero k s h = refl
fewer_lines (suc j) zero s h = absurd (omega arith)
fewer_lines (suc j) (suc k) [] h = refl
fewer_lines (suc j) (suc k) (c ∷ s) h = go (eqb c 10) refl (fewer_lines j k s (omega arith)) (fewer_lines (suc j) (suc k) s h)
  where
    go : (b : Bool) → eqb c 10 ≡ b → first_lines j (first_lines k s) ≡ first_lines j s → first_lines (suc j) (first_lines (suc k) s) ≡ first_lines (suc j) s
        → first_lines (suc j) (first_lines (suc k) (c ∷ s)) ≡ first_lines (suc j) (c ∷ s)
    go true e p q = rw (e, p)
    go false e p q = rw (e, q)

-- lines behind a part v of the text
past_lines : (v t : List ℕ) (k : ℕ) → first_lines (line_ends v + suc k) (v ++ t) ≡ v ++ first_lines (suc k) t
unfolding first_lines
past_lines [] t k = rw (zero-add (suc k))
past_lines (c ∷ v) t k = go (eqb c 10) refl (past_lines v t k)
  where
    go : (b : Bool) → eqb c 10 ≡ b → first_lines (line_ends v + suc k) (v ++ t) ≡ v ++ first_lines (suc k) t → first_lines (line_ends (c ∷ v) + suc k) ((c ∷ v) ++ t) ≡ (c ∷ v) ++ first_lines (suc k) t
    go true e ih = let q : suc (line_ends v) + suc k ≡ suc (line_ends v + suc k) = omega arith in rw (e, q, e, ih)
    go false e ih = let q : line_ends v + suc k ≡ suc (line_ends v + k) = omega arith in rw (e, q, e) (ap (λ (x : List ℕ). c ∷ x) (rw q at ih))

-- what stands from `at` on is the part v and what stands from n on
rest : (s : List ℕ) (at n : ℕ) (v : List ℕ) → take n s ≡ take at s ++ v → drop at s ≡ v ++ drop n s
rest s at n v e =
    append_cancel_left (take at s) (drop at s) (v ++ drop n s)
    (take-append-drop at s ∙ sym (take-append-drop n s) ∙ ap (λ (x : List ℕ). x ++ drop n s) e ∙ append_assoc (take at s) v (drop n s))

-- the same lines from a place on, and so from the end of a part that both texts have there
lines_next : (k : ℕ) (s s' : List ℕ) (at n : ℕ) (v : List ℕ) → take n s ≡ take at s ++ v → take n s' ≡ take at s' ++ v
    → first_lines (line_ends v + k) (drop at s) ≡ first_lines (line_ends v + k) (drop at s') → first_lines k (drop n s) ≡ first_lines k (drop n s')
unfolding first_lines
lines_next zero s s' at n v p p' e = refl
lines_next (suc k) s s' at n v p p' e =
    append_cancel_left v (first_lines (suc k) (drop n s)) (first_lines (suc k) (drop n s'))
    (sym (past_lines v (drop n s) k) ∙ (rw (rest s at n v p, rest s' at n v p') at e) ∙ past_lines v (drop n s') k)

-- ---- numbers and bytes: the first line of what stands there is all that is looked at

go_line : (t : List ℕ) (m v i : ℕ) → num_go m v i t ≡ num_go m v i (first_line t)
unfolding num_go first_lines
go_line [] m v i = refl
go_line (c ∷ t) m v i = go (eqb c 10) refl (go_line t m (v * 10 + digit_of c) (suc i))
  where
    go : (b : Bool) → eqb c 10 ≡ b → num_go m (v * 10 + digit_of c) (suc i) t ≡ num_go m (v * 10 + digit_of c) (suc i) (first_line t) → num_go m v i (c ∷ t) ≡ num_go m v i (first_line (c ∷ t))
    go true e ih = rw (eqb-true c 10 e)
    go false e ih = rw (e, ih)

num_line : (t : List ℕ) (m i : ℕ) → num_start m i t ≡ num_start m i (first_line t)
unfolding num_start first_lines
num_line [] m i = refl
num_line (c ∷ t) m i = go (eqb c 10) refl (go_line t m (digit_of c) (suc i))
  where
    go : (b : Bool) → eqb c 10 ≡ b → num_go m (digit_of c) (suc i) t ≡ num_go m (digit_of c) (suc i) (first_line t) → num_start m i (c ∷ t) ≡ num_start m i (first_line (c ∷ t))
    go true e ih = rw (eqb-true c 10 e)
    go false e ih = rw (e, ih)

hex_line : (t : List ℕ) (k v i : ℕ) → hex_go k v i t ≡ hex_go k v i (first_line t)
unfolding hex_go first_lines
hex_line t zero v i = refl
hex_line [] (suc k) v i = refl
hex_line (c ∷ t) (suc k) v i = go (eqb c 10) refl (hex_line t k (v * 16 + hex_of c) (suc i))
  where
    go : (b : Bool) → eqb c 10 ≡ b → hex_go k (v * 16 + hex_of c) (suc i) t ≡ hex_go k (v * 16 + hex_of c) (suc i) (first_line t) → hex_go (suc k) v i (c ∷ t) ≡ hex_go (suc k) v i (first_line (c ∷ t))
    go true e ih = rw (eqb-true c 10 e)
    go false e ih = rw (e, ih)

head_line : (t : List ℕ) → head_or t ≡ head_or (first_line t)
unfolding first_lines
head_line [] = refl
head_line (c ∷ t) = refl

module _ (s s' : List ℕ) (at : ℕ) (same : first_line (drop at s) ≡ first_line (drop at s')) where
  num_alike : (m : ℕ) → num_at m s at ≡ num_at m s' at
  unfolding num_at
  num_alike m = num_line (drop at s) m at ∙ ap (num_start m at) same ∙ sym (num_line (drop at s') m at)

  hex_alike : hex_at s at ≡ hex_at s' at
  unfolding hex_at
  hex_alike = hex_line (drop at s) 8 0 at ∙ ap (hex_go 8 0 at) same ∙ sym (hex_line (drop at s') 8 0 at)

  byte_alike : byte_at s at ≡ byte_at s' at
  unfolding byte_at
  byte_alike = head_line (drop at s) ∙ ap head_or same ∙ sym (head_line (drop at s'))

  -- behind a byte that is no LF the first line goes on
  byte_goes_on : (b : ℕ) → b < 256 → eqb b 10 ≡ false → byte_at s at ≡ b → first_line (drop (suc at) s) ≡ first_line (drop (suc at) s')
  byte_goes_on b h n e = lines_next 1 s s' at (suc at) (b ∷ []) (take_byte s at b h e) (take_byte s' at b h (sym byte_alike ∙ e)) (rw n same)

-- ---- values

val_alike : (c : ℕ) (s s' : List ℕ) (at : ℕ) → first_line (drop at s) ≡ first_line (drop at s') → val_at c s at ≡ val_at c s' at
unfolding val_at
val_alike c s s' at same = go (eqb (byte_at s' at) 45) refl
  where
    go : (b : Bool) → eqb (byte_at s' at) 45 ≡ b → val_at c s at ≡ val_at c s' at
    go true e =
        let m : byte_at s at ≡ 45 = byte_alike s s' at same ∙ eqb-true (byte_at s' at) 45 e in
        let n = num_alike s s' (suc at) (byte_goes_on s s' at same 45 (omega arith) refl m) 9223372036854775808 in
        rw (byte_alike s s' at same, e, n, num_alike s s' at same 4294967295, hex_alike s s' at same)
    go false e = rw (byte_alike s s' at same, e, num_alike s s' at same 4294967295, num_alike s s' at same 9223372036854775807, hex_alike s s' at same)

-- behind a value the first line goes on
val_goes_on : (c : ℕ) (s s' : List ℕ) (at : ℕ) (z : ℤ) (n : ℕ) → is_mark c ≡ true → first_line (drop at s) ≡ first_line (drop at s') → val_at c s at ≡ Some (z, n)
    → first_line (drop n s) ≡ first_line (drop n s')
val_goes_on c s s' at z n m same e =
    lines_next 1 s s' at n (val_text c z) (val_one c s at z n m e).text (val_one c s' at z n m (sym (val_alike c s s' at same) ∙ e)).text
    (let q : line_ends (val_text c z) + 1 ≡ 1 = omega (arith, ends_value c z) in rw q same)

-- ---- forms

-- LF stands nowhere in a form but as its last byte
abbrev pub one_line : List ℕ → Bool
one_line [] = true
one_line (c ∷ f) = let r = one_line f in cond (eqb c 10) (eqb (length f) 0) r

no_bytes : (f : List ℕ) → eqb (length f) 0 ≡ true → f ≡ []
no_bytes [] e = refl
no_bytes (c ∷ f) e = absurd (omega (arith, eqb-true (suc (length f)) 0 e))

one_end : (f : List ℕ) → one_line f ≡ true → line_ends f ≤ 1
one_end [] o = omega arith
one_end (c ∷ f) o = go (eqb c 10) refl (one_end f)
  where
    go : (b : Bool) → eqb c 10 ≡ b → (one_line f ≡ true → line_ends f ≤ 1) → line_ends (c ∷ f) ≤ 1
    go true e ih = rw (e, no_bytes f (rw e at o)) (omega arith)
    go false e ih = rw e (ih (rw e at o))

form_alike : (f s s' : List ℕ) (at : ℕ) → all_bytes f ≡ true → one_line f ≡ true → first_line (drop at s) ≡ first_line (drop at s') → form_at f s at ≡ form_at f s' at
unfolding form_at
form_alike [] s s' at b o same = refl
form_alike (c ∷ f) s s' at b o same = go (is_mark c) refl (form_alike f s s')
  where
    Ih : Type 0
    Ih = (at : ℕ) → all_bytes f ≡ true → one_line f ≡ true → first_line (drop at s) ≡ first_line (drop at s') → form_at f s at ≡ form_at f s' at

    b2 : all_bytes f ≡ true
    b2 = and_2 (ltb c 256) (all_bytes f) b

    by_val : (v : Option (ℤ × ℕ)) → val_at c s at ≡ v → is_mark c ≡ true → Ih → with_val v (λ n. form_at f s n) ≡ with_val v (λ n. form_at f s' n)
    by_val (Some (z, n)) e m ih = ap (push z) (ih n b2 (rw (mark_end c m) at o) (val_goes_on c s s' at z n m same e))
    by_val None e m ih = refl

    by_lit : byte_at s at ≡ c → (x : Bool) → eqb c 10 ≡ x → Ih → form_at f s (suc at) ≡ form_at f s' (suc at)
    by_lit e true x ih = rw (no_bytes f (rw x at o))
    by_lit e false x ih = ih (suc at) b2 (rw x at o) (byte_goes_on s s' at same c (ltb-true c 256 (and_1 (ltb c 256) (all_bytes f) b)) x e)

    by_byte : (y : Bool) → eqb (byte_at s at) c ≡ y → Ih → cond y (form_at f s (suc at)) failed ≡ cond y (form_at f s' (suc at)) failed
    by_byte true e ih = by_lit (eqb-true (byte_at s at) c e) (eqb c 10) refl ih
    by_byte false e ih = refl

    go : (x : Bool) → is_mark c ≡ x → Ih → form_at (c ∷ f) s at ≡ form_at (c ∷ f) s' at
    go true m ih = rw (m, ← val_alike c s s' at same) (by_val (val_at c s at) refl m ih)
    go false m ih = rw (m, ← byte_alike s s' at same) (by_byte (eqb (byte_at s at) c) refl ih)

-- ---- going on from place to place

-- two texts show the same k lines from a place on
pub record SameLines (k : ℕ) (s s' : List ℕ) (at : ℕ) : Type 0 where
  pub lines : first_lines k (drop at s) ≡ first_lines k (drop at s')
  pub room : at ≤ length s
  pub room' : at ≤ length s'

-- a text and its first k lines show the same
pub same_start : (k : ℕ) (s : List ℕ) → SameLines k s (first_lines k s) 0
same_start k s = record { lines = sym (fewer_lines k k s (omega arith)); room = omega arith; room' = omega arith }

same_first : (k : ℕ) (s s' : List ℕ) (at : ℕ) → 0 < k → SameLines k s s' at → first_line (drop at s) ≡ first_line (drop at s')
same_first k s s' at h g = sym (fewer_lines 1 k (drop at s) h) ∙ ap first_line g.lines ∙ fewer_lines 1 k (drop at s') h

pub form_same : (f s s' : List ℕ) (at k : ℕ) → all_bytes f ≡ true → one_line f ≡ true → 0 < k → SameLines k s s' at → form_at f s at ≡ form_at f s' at
form_same f s s' at k b o h g = form_alike f s s' at b o (same_first k s s' at h g)

pub byte_same : (s s' : List ℕ) (at k : ℕ) → 0 < k → SameLines k s s' at → byte_at s at ≡ byte_at s' at
byte_same s s' at k h g = byte_alike s s' at (same_first k s s' at h g)

-- and so they do behind a form, behind n of them and behind a LF: as many lines less as these have
pub form_next : (f s s' : List ℕ) (at k : ℕ) → all_bytes f ≡ true → SameLines (line_ends f + k) s s' at → form_at f s at ≡ form_at f s' at → (form_at f s at).ok ≡ true
    → SameLines k s s' (form_at f s at).next
form_next f s s' at k b g e o =
    let r = form_one f s at b g.room o in
    let r' : FormRead f s' at (form_at f s at) = rw e (form_one f s' at b g.room' (rw e at o)) in
    let v : List ℕ = form_text f (form_at f s at).vals in
    record {
      lines = lines_next k s s' at (form_at f s at).next v r.text r'.text (rw (ends_form f (form_at f s at).vals) g.lines);
      room = r.room;
      room' = r'.room;
    }

pub many_next : (n : ℕ) (f s s' : List ℕ) (at k : ℕ) → all_bytes f ≡ true → SameLines (n * line_ends f + k) s s' at → many_at n f s at ≡ many_at n f s' at → (many_at n f s at).ok ≡ true
    → SameLines k s s' (many_at n f s at).next
many_next n f s s' at k b g e o =
    let r = many_one n f s at b g.room o in
    let r' : RowsRead n f s' at (many_at n f s at) = rw e (many_one n f s' at b g.room' (rw e at o)) in
    let v : List ℕ = rows_text n f (many_at n f s at).vals in
    record {
      lines = lines_next k s s' at (many_at n f s at).next v r.text r'.text (rw (ends_rows n f (many_at n f s at).vals) g.lines);
      room = r.room;
      room' = r'.room;
    }

pub end_next : (s s' : List ℕ) (at k : ℕ) → SameLines (suc k) s s' at → byte_at s at ≡ 10 → SameLines k s s' (suc at)
end_next s s' at k g e =
    let e' : byte_at s' at ≡ 10 = sym (byte_same s s' at (suc k) (omega arith) g) ∙ e in
    let q : 1 + k ≡ suc k = omega arith in
    record {
      lines = lines_next k s s' at (suc at) (10 ∷ []) (take_byte s at 10 (omega arith) e) (take_byte s' at 10 (omega arith) e') (rw q g.lines);
      room = (byte_is s at 10 (omega arith) e).0;
      room' = (byte_is s' at 10 (omega arith) e').0;
    }

-- [5] a key is read alike, and the same lines stand behind it, said or not
pub key_same : (f : List ℕ) (d : ℕ) (s s' : List ℕ) (at k : ℕ) → all_bytes f ≡ true → one_line f ≡ true → 0 < k → SameLines k s s' at → key_at f d s at ≡ key_at f d s' at
unfolding key_at
key_same f d s s' at k b o h g = rw (form_same f s s' at k b o h g)

pub key_next : (f : List ℕ) (d : ℕ) (s s' : List ℕ) (at k : ℕ) → plain f ≡ true → marks f ≡ 1 → all_bytes f ≡ true → line_ends f ≡ 0 → SameLines k s s' at
    → key_at f d s at ≡ key_at f d s' at → (key_at f d s at).ok ≡ true → SameLines k s s' (key_at f d s at).next
key_next f d s s' at k p m b l g e o =
    let r = key_one f d p m s at b g.room o in
    let r' : KeyRead f d s' at (key_at f d s at) = rw e (key_one f d p m s' at b g.room' (rw e at o)) in
    let v : List ℕ = key_text f d (key_at f d s at).word in
    let z : line_ends v + k ≡ k = omega (arith, ends_key f d (key_at f d s at).word l) in
    record {
      lines = lines_next k s s' at (key_at f d s at).next v r.text r'.text (rw z g.lines);
      room = r.room;
      room' = r'.room;
    }

-- rows are read alike where each row that was looked at starts on one of the k lines
pub many_same : (n : ℕ) (f s s' : List ℕ) (at k : ℕ) → all_bytes f ≡ true → one_line f ≡ true
    → ((i : ℕ) → i < n → i ≤ (many_at n f s at).good → i * line_ends f < k) → SameLines k s s' at → many_at n f s at ≡ many_at n f s' at
unfolding many_at
many_same zero f s s' at k b o h g = refl
many_same (suc n) f s s' at k b o h g = go (form_at f s at).ok refl (many_same n f s s')
  where
    p : 0 < k
    p = omega (arith, h 0 (omega arith) (omega arith))

    e : form_at f s at ≡ form_at f s' at
    e = form_same f s s' at k b o p g

    go : (x : Bool) → (form_at f s at).ok ≡ x
        → ((at k : ℕ) → all_bytes f ≡ true → one_line f ≡ true → ((i : ℕ) → i < n → i ≤ (many_at n f s at).good → i * line_ends f < k) → SameLines k s s' at → many_at n f s at ≡ many_at n f s' at)
        → many_at (suc n) f s at ≡ many_at (suc n) f s' at
    go true x ih =
        let l : line_ends f + (k - line_ends f) ≡ k = omega (arith, one_end f o, p) in
        let g1 : SameLines (line_ends f + (k - line_ends f)) s s' at = rw l g in
        let h1 : (i : ℕ) → i < n → i ≤ (many_at n f s (form_at f s at).next).good → i * line_ends f < k - line_ends f =
        λ i a c. omega (arith, h (suc i) (omega arith) (rw x (omega arith))) in
        let r = ih (form_at f s at).next (k - line_ends f) b o h1 (form_next f s s' at (k - line_ends f) b g1 e x) in
        rw (← e, x, r)
    go false x ih = rw (← e, x)

-- ---- at the start of a text

-- a form is read as at the start of the first line
pub form_line : (f s : List ℕ) → all_bytes f ≡ true → one_line f ≡ true → form_at f s 0 ≡ form_at f (first_line s) 0
form_line f s b o = form_same f s (first_line s) 0 1 b o (omega arith) (same_start 1 s)

-- n rows of a line each: any text that starts with their n lines, or with the lines up to the first that does not stand there, is read alike
pub many_lines : (n : ℕ) (f s s' : List ℕ) → all_bytes f ≡ true → one_line f ≡ true → line_ends f ≡ 1
    → first_lines (cond (many_at n f s 0).ok n (suc (many_at n f s 0).good)) s ≡ first_lines (cond (many_at n f s 0).ok n (suc (many_at n f s 0).good)) s'
    → many_at n f s 0 ≡ many_at n f s' 0
many_lines n f s s' b o l e = many_same n f s s' 0 _ b o (starts (many_at n f s 0).ok) (record { lines = e; room = omega arith; room' = omega arith })
  where
    starts : (x : Bool) (i : ℕ) → i < n → i ≤ (many_at n f s 0).good → i * line_ends f < cond x n (suc (many_at n f s 0).good)
    starts true i a c = rw l (omega arith)
    starts false i a c = rw l (omega arith)
