-- A form is a line's fixed bytes with a mark for each value: '#' (35) a decimal that fits 32 bits, '$' (36) a signed decimal that fits 64 bits, '%' (37) eight
-- hex digits. One form says both what reading a line finds and what its text is. Definitions only.
use Rattle.std.specs.Prelude.{Option, Some, None, ℕ, zero, suc, List, [], ◌∷◌, ◌++◌, Bool, true, false, cond, ◌&&◌, drop, ltb, eqb, ℤ, pos, negsuc, nat_abs}
use Rattle.form.specs.Dec.{dec, num_at}
use Rattle.form.specs.Hex.{hex, hex_at}
use Rattle.form.specs.declared.value.Mark.{Mark}
use Rattle.form.specs.declared.value.Mark.TheVariants.{Word, Signed, Hex}

-- the byte at a place; 256 past the end
abbrev pub head_or : List ℕ → ℕ
head_or [] = 256
head_or (c ∷ t) = c

unfoldable pub byte_at : List ℕ → ℕ → ℕ
byte_at s at = head_or (drop at s)

abbrev pub pos_of : Option (ℕ × ℕ) → Option (ℤ × ℕ)
pos_of (Some (v, n)) = Some (pos v, n)
pos_of None = None

-- there is no -0
abbrev pub neg_of : Option (ℕ × ℕ) → Option (ℤ × ℕ)
neg_of (Some (zero, n)) = None
neg_of (Some (suc v, n)) = Some (negsuc v, n)
neg_of None = None

-- the value with the mark c that starts at a place
unfoldable pub val_at : ℕ → List ℕ → ℕ → Option (ℤ × ℕ)
val_at c s at =
    cond (eqb c 35) (pos_of (num_at 4294967295 s at))
    (cond (eqb c 36)
    (cond (eqb (byte_at s at) 45) (neg_of (num_at 9223372036854775808 s (suc at))) (pos_of (num_at 9223372036854775807 s at)))
    (pos_of (hex_at s at)))

-- the one text of a value with the mark c
abbrev pub signed_text : ℤ → List ℕ
signed_text (pos n) = dec n
signed_text (negsuc n) = 45 ∷ dec (suc n)

unfoldable pub val_text : ℕ → ℤ → List ℕ
val_text c z = cond (eqb c 37) (hex 8 (nat_abs z)) (signed_text z)

abbrev pub is_mark : ℕ → Bool
is_mark c = cond (ltb c 35) false (ltb c 38)

abbrev pub byte_of : Mark → ℕ
byte_of Word = 35
byte_of Signed = 36
byte_of Hex = 37

-- what reading a form finds: whether all of it stands there, the place after it, and the values
pub record Out : Type 0 where
  pub ok : Bool
  pub next : ℕ
  pub vals : List ℤ

abbrev pub push : ℤ → Out → Out
push z o = record { ok = o.ok; next = o.next; vals = z ∷ o.vals }

abbrev pub failed : Out
failed = record { ok = false; next = 0; vals = [] }

abbrev pub with_val : Option (ℤ × ℕ) → (ℕ → Out) → Out
with_val (Some (z, n)) k = push z (k n)
with_val None k = failed

unfoldable pub form_at : List ℕ → List ℕ → ℕ → Out
form_at [] s at = record { ok = true; next = at; vals = [] }
form_at (c ∷ f) s at =
    let a = with_val (val_at c s at) (λ n. form_at f s n) in
    let r = form_at f s (suc at) in
    let b = cond (eqb (byte_at s at) c) r failed in
    cond (is_mark c) a b

-- the place after a form, where it stands
abbrev pub taken_of : Out → Option ℕ
taken_of o = cond o.ok (Some o.next) None

-- how many values a form has
abbrev pub marks : List ℕ → ℕ
marks [] = 0
marks (c ∷ f) = let r = marks f in cond (is_mark c) (suc r) r

-- the text of a form with values
abbrev pub head_z : List ℤ → ℤ
head_z [] = pos 0
head_z (z ∷ zs) = z

abbrev pub tail_z : List ℤ → List ℤ
tail_z [] = []
tail_z (z ∷ zs) = zs

unfoldable pub form_text : List ℕ → List ℤ → List ℕ
form_text [] vs = []
form_text (c ∷ f) vs =
    let a = form_text f (tail_z vs) in
    let b = form_text f vs in
    cond (is_mark c) (val_text c (head_z vs) ++ a) (c ∷ b)

-- ---- which values a form can carry
-- by its mark
abbrev pub ok_val : ℕ → ℤ → Bool
ok_val c (pos n) = cond (eqb c 36) (ltb n 9223372036854775808) (ltb n 4294967296)
ok_val c (negsuc n) = cond (eqb c 36) (ltb n 9223372036854775808) false

-- the values at the front, one for each mark, of its kind; values behind them are not looked at
unfoldable pub fits : List ℕ → List ℤ → Bool
fits [] vs = true
fits (c ∷ f) vs =
    let a = fits f (tail_z vs) in
    let b = fits f vs in
    cond (is_mark c) (ok_val c (head_z vs) && a) b
