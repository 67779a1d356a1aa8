-- [5] An optional part of a line, a key: a form with one value of 32 bits. Where the key is not said it has the value `unsaid`, which is never written out. Definitions only.
use Rattle.std.specs.Prelude.{Option, Some, None, ℕ, List, [], ◌∷◌, Bool, true, false, cond, eqb, pos, get_or, drop}
use Rattle.form.specs.Form.{head_or, is_mark, form_at, form_text}
use Rattle.form.specs.Words.{word_of}

-- whether a key is well said or not said, the place after it, and its value
pub record Key : Type 0 where
  pub ok : Bool
  pub next : ℕ
  pub word : ℕ

abbrev pub key_of : ℕ → ℕ → Key
key_of n w = record { ok = true; next = n; word = w }

abbrev pub bad_key : Key
bad_key = record { ok = false; next = 0; word = 0 }

-- what reading a key at a place finds: where its form stands, the value, which must not be `unsaid`; where it does not stand, `unsaid`, and no byte is taken
unfoldable pub key_at : List ℕ → ℕ → List ℕ → ℕ → Key
key_at f unsaid s at =
    let o = form_at f s at in
    let w = word_of (get_or o.vals 0 (pos 0)) in
    cond o.ok (cond (eqb w unsaid) bad_key (key_of o.next w)) (key_of at unsaid)

-- its value and the place after it, where it is well said or not said
abbrev pub said_of : Key → Option (ℕ × ℕ)
said_of k = cond k.ok (Some (k.word, k.next)) None

-- the one text of a key with a value: nothing for `unsaid`
unfoldable pub key_text : List ℕ → ℕ → ℕ → List ℕ
key_text f unsaid w = cond (eqb w unsaid) [] (form_text f (pos w ∷ []))

-- a text that cannot be taken for a form: it differs from it in a byte before the form's first value
abbrev pub unlike : List ℕ → List ℕ → Bool
unlike [] q = false
unlike (c ∷ f) q = let r = unlike f (drop 1 q) in cond (is_mark c) false (cond (eqb (head_or q) c) r true)
