-- The text of a value by its mark. Assumes nothing.
use Rattle.std.proofs.Common.{◌≡◌, ℕ, ◌+◌, ◌≤◌, ◌<◌, ◌^◌, Bool, true, false, List, ◌∷◌, ℤ, pos, negsuc, nat_abs, length, length-set, set, refl, sym, ap, ◌∙◌, add-one, arith, ltb, le-ltb, SFits, to_z-of_z}
use Rattle.std.proofs.lemmas.Bool.{false≢true}
use Rattle.std.proofs.lemmas.List.Edits.{sets}
use Rattle.std.specs.Int.{w64}
use Rattle.std.specs.Int.Signed.{lt_z}
use mir.Val.{bool_byte}
use Rattle.form.specs.Dec.{dec}
use Rattle.form.specs.Hex.{hex}
use Rattle.form.specs.HexLaws.{hex_len}
use Rattle.form.specs.Form.{byte_of, val_text}
use Rattle.form.specs.FormLaws.{len_val}
use Rattle.form.specs.declared.value.Mark.{Mark}
use Rattle.form.specs.declared.value.Mark.TheVariants.{Word, Signed, Hex}

pub text_hex : (m : Mark) (z : ℤ) → m ≡ Hex → val_text (byte_of m) z ≡ hex 8 (nat_abs z)
unfolding val_text
text_hex m z e = rw e

pub len_hex : (m : Mark) (z : ℤ) → m ≡ Hex → length (val_text (byte_of m) z) ≡ 8
len_hex m z e = ap length (text_hex m z e) ∙ hex_len 8 (nat_abs z)

pub text_minus : (m : Mark) (z : ℤ) → (m ≡ Hex → ⊥) → lt_z z (pos 0) ≡ true → val_text (byte_of m) z ≡ 45 ∷ dec (nat_abs z)
unfolding val_text
text_minus m (pos n) h e = absurd (false≢true (sym (le-ltb n 0 (omega arith)) ∙ e))
text_minus Word (negsuc n) h e = refl
text_minus Signed (negsuc n) h e = refl
text_minus Hex z h e = absurd (h refl)

pub text_plus : (m : Mark) (z : ℤ) → (m ≡ Hex → ⊥) → lt_z z (pos 0) ≡ false → val_text (byte_of m) z ≡ dec (nat_abs z)
unfolding val_text
text_plus Word (pos n) h e = refl
text_plus Signed (pos n) h e = refl
text_plus m (negsuc n) h e = absurd (false≢true (sym e))
text_plus Hex z h e = absurd (h refl)

pub len_text : (m : Mark) (z : ℤ) → (m ≡ Hex → ⊥) → length (val_text (byte_of m) z) ≡ length (dec (nat_abs z)) + bool_byte (lt_z z (pos 0))
len_text m z h = go (lt_z z (pos 0)) refl
  where
    go : (b : Bool) → lt_z z (pos 0) ≡ b → length (val_text (byte_of m) z) ≡ length (dec (nat_abs z)) + bool_byte (lt_z z (pos 0))
    go true e = rw e (ap length (text_minus m z h e) ∙ omega arith)
    go false e = rw e (ap length (text_plus m z h e) ∙ omega arith)

pub len_most : (m : Mark) (z : ℤ) → SFits w64 z → length (val_text (byte_of m) z) ≤ 21
len_most m z f = len_val (byte_of m) z f

pub put_minus : (l a : List ℕ) (i c : ℕ) → sets (set l i c) (i + 1) a ≡ sets l i (c ∷ a)
put_minus l a i c = rw (add-one i)

pub ruleset value_texts = (text_hex, len_hex, text_minus, text_plus, len_text, len_most, put_minus, length-set, to_z-of_z)
