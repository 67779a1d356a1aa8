-- What a writer gives on refusal, and where its checks are passed. Assumes nothing.
use Rattle.std.specs.Prelude.{◌≡◌, refl, Bool, true, false, List, [], ◌∷◌, ◌++◌, ℕ, ◌+◌, ◌≤◌, ◌<◌, eqb, length, drop, Result, Ok, Err}
use Rattle.std.specs.Result.{result_unwrap_or}
use Rattle.std.proofs.Common.{sym, ap, ◌∙◌, arith, le-leb, ne_eqb}
use Rattle.std.proofs.lemmas.Bool.{lt-leb}
use Rattle.std.proofs.lemmas.List.Edits.{sets, sets-eq}
use Rattle.cell.specs.Refusals.{malformed, first_failing}
use Rattle.text.specs.declared.Unwritten.{Unwritten}
use Rattle.text.specs.declared.Unwritten.TheVariants.{Unfit, SoilLength}
use Rattle.text.specs.Written.{Written, written_given, fits_in, buffer, Writes}

-- the last check, of a text of n bytes
pub no_room : (t b : List ℕ) (n : ℕ) → n ≡ length t → length b < n → fits_in t b ≡ false
no_room t b n e h = lt-leb (length t) (length b) (omega arith)

pub has_room : (t b : List ℕ) (n : ℕ) → n ≡ length t → n ≤ length b → fits_in t b ≡ true
has_room t b n e h = le-leb (length t) (length b) (omega arith)

module _ (checks : List (ℕ × Bool)) (t b : List ℕ) where
  -- on refusal
  pub writes_none : (number : ℕ) → 0 < number → first_failing checks ≡ number → Writes checks t b (record { number = number; len = 0 }) b
  writes_none number h e =
      let k : eqb number 0 ≡ false = ne_eqb number 0 (omega arith) in
      record { written_is = rw (e, k); buffer_is = rw (e, k) }

  -- where all are passed the text stands at the buffer's start and no byte after it changes
  pub text_stands : first_failing checks ≡ 0 → buffer checks t b ≡ t ++ drop (length t) b
  text_stands e = rw e

  pub writes_all : (l : List ℕ) (n : ℕ) → first_failing checks ≡ 0 → n ≡ length t → n ≤ length b → l ≡ sets b 0 t → Writes checks t b (record { number = 0; len = n }) l
  writes_all l n e k h f =
      let z : 0 + length t ≡ length t = omega arith in
      record { written_is = rw (e, k); buffer_is = f ∙ (rw z at (sets-eq t b 0 (omega arith))) ∙ sym (text_stands e) }

  pub writes_text : (w : Written) (after : List ℕ) → Writes checks t b w after → first_failing checks ≡ 0
      → (w ≡ record { number = 0; len = length t }) × (after ≡ t ++ drop (length t) b)
  writes_text w after h e = (h.written_is ∙ rw e, h.buffer_is ∙ text_stands e)

-- bytes that are a line's text, written into a buffer with room, stand there as they are
pub line_again : (u t b : List ℕ) → u ≡ t → length u ≤ length b → (w : Written) (after : List ℕ) → Writes ((malformed, fits_in t b) ∷ []) t b w after
    → (w ≡ record { number = 0; len = length u }) × (after ≡ u ++ drop (length u) b)
line_again u t b e l w after g =
    let k : fits_in t b ≡ true = rw (← e) (le-leb _ _ l) in
    rw e (writes_text ((malformed, fits_in t b) ∷ []) t b w after g (rw k))

-- the length, 0 where nothing was written
pub written_len : (r : Result ℕ Unwritten) → result_unwrap_or r 0 ≡ (written_given r).len
written_len (Ok n) = refl
written_len (Err e) = refl

-- two results that come to the same number and length are the same
pub written_settled : (r r' : Result ℕ Unwritten) → written_given r ≡ written_given r' → r ≡ r'
written_settled (Ok n) (Ok m) e = ap (λ (w : Written). Ok w.len) e
written_settled (Ok n) (Err Unfit) e = absurd (omega (arith, ap (λ (w : Written). w.number) e))
written_settled (Ok n) (Err SoilLength) e = absurd (omega (arith, ap (λ (w : Written). w.number) e))
written_settled (Err Unfit) (Ok n) e = absurd (omega (arith, ap (λ (w : Written). w.number) e))
written_settled (Err SoilLength) (Ok n) e = absurd (omega (arith, ap (λ (w : Written). w.number) e))
written_settled (Err Unfit) (Err Unfit) e = refl
written_settled (Err Unfit) (Err SoilLength) e = absurd (omega (arith, ap (λ (w : Written). w.number) e))
written_settled (Err SoilLength) (Err Unfit) e = absurd (omega (arith, ap (λ (w : Written). w.number) e))
written_settled (Err SoilLength) (Err SoilLength) e = refl
