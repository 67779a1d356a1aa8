-- A text put into the rest of a buffer that was lent on from a place. Assumes nothing.
use Rattle.std.specs.Prelude.{Bool, true, Result, ◌≡◌, List, ◌++◌, ℕ, ◌+◌, ◌-◌, ◌≤◌, length, take, drop}
use Rattle.std.specs.Result.{result_unwrap_or}
use Rattle.text.specs.declared.Unwritten.{Unwritten}
use Rattle.text.specs.Printed.{line_checks}
use Rattle.text.specs.Written.{Writes, written_given}
use Rattle.text.proofs.PrintLaws.{prints_text}
use Rattle.text.proofs.WrittenLaws.{written_len}
use Rattle.std.proofs.Common.{sym, ap, ◌∙◌, append-nil, append_assoc, arith, length-drop, take_all, drop-drop}
use borrow.Rule.Slice.PartMut.{put_mid, Post-is}
use lib.Seq.{sets, sets-eq, drop-length}

-- the rest of a list from a place is all of it from there
pub rest_is : {A : Type 0} (at : ℕ) (l : List A) → take (length l - at) (drop at l) ≡ drop at l
rest_is at l = take_all (length l - at) (drop at l) (omega (arith, length-drop at l))

-- the text that stands at the start of the rest stands at the place
pub put_rest : (at : ℕ) (b t after : List ℕ) → at + length t ≤ length b → after ≡ t ++ drop (length t) (take (length b - at) (drop at b)) → put_mid at (length b - at) b after ≡ sets b at t
put_rest at b t after h e =
    ap (λ (r : List ℕ). take at b ++ (after ++ r)) (Post-is at (length b) b (omega arith) ∙ drop-length b)
    ∙ ap (λ (r : List ℕ). take at b ++ r) (append-nil after ∙ e ∙ ap (λ (r : List ℕ). t ++ r) (ap (drop (length t)) (rest_is at b) ∙ drop-drop (length t) at b))
    ∙ sym (sets-eq t b at h ∙ append_assoc (take at b) t (drop (at + length t) b))

-- a line that can be printed, written into the rest of a buffer with room for it, stands at the place
pub put_printed : (at : ℕ) (b t after : List ℕ) (p : Bool) (r : Result ℕ Unwritten) → p ≡ true → at + length t ≤ length b
    → Writes (line_checks p t (take (length b - at) (drop at b))) t (take (length b - at) (drop at b)) (written_given r) after
    → (result_unwrap_or r 0 ≡ length t) × (put_mid at (length b - at) b after ≡ sets b at t)
put_printed at b t after p r k h g =
    let w = prints_text p t (take (length b - at) (drop at b)) (written_given r) after g k (rw (rest_is at b) (omega (arith, length-drop at b, h))) in
    (written_len r ∙ w.0, put_rest at b t after h w.1)
