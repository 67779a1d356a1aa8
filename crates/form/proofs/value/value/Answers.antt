use Rattle.std.proofs.Common.{sym, ◌∙◌, arith}
use Rattle.std.proofs.lemmas.Int.{to_z_pos}
use Rattle.std.specs.Int.{w64}
use Rattle.form.proofs.Marked.{word_value, hex_value}
use Rattle.form.proofs.value.value.Goals as goal
use Rattle.form.proofs.value.value.Goals.{in-Word+in_ok-number-in-Word, in-Hex+in_ok-n-in-Hex}

pub returns-in_err-number-in-Word : goal.returns-in_err-number-in-Word
returns-in_err-number-in-Word c =
    rw c.in-Word.is (c.from_residual.ensures ∙ sym (word_value c.args.s.now c.args.at c.in_err-number-in-Word.ensures.value))

pub returns-in_err-n-in-Hex : goal.returns-in_err-n-in-Hex
returns-in_err-n-in-Hex c =
    rw c.in-Hex.is (c.from_residual-in_err-n-in-Hex.ensures ∙ sym (hex_value c.args.s.now c.args.at c.in_err-n-in-Hex.ensures.value))

pub returns : goal.returns
returns c = elim c.match-mark.branch [
  | in-Word+in_ok-number-in-Word w ↦
      let r = w.in_ok-number-in-Word in
      rw (w.n-is, w.in-Word.is, to_z_pos w64 r.n (omega (arith, r.ensures.small))) (sym (word_value c.args.s.now c.args.at r.ensures.value))
  | in-Hex+in_ok-n-in-Hex w ↦
      let r = w.in_ok-n-in-Hex in
      rw (w.n-is, w.in-Hex.is, to_z_pos w64 r.n (omega (arith, r.ensures.small))) (sym (hex_value c.args.s.now c.args.at r.ensures.value))
]
