use Rattle.std.proofs.Common.{ℕ, ◌+◌, ap, ◌∙◌, arith}
use Rattle.cell.specs.Refusals.{amounts_of}
use Rattle.text.proofs.PrintLaws.{amounts_printable_lem}
use Rattle.journal.proofs.Lent.{put_printed}
use Rattle.journal.proofs.lines.put_answer.Goals as goal

pub overflow_add-result : goal.overflow_add-result
overflow_add-result c =
    let p = put_printed c.args.at c.args.out.now _ _ _ _ (amounts_printable_lem (amounts_of c.args.answer) c.requires.0) c.requires.1 (rw c.cell_of.ensures at c.answer.ensures) in
    omega (arith, p.0, c.unwrap_or.ensures, c.requires.1)

pub returns : goal.returns
returns c =
    let p = put_printed c.args.at c.args.out.now _ _ _ _ (amounts_printable_lem (amounts_of c.args.answer) c.requires.0) c.requires.1 (rw c.cell_of.ensures at c.answer.ensures) in
    (ap (λ (n : ℕ). c.args.at + n) (c.unwrap_or.ensures ∙ p.0), p.1)
