use Rattle.std.proofs.Common.{◌≡◌, true, false, sym, ◌∙◌}
use Rattle.text.specs.Printed.{line_text, amounts_printable}
use Rattle.text.proofs.print.line.Goals as goal

pub returns-then-not-amounts_printable : goal.returns-then-not-amounts_printable
returns-then-not-amounts_printable c =
    let t : amounts_printable _ ≡ false = sym c.amounts_printable.ensures ∙ c.if-not-amounts_printable.true in
    record { written_is = rw t; buffer_is = rw t }

pub answer_values-v-requires : goal.answer_values-v-requires
answer_values-v-requires c =
    sym c.amounts_printable.ensures ∙ c.if-not-amounts_printable.false

pub returns : goal.returns
unfolding line_text
returns c =
    let t : amounts_printable _ ≡ true = sym c.amounts_printable.ensures ∙ c.if-not-amounts_printable.false in
    let p = rw c.answer_values-v.ensures at c.put_line.ensures in
    record { written_is = rw t p.written_is; buffer_is = rw t p.buffer_is }
