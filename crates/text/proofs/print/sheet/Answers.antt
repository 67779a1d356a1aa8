use Rattle.std.proofs.Common.{◌≡◌, true, false, sym, ◌∙◌}
use Rattle.text.specs.Printed.{sheet_text, sheet_printable}
use Rattle.text.proofs.print.sheet.Goals as goal

pub returns-then-not-sheet_printable : goal.returns-then-not-sheet_printable
returns-then-not-sheet_printable c =
    let t : sheet_printable _ ≡ false = sym c.sheet_printable.ensures ∙ c.if-not-sheet_printable.true in
    record { written_is = rw t; buffer_is = rw t }

pub sheet_values-v-requires : goal.sheet_values-v-requires
sheet_values-v-requires c =
    sym c.sheet_printable.ensures ∙ c.if-not-sheet_printable.false

pub returns : goal.returns
unfolding sheet_text
returns c =
    let t : sheet_printable _ ≡ true = sym c.sheet_printable.ensures ∙ c.if-not-sheet_printable.false in
    let p = rw c.sheet_values-v.ensures at c.put_line.ensures in
    record { written_is = rw t p.written_is; buffer_is = rw t p.buffer_is }
