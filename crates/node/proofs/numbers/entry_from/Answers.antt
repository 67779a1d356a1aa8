use Rattle.std.proofs.Common.{◌-◌, drop, sym, ap, ◌∙◌, arith}
use Rattle.node.specs.Numbers.{zeros}
use Rattle.node.proofs.Turns.{reads_reading, rest_is, figures, reads_void, reads_figures, reads_none}
use Rattle.node.proofs.numbers.entry_from.Goals as goal

pub returns-in-0 : goal.returns-in-0
returns-in-0 c =
    let l = c.args.l.now in
    rw c.reading_from.ensures (reads_reading l (c.in_ok-row.ensures.cases.1.same ∙ ap (λ n. drop (n - 10) l) c.told-l) c.in-0.is)

pub returns-then-all_zero : goal.returns-then-all_zero
returns-then-all_zero c =
    let l = c.args.l.now in
    let r = c.in_ok-row.ensures.cases.1.same ∙ ap (λ n. drop (n - 10) l) c.told-l in
    rw (c.notice_from.ensures, c.in_ok-notice-in-1.ensures.cases.same)
    (reads_void l r c.in-1.is (ap zeros (sym (figures l r) ∙ sym (rw c.told-l at (rest_is 4 l))) ∙ sym c.all_zero.ensures ∙ c.if-all_zero.true))

pub returns-else-all_zero : goal.returns-else-all_zero
returns-else-all_zero c =
    let l = c.args.l.now in
    let r = c.in_ok-row.ensures.cases.1.same ∙ ap (λ n. drop (n - 10) l) c.told-l in
    reads_figures l r c.in-1.is (ap zeros (sym (figures l r) ∙ sym (rw c.told-l at (rest_is 4 l))) ∙ sym c.all_zero.ensures ∙ c.if-all_zero.false)

pub returns-in_default : goal.returns-in_default
returns-in_default c = reads_none c.args.l.now (λ k. omega arith) (λ k. omega arith)
