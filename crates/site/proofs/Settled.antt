-- Two results that meet a contract, as the check itself reads it, are equal, and so are two exits of the row slice. Assumes nothing.
-- a holds the arguments, and x, x' the parameters at exit, in the order of the signature: `rows` is the third of `step` and the second of `clear` and `collect`; a move writes its third.
use mathlib.Core.Path.{◌≡◌, sym, ◌∙◌}
use contract.Lifetimes.{Lfts}
use denote.Triple.Clauses.{AtExit}
use borrow.Fn.Kinds.{Dens, res_t, ended_of}
use Rattle.site.specs.MoveLaws.{number_tells}
use Rattle.site.proofs.step.Kinds as step
use Rattle.site.proofs.step.Reads as step_reads
use Rattle.site.proofs.clear.Kinds as clear
use Rattle.site.proofs.clear.Reads as clear_reads
use Rattle.site.proofs.collect.Kinds as collect
use Rattle.site.proofs.collect.Reads as collect_reads
use Rattle.site.proofs.grow.Kinds as grow
use Rattle.site.proofs.grow.Reads as grow_reads
use Rattle.site.proofs.shrink.Kinds as shrink
use Rattle.site.proofs.shrink.Reads as shrink_reads
use Rattle.site.proofs.Sheet.new.Kinds as new
use Rattle.site.proofs.Sheet.new.Reads as new_reads
use Rattle.site.proofs.Sheet.waters_within.Kinds as within
use Rattle.site.proofs.Sheet.waters_within.Reads as within_reads
use Rattle.site.proofs.Sheet.add.Kinds as add
use Rattle.site.proofs.Sheet.add.Reads as add_reads

pub step_settled : (κs : Lfts 2) (a : Dens κs step.ps) (r r' : (res_t step.r κs).Denot) (x x' : AtExit (ended_of 2 step.ps step.r) κs) → step_reads.Post κs a r x → step_reads.Post κs a r' x' → (r ≡ r') × (x.1.1.0.now ≡ x'.1.1.0.now)
step_settled κs a r r' x x' p p' = (p.answer_is ∙ sym p'.answer_is, p.rows_are ∙ sym p'.rows_are)

pub clear_settled : (κs : Lfts 1) (a : Dens κs clear.ps) (r r' : (res_t clear.r κs).Denot) (x x' : AtExit (ended_of 1 clear.ps clear.r) κs) → clear_reads.Post κs a r x → clear_reads.Post κs a r' x' → (r ≡ r') × (x.1.0.now ≡ x'.1.0.now)
clear_settled κs a r r' x x' p p' = (p.answer_is ∙ sym p'.answer_is, p.rows_are ∙ sym p'.rows_are)

pub collect_settled : (κs : Lfts 1) (a : Dens κs collect.ps) (r r' : (res_t collect.r κs).Denot) (x x' : AtExit (ended_of 1 collect.ps collect.r) κs) → collect_reads.Post κs a r x → collect_reads.Post κs a r' x' → (r ≡ r') × (x.1.0.now ≡ x'.1.0.now)
collect_settled κs a r r' x x' p p' = (p.answer_is ∙ sym p'.answer_is, p.rows_are ∙ sym p'.rows_are)

pub grow_settled : (κs : Lfts 2) (a : Dens κs grow.ps) (r r' : (res_t grow.r κs).Denot) (x x' : AtExit (ended_of 2 grow.ps grow.r) κs) → grow_reads.Post κs a r x → grow_reads.Post κs a r' x' → (r ≡ r') × (x.1.1.0.now ≡ x'.1.1.0.now)
grow_settled κs a r r' x x' p p' = (number_tells r r' (p.number_is ∙ sym p'.number_is), p.rows_are ∙ sym p'.rows_are)

pub shrink_settled : (κs : Lfts 2) (a : Dens κs shrink.ps) (r r' : (res_t shrink.r κs).Denot) (x x' : AtExit (ended_of 2 shrink.ps shrink.r) κs) → shrink_reads.Post κs a r x → shrink_reads.Post κs a r' x' → (r ≡ r') × (x.1.1.0.now ≡ x'.1.1.0.now)
shrink_settled κs a r r' x x' p p' = (number_tells r r' (p.number_is ∙ sym p'.number_is), p.rows_are ∙ sym p'.rows_are)

pub new_settled : (κs : Lfts 0) (a : Dens κs new.ps) (r r' : (res_t new.r κs).Denot) (x x' : AtExit (ended_of 0 new.ps new.r) κs) → new_reads.Post κs a r x → new_reads.Post κs a r' x' → r ≡ r'
new_settled κs a r r' x x' p p' = p ∙ sym p'

pub within_settled : (κs : Lfts 0) (a : Dens κs within.ps) (r r' : (res_t within.r κs).Denot) (x x' : AtExit (ended_of 0 within.ps within.r) κs) → within_reads.Post κs a r x → within_reads.Post κs a r' x' → r ≡ r'
within_settled κs a r r' x x' p p' = p ∙ sym p'

pub add_settled : (κs : Lfts 0) (a : Dens κs add.ps) (r r' : (res_t add.r κs).Denot) (x x' : AtExit (ended_of 0 add.ps add.r) κs) → add_reads.Post κs a r x → add_reads.Post κs a r' x' → r ≡ r'
add_settled κs a r r' x x' p p' = p ∙ sym p'
