-- Two results that meet a contract, as the check itself reads it, are equal. Assumes nothing.
-- a holds the arguments, and x, x' the parameters at exit, in the order of the signature.
use Rattle.std.proofs.Common.{◌≡◌, sym, ◌∙◌}
use contract.Lifetimes.{Lfts}
use denote.Triple.Clauses.{AtExit}
use borrow.Fn.Kinds.{Dens, res_t, ended_of}
use Rattle.shapes.proofs.reading_from.Kinds as reading_from_kinds
use Rattle.shapes.proofs.reading_from.Reads as reading_from_reads
use Rattle.shapes.proofs.reading_numbers.Kinds as reading_numbers_kinds
use Rattle.shapes.proofs.reading_numbers.Reads as reading_numbers_reads
use Rattle.shapes.proofs.notice_from.Kinds as notice_from_kinds
use Rattle.shapes.proofs.notice_from.Reads as notice_from_reads
use Rattle.shapes.proofs.notice_numbers.Kinds as notice_numbers_kinds
use Rattle.shapes.proofs.notice_numbers.Reads as notice_numbers_reads

pub reading_from_settled : (κs : Lfts 1) (a : Dens κs reading_from_kinds.ps) (r r' : (res_t reading_from_kinds.r κs).Denot) (x x' : AtExit (ended_of 1 reading_from_kinds.ps reading_from_kinds.r) κs) → reading_from_reads.Post κs a r x → reading_from_reads.Post κs a r' x' → r ≡ r'
reading_from_settled κs a r r' x x' p p' = p ∙ sym p'

pub reading_numbers_settled : (κs : Lfts 0) (a : Dens κs reading_numbers_kinds.ps) (r r' : (res_t reading_numbers_kinds.r κs).Denot) (x x' : AtExit (ended_of 0 reading_numbers_kinds.ps reading_numbers_kinds.r) κs) → reading_numbers_reads.Post κs a r x → reading_numbers_reads.Post κs a r' x' → r ≡ r'
reading_numbers_settled κs a r r' x x' p p' = p ∙ sym p'

pub notice_from_settled : (κs : Lfts 1) (a : Dens κs notice_from_kinds.ps) (r r' : (res_t notice_from_kinds.r κs).Denot) (x x' : AtExit (ended_of 1 notice_from_kinds.ps notice_from_kinds.r) κs) → notice_from_reads.Post κs a r x → notice_from_reads.Post κs a r' x' → r ≡ r'
notice_from_settled κs a r r' x x' p p' = p ∙ sym p'

pub notice_numbers_settled : (κs : Lfts 0) (a : Dens κs notice_numbers_kinds.ps) (r r' : (res_t notice_numbers_kinds.r κs).Denot) (x x' : AtExit (ended_of 0 notice_numbers_kinds.ps notice_numbers_kinds.r) κs) → notice_numbers_reads.Post κs a r x → notice_numbers_reads.Post κs a r' x' → r ≡ r'
notice_numbers_settled κs a r r' x x' p p' = p ∙ sym p'
