-- Two results that meet the contract, as the check itself reads it, are equal, and so are two exits of the buffer. Assumes nothing.
-- a holds the arguments, and x, x' the parameters at exit, in the order of the signature.
use Rattle.std.proofs.Common.{◌≡◌, sym, ◌∙◌}
use contract.Lifetimes.{Lfts}
use denote.Triple.Clauses.{AtExit}
use borrow.Fn.Kinds.{Dens, res_t, ended_of}
use Rattle.journal.proofs.book.Kinds as book
use Rattle.journal.proofs.book.Reads as book-reads

pub book_settled : (κs : Lfts 2) (a : Dens κs book.ps) (r r' : (res_t book.r κs).Denot) (x x' : AtExit (ended_of 2 book.ps book.r) κs) → book-reads.Post κs a r x → book-reads.Post κs a r' x' → (r ≡ r') × (x.1.0.now ≡ x'.1.0.now)
book_settled κs a r r' x x' p p' = (p.length_is ∙ sym p'.length_is, p.buffer_is ∙ sym p'.buffer_is)
