-- Two results that meet a contract, as the check itself reads it, are equal. Assumes nothing.
use Rattle.std.proofs.Common.{ap, sym, ℤ, ◌∙◌, ◌≡◌}
use contract.Lifetimes.{Lfts}
use denote.Triple.Clauses.{AtExit}
use borrow.Fn.Kinds.{Dens, res_t, ended_of}
use Rattle.head.specs.declared.Height.{Height}
use Rattle.head.proofs.classify.Kinds as classify
use Rattle.head.proofs.classify.Reads as classify_reads
use Rattle.head.proofs.level_um.Kinds as level
use Rattle.head.proofs.level_um.Reads as level_reads
use Rattle.head.proofs.from_pattern.Kinds as from
use Rattle.head.proofs.from_pattern.Reads as from_reads
use Rattle.head.proofs.pattern_of.Kinds as pattern
use Rattle.head.proofs.pattern_of.Reads as pattern_reads

pub classify_settled : (κs : Lfts 0) (a : Dens κs classify.ps) (r r' : (res_t classify.r κs).Denot) (x x' : AtExit (ended_of 0 classify.ps classify.r) κs) → classify_reads.Post κs a r x → classify_reads.Post κs a r' x' → r ≡ r'
classify_settled κs a r r' x x' p p' = p ∙ sym p'

pub level_settled : (κs : Lfts 0) (a : Dens κs level.ps) (r r' : (res_t level.r κs).Denot) (x x' : AtExit (ended_of 0 level.ps level.r) κs) → level_reads.Post κs a r x → level_reads.Post κs a r' x' → r ≡ r'
level_settled κs a r r' x x' p p' = ap {B = Height} (λ (z : ℤ). record { 0 = z }) (p ∙ sym p')

pub from_settled : (κs : Lfts 0) (a : Dens κs from.ps) (r r' : (res_t from.r κs).Denot) (x x' : AtExit (ended_of 0 from.ps from.r) κs) → from_reads.Post κs a r x → from_reads.Post κs a r' x' → r ≡ r'
from_settled κs a r r' x x' p p' = p ∙ sym p'

pub pattern_settled : (κs : Lfts 0) (a : Dens κs pattern.ps) (r r' : (res_t pattern.r κs).Denot) (x x' : AtExit (ended_of 0 pattern.ps pattern.r) κs) → pattern_reads.Post κs a r x → pattern_reads.Post κs a r' x' → r ≡ r'
pattern_settled κs a r r' x x' p p' = p ∙ sym p'
