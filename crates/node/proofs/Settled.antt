-- Two results that meet a contract, as the check itself reads it, are equal, and so are two exits of each lent slice. Assumes nothing.
-- a holds the arguments, and x, x' the parameters at exit, in the order of the signature.
use Rattle.std.proofs.Common.{◌≡◌, sym, ◌∙◌}
use contract.Lifetimes.{Lfts}
use denote.Triple.Clauses.{AtExit}
use borrow.Fn.Kinds.{Dens, res_t, ended_of}
use Rattle.node.proofs.outbox_fresh.Kinds as fresh
use Rattle.node.proofs.outbox_fresh.Reads as fresh_reads
use Rattle.node.proofs.outbox_offer.Kinds as offer
use Rattle.node.proofs.outbox_offer.Reads as offer_reads
use Rattle.node.proofs.outbox_add.Kinds as add
use Rattle.node.proofs.outbox_add.Reads as add_reads
use Rattle.node.proofs.outbox_replace.Kinds as replace
use Rattle.node.proofs.outbox_replace.Reads as replace_reads
use Rattle.node.proofs.outbox_acknowledge.Kinds as acknowledge
use Rattle.node.proofs.outbox_acknowledge.Reads as acknowledge_reads
use Rattle.node.proofs.outbox_swap.Kinds as swap
use Rattle.node.proofs.outbox_swap.Reads as swap_reads

pub fresh_settled : (κs : Lfts 1) (a : Dens κs fresh.ps) (r r' : (res_t fresh.r κs).Denot) (x x' : AtExit (ended_of 1 fresh.ps fresh.r) κs) → fresh_reads.Post κs a r x → fresh_reads.Post κs a r' x'
    → (r ≡ r') × (x.1.0.now ≡ x'.1.0.now)
fresh_settled κs a r r' x x' p p' = (p.number_is ∙ sym p'.number_is, p.box_is ∙ sym p'.box_is)

pub offer_settled : (κs : Lfts 2) (a : Dens κs offer.ps) (r r' : (res_t offer.r κs).Denot) (x x' : AtExit (ended_of 2 offer.ps offer.r) κs) → offer_reads.Post κs a r x → offer_reads.Post κs a r' x'
    → (r ≡ r') × (x.1.0.now ≡ x'.1.0.now)
offer_settled κs a r r' x x' p p' = (p.number_is ∙ sym p'.number_is, p.entry_is ∙ sym p'.entry_is)

pub add_settled : (κs : Lfts 2) (a : Dens κs add.ps) (r r' : (res_t add.r κs).Denot) (x x' : AtExit (ended_of 2 add.ps add.r) κs) → add_reads.Post κs a r x → add_reads.Post κs a r' x'
    → (r ≡ r') × (x.0.now ≡ x'.0.now)
add_settled κs a r r' x x' p p' = (p.number_is ∙ sym p'.number_is, p.box_is ∙ sym p'.box_is)

pub replace_settled : (κs : Lfts 1) (a : Dens κs replace.ps) (r r' : (res_t replace.r κs).Denot) (x x' : AtExit (ended_of 1 replace.ps replace.r) κs) → replace_reads.Post κs a r x → replace_reads.Post κs a r' x'
    → (r ≡ r') × (x.0.now ≡ x'.0.now)
replace_settled κs a r r' x x' p p' = (p.number_is ∙ sym p'.number_is, p.box_is ∙ sym p'.box_is)

pub acknowledge_settled : (κs : Lfts 1) (a : Dens κs acknowledge.ps) (r r' : (res_t acknowledge.r κs).Denot) (x x' : AtExit (ended_of 1 acknowledge.ps acknowledge.r) κs) → acknowledge_reads.Post κs a r x → acknowledge_reads.Post κs a r' x'
    → (r ≡ r') × (x.0.now ≡ x'.0.now)
acknowledge_settled κs a r r' x x' p p' = (p.number_is ∙ sym p'.number_is, p.box_is ∙ sym p'.box_is)

pub swap_settled : (κs : Lfts 1) (a : Dens κs swap.ps) (r r' : (res_t swap.r κs).Denot) (x x' : AtExit (ended_of 1 swap.ps swap.r) κs) → swap_reads.Post κs a r x → swap_reads.Post κs a r' x'
    → (r ≡ r') × (x.0.now ≡ x'.0.now)
swap_settled κs a r r' x x' p p' = (p.number_is ∙ sym p'.number_is, p.box_is ∙ sym p'.box_is)
