-- Two results that meet a contract, as the check itself reads it, are equal, and so are two outboxes that a call leaves. Assumes nothing.
-- a holds the arguments, and x, x' the parameters at exit, in the order of the signature: `self` is the first.
use Rattle.std.proofs.Common.{◌≡◌, refl, true, false, Bool, Result, Ok, Err, sym, ap, ◌∙◌, arith}
use contract.Lifetimes.{Lfts}
use denote.Triple.Clauses.{AtExit}
use borrow.Fn.Kinds.{Dens, res_t, ended_of}
use Rattle.outbox.specs.declared.NoSuchCell.{NoSuchCell}
use Rattle.outbox.specs.declared.Outbox.{Outbox}
use Rattle.outbox.specs.declared.Refusal.{Refusal}
use Rattle.outbox.specs.Outbox.{Given, Replaced, given, refusal_number, number_of, made, found_empty, replaced}
use Rattle.outbox.proofs.Outbox.fresh.Kinds as fresh
use Rattle.outbox.proofs.Outbox.fresh.Reads as fresh_reads
use Rattle.outbox.proofs.Outbox.offer.Kinds as offer
use Rattle.outbox.proofs.Outbox.offer.Reads as offer_reads
use Rattle.outbox.proofs.Outbox.add.Kinds as add
use Rattle.outbox.proofs.Outbox.add.Reads as add_reads
use Rattle.outbox.proofs.Outbox.replace.Kinds as replace
use Rattle.outbox.proofs.Outbox.replace.Reads as replace_reads
use Rattle.outbox.proofs.Outbox.acknowledge.Kinds as acknowledge
use Rattle.outbox.proofs.Outbox.acknowledge.Reads as acknowledge_reads
use Rattle.outbox.proofs.Outbox.swap.Kinds as swap
use Rattle.outbox.proofs.Outbox.swap.Reads as swap_reads

-- ---- an answer is settled by its number, or by what it stands for
one_refusal : (x y : Refusal) → refusal_number x ≡ refusal_number y → x ≡ y
one_refusal Refusal.BadForm Refusal.BadForm e = refl
one_refusal Refusal.BadForm Refusal.NotNext e = absurd (omega arith)
one_refusal Refusal.BadForm Refusal.Full e = absurd (omega arith)
one_refusal Refusal.NotNext Refusal.BadForm e = absurd (omega arith)
one_refusal Refusal.NotNext Refusal.NotNext e = refl
one_refusal Refusal.NotNext Refusal.Full e = absurd (omega arith)
one_refusal Refusal.Full Refusal.BadForm e = absurd (omega arith)
one_refusal Refusal.Full Refusal.NotNext e = absurd (omega arith)
one_refusal Refusal.Full Refusal.Full e = refl

some_refusal : (x : Refusal) → refusal_number x ≡ 0 → ⊥
some_refusal Refusal.BadForm e = omega arith
some_refusal Refusal.NotNext e = omega arith
some_refusal Refusal.Full e = omega arith

one_answer : (r r' : Result (Unit {0}) Refusal) → number_of r ≡ number_of r' → r ≡ r'
one_answer (Ok x) (Ok y) e = refl
one_answer (Ok x) (Err y) e = absurd (some_refusal y (sym e))
one_answer (Err x) (Ok y) e = absurd (some_refusal x e)
one_answer (Err x) (Err y) e = ap Err (one_refusal x y e)

one_given : (b b' : Outbox) (r r' : Result (Unit {0}) Refusal) → given b (number_of r) ≡ given b' (number_of r') → (r ≡ r') × (b ≡ b')
one_given b b' r r' e = (one_answer r r' (ap (λ (g : Given). g.number) e), ap (λ (g : Given). g.outbox) e)

one_replaced : (b b' : Outbox) (r r' : Result Bool Refusal) → replaced b r ≡ replaced b' r' → (r ≡ r') × (b ≡ b')
one_replaced b b' r r' e = (go r r' (ap (λ (g : Replaced). g.number) e) (ap (λ (g : Replaced). g.empty) e), ap (λ (g : Replaced). g.outbox) e)
  where
    go : (r r' : Result Bool Refusal) → number_of r ≡ number_of r' → found_empty r ≡ found_empty r' → r ≡ r'
    go (Ok true) (Ok true) n e = refl
    go (Ok true) (Ok false) n e = cc
    go (Ok false) (Ok true) n e = cc
    go (Ok false) (Ok false) n e = refl
    go (Ok x) (Err y) n e = absurd (some_refusal y (sym n))
    go (Err x) (Ok y) n e = absurd (some_refusal x n)
    go (Err x) (Err y) n e = ap Err (one_refusal x y n)

one_made : (r r' : Result Outbox NoSuchCell) → made r ≡ made r' → r ≡ r'
one_made (Ok b) (Ok b') e = ap Ok (ap (λ (g : Given). g.outbox) e)
one_made (Ok b) (Err b') e = let n = ap (λ (g : Given). g.number) e in absurd (omega arith)
one_made (Err b) (Ok b') e = let n = ap (λ (g : Given). g.number) e in absurd (omega arith)
one_made (Err b) (Err b') e = ap (λ (x : Outbox). Err (record { 0 = x })) (ap (λ (g : Given). g.outbox) e)

pub fresh_settled : (κs : Lfts 0) (a : Dens κs fresh.ps) (r r' : (res_t fresh.r κs).Denot) (x x' : AtExit (ended_of 0 fresh.ps fresh.r) κs) → fresh_reads.Post κs a r x → fresh_reads.Post κs a r' x' → r ≡ r'
fresh_settled κs a r r' x x' p p' = one_made r r' (p ∙ sym p')

pub offer_settled : (κs : Lfts 1) (a : Dens κs offer.ps) (r r' : (res_t offer.r κs).Denot) (x x' : AtExit (ended_of 1 offer.ps offer.r) κs) → offer_reads.Post κs a r x → offer_reads.Post κs a r' x' → r ≡ r'
offer_settled κs a r r' x x' p p' = p ∙ sym p'

pub add_settled : (κs : Lfts 1) (a : Dens κs add.ps) (r r' : (res_t add.r κs).Denot) (x x' : AtExit (ended_of 1 add.ps add.r) κs) → add_reads.Post κs a r x → add_reads.Post κs a r' x' → (r ≡ r') × (x.0.now ≡ x'.0.now)
add_settled κs a r r' x x' p p' = one_given x.0.now x'.0.now r r' (p ∙ sym p')

pub replace_settled : (κs : Lfts 1) (a : Dens κs replace.ps) (r r' : (res_t replace.r κs).Denot) (x x' : AtExit (ended_of 1 replace.ps replace.r) κs) → replace_reads.Post κs a r x → replace_reads.Post κs a r' x' → (r ≡ r') × (x.0.now ≡ x'.0.now)
replace_settled κs a r r' x x' p p' = one_replaced x.0.now x'.0.now r r' (p ∙ sym p')

pub acknowledge_settled : (κs : Lfts 1) (a : Dens κs acknowledge.ps) (r r' : (res_t acknowledge.r κs).Denot) (x x' : AtExit (ended_of 1 acknowledge.ps acknowledge.r) κs) → acknowledge_reads.Post κs a r x → acknowledge_reads.Post κs a r' x' → (r ≡ r') × (x.0.now ≡ x'.0.now)
acknowledge_settled κs a r r' x x' p p' = one_given x.0.now x'.0.now r r' (p ∙ sym p')

pub swap_settled : (κs : Lfts 1) (a : Dens κs swap.ps) (r r' : (res_t swap.r κs).Denot) (x x' : AtExit (ended_of 1 swap.ps swap.r) κs) → swap_reads.Post κs a r x → swap_reads.Post κs a r' x' → (r ≡ r') × (x.0.now ≡ x'.0.now)
swap_settled κs a r r' x x' p p' = one_given x.0.now x'.0.now r r' (p ∙ sym p')
