-- Two results that meet a contract, as the check itself reads it, are equal, and so are two exits of each lent slice. Assumes nothing.
-- a holds the arguments, and x, x' the parameters at exit, in the order of the signature.
use mathlib.Core.Path.{◌≡◌, sym, ◌∙◌}
use contract.Lifetimes.{Lfts}
use denote.Triple.Clauses.{AtExit}
use borrow.Fn.Kinds.{Dens, res_t, ended_of}
use Rattle.gateway.proofs.waterbook_step.Kinds as step
use Rattle.gateway.proofs.waterbook_step.Reads as step_reads
use Rattle.gateway.proofs.waterbook_void.Kinds as void
use Rattle.gateway.proofs.waterbook_void.Reads as void_reads
use Rattle.gateway.proofs.waterbook_clear.Kinds as clear
use Rattle.gateway.proofs.waterbook_clear.Reads as clear_reads
use Rattle.gateway.proofs.waterbook_collect.Kinds as collect
use Rattle.gateway.proofs.waterbook_collect.Reads as collect_reads
use Rattle.gateway.proofs.waterbook_grow.Kinds as grow
use Rattle.gateway.proofs.waterbook_grow.Reads as grow_reads
use Rattle.gateway.proofs.waterbook_shrink.Kinds as shrink
use Rattle.gateway.proofs.waterbook_shrink.Reads as shrink_reads
use Rattle.gateway.proofs.waterbook_add.Kinds as add
use Rattle.gateway.proofs.waterbook_add.Reads as add_reads
use Rattle.gateway.proofs.waterbook_read_card.Kinds as read_card
use Rattle.gateway.proofs.waterbook_read_card.Reads as read_card_reads
use Rattle.gateway.proofs.waterbook_write_card.Kinds as write_card
use Rattle.gateway.proofs.waterbook_write_card.Reads as write_card_reads
use Rattle.gateway.proofs.waterbook_read_reading.Kinds as read_reading
use Rattle.gateway.proofs.waterbook_read_reading.Reads as read_reading_reads
use Rattle.gateway.proofs.waterbook_write_reading.Kinds as write_reading
use Rattle.gateway.proofs.waterbook_write_reading.Reads as write_reading_reads
use Rattle.gateway.proofs.waterbook_read_void.Kinds as read_void
use Rattle.gateway.proofs.waterbook_read_void.Reads as read_void_reads
use Rattle.gateway.proofs.waterbook_write_void.Kinds as write_void
use Rattle.gateway.proofs.waterbook_write_void.Reads as write_void_reads
use Rattle.gateway.proofs.waterbook_write_answer.Kinds as write_answer
use Rattle.gateway.proofs.waterbook_write_answer.Reads as write_answer_reads
use Rattle.gateway.proofs.waterbook_write_sheet.Kinds as write_sheet
use Rattle.gateway.proofs.waterbook_write_sheet.Reads as write_sheet_reads
use Rattle.gateway.proofs.waterbook_book.Kinds as book
use Rattle.gateway.proofs.waterbook_book.Reads as book_reads

pub step_settled : (κs : Lfts 5) (a : Dens κs step.ps) (r r' : (res_t step.r κs).Denot) (x x' : AtExit (ended_of 5 step.ps step.r) κs) → step_reads.Post κs a r x → step_reads.Post κs a r' x'
    → (r ≡ r') × (x.1.1.0.now ≡ x'.1.1.0.now) × (x.1.1.1.1.0.now ≡ x'.1.1.1.1.0.now)
step_settled κs a r r' x x' p p' = (p.number_is ∙ sym p'.number_is, p.rows_are ∙ sym p'.rows_are, p.amounts_are ∙ sym p'.amounts_are)

pub void_settled : (κs : Lfts 5) (a : Dens κs void.ps) (r r' : (res_t void.r κs).Denot) (x x' : AtExit (ended_of 5 void.ps void.r) κs) → void_reads.Post κs a r x → void_reads.Post κs a r' x'
    → (r ≡ r') × (x.1.1.0.now ≡ x'.1.1.0.now) × (x.1.1.1.1.0.now ≡ x'.1.1.1.1.0.now)
void_settled κs a r r' x x' p p' = (p.number_is ∙ sym p'.number_is, p.rows_are ∙ sym p'.rows_are, p.amounts_are ∙ sym p'.amounts_are)

pub clear_settled : (κs : Lfts 2) (a : Dens κs clear.ps) (r r' : (res_t clear.r κs).Denot) (x x' : AtExit (ended_of 2 clear.ps clear.r) κs) → clear_reads.Post κs a r x → clear_reads.Post κs a r' x'
    → (r ≡ r') × (x.1.0.now ≡ x'.1.0.now)
clear_settled κs a r r' x x' p p' = (p.number_is ∙ sym p'.number_is, p.rows_are ∙ sym p'.rows_are)

pub collect_settled : (κs : Lfts 3) (a : Dens κs collect.ps) (r r' : (res_t collect.r κs).Denot) (x x' : AtExit (ended_of 3 collect.ps collect.r) κs) → collect_reads.Post κs a r x → collect_reads.Post κs a r' x'
    → (r ≡ r') × (x.1.0.now ≡ x'.1.0.now) × (x.1.1.1.0.now ≡ x'.1.1.1.0.now)
collect_settled κs a r r' x x' p p' = (p.number_is ∙ sym p'.number_is, p.rows_are ∙ sym p'.rows_are, p.sums_are ∙ sym p'.sums_are)

pub grow_settled : (κs : Lfts 3) (a : Dens κs grow.ps) (r r' : (res_t grow.r κs).Denot) (x x' : AtExit (ended_of 3 grow.ps grow.r) κs) → grow_reads.Post κs a r x → grow_reads.Post κs a r' x'
    → (r ≡ r') × (x.1.1.0.now ≡ x'.1.1.0.now)
grow_settled κs a r r' x x' p p' = (p.number_is ∙ sym p'.number_is, p.rows_are ∙ sym p'.rows_are)

pub shrink_settled : (κs : Lfts 3) (a : Dens κs shrink.ps) (r r' : (res_t shrink.r κs).Denot) (x x' : AtExit (ended_of 3 shrink.ps shrink.r) κs) → shrink_reads.Post κs a r x → shrink_reads.Post κs a r' x'
    → (r ≡ r') × (x.1.1.0.now ≡ x'.1.1.0.now)
shrink_settled κs a r r' x x' p p' = (p.number_is ∙ sym p'.number_is, p.rows_are ∙ sym p'.rows_are)

pub add_settled : (κs : Lfts 2) (a : Dens κs add.ps) (r r' : (res_t add.r κs).Denot) (x x' : AtExit (ended_of 2 add.ps add.r) κs) → add_reads.Post κs a r x → add_reads.Post κs a r' x'
    → (r ≡ r') × (x.0.now ≡ x'.0.now)
add_settled κs a r r' x x' p p' = (p.number_is ∙ sym p'.number_is, p.sheet_is ∙ sym p'.sheet_is)

pub read_card_settled : (κs : Lfts 4) (a : Dens κs read_card.ps) (r r' : (res_t read_card.r κs).Denot) (x x' : AtExit (ended_of 4 read_card.ps read_card.r) κs) → read_card_reads.Post κs a r x → read_card_reads.Post κs a r' x'
    → (r ≡ r') × (x.1.0.now ≡ x'.1.0.now) × (x.1.1.0.now ≡ x'.1.1.0.now) × (x.1.1.1.0.now ≡ x'.1.1.1.0.now)
read_card_settled κs a r r' x x' p p' = (p.number_is ∙ sym p'.number_is, p.card_is ∙ sym p'.card_is, p.soil_is ∙ sym p'.soil_is, p.got_is ∙ sym p'.got_is)

pub write_card_settled : (κs : Lfts 4) (a : Dens κs write_card.ps) (r r' : (res_t write_card.r κs).Denot) (x x' : AtExit (ended_of 4 write_card.ps write_card.r) κs) → write_card_reads.Post κs a r x → write_card_reads.Post κs a r' x'
    → (r ≡ r') × (x.1.1.0.now ≡ x'.1.1.0.now) × (x.1.1.1.0.now ≡ x'.1.1.1.0.now)
write_card_settled κs a r r' x x' p p' = (p.number_is ∙ sym p'.number_is, p.buffer_is ∙ sym p'.buffer_is, p.got_is ∙ sym p'.got_is)

pub read_reading_settled : (κs : Lfts 3) (a : Dens κs read_reading.ps) (r r' : (res_t read_reading.r κs).Denot) (x x' : AtExit (ended_of 3 read_reading.ps read_reading.r) κs) → read_reading_reads.Post κs a r x → read_reading_reads.Post κs a r' x'
    → (r ≡ r') × (x.1.0.now ≡ x'.1.0.now) × (x.1.1.0.now ≡ x'.1.1.0.now)
read_reading_settled κs a r r' x x' p p' = (p.number_is ∙ sym p'.number_is, p.line_is ∙ sym p'.line_is, p.got_is ∙ sym p'.got_is)

pub write_reading_settled : (κs : Lfts 3) (a : Dens κs write_reading.ps) (r r' : (res_t write_reading.r κs).Denot) (x x' : AtExit (ended_of 3 write_reading.ps write_reading.r) κs) → write_reading_reads.Post κs a r x → write_reading_reads.Post κs a r' x'
    → (r ≡ r') × (x.1.0.now ≡ x'.1.0.now) × (x.1.1.0.now ≡ x'.1.1.0.now)
write_reading_settled κs a r r' x x' p p' = (p.number_is ∙ sym p'.number_is, p.buffer_is ∙ sym p'.buffer_is, p.got_is ∙ sym p'.got_is)

pub read_void_settled : (κs : Lfts 3) (a : Dens κs read_void.ps) (r r' : (res_t read_void.r κs).Denot) (x x' : AtExit (ended_of 3 read_void.ps read_void.r) κs) → read_void_reads.Post κs a r x → read_void_reads.Post κs a r' x'
    → (r ≡ r') × (x.1.0.now ≡ x'.1.0.now) × (x.1.1.0.now ≡ x'.1.1.0.now)
read_void_settled κs a r r' x x' p p' = (p.number_is ∙ sym p'.number_is, p.line_is ∙ sym p'.line_is, p.got_is ∙ sym p'.got_is)

pub write_void_settled : (κs : Lfts 3) (a : Dens κs write_void.ps) (r r' : (res_t write_void.r κs).Denot) (x x' : AtExit (ended_of 3 write_void.ps write_void.r) κs) → write_void_reads.Post κs a r x → write_void_reads.Post κs a r' x'
    → (r ≡ r') × (x.1.0.now ≡ x'.1.0.now) × (x.1.1.0.now ≡ x'.1.1.0.now)
write_void_settled κs a r r' x x' p p' = (p.number_is ∙ sym p'.number_is, p.buffer_is ∙ sym p'.buffer_is, p.got_is ∙ sym p'.got_is)

pub write_answer_settled : (κs : Lfts 3) (a : Dens κs write_answer.ps) (r r' : (res_t write_answer.r κs).Denot) (x x' : AtExit (ended_of 3 write_answer.ps write_answer.r) κs) → write_answer_reads.Post κs a r x → write_answer_reads.Post κs a r' x'
    → (r ≡ r') × (x.1.1.1.0.now ≡ x'.1.1.1.0.now) × (x.1.1.1.1.0.now ≡ x'.1.1.1.1.0.now)
write_answer_settled κs a r r' x x' p p' = (p.number_is ∙ sym p'.number_is, p.buffer_is ∙ sym p'.buffer_is, p.got_is ∙ sym p'.got_is)

pub write_sheet_settled : (κs : Lfts 3) (a : Dens κs write_sheet.ps) (r r' : (res_t write_sheet.r κs).Denot) (x x' : AtExit (ended_of 3 write_sheet.ps write_sheet.r) κs) → write_sheet_reads.Post κs a r x → write_sheet_reads.Post κs a r' x'
    → (r ≡ r') × (x.1.0.now ≡ x'.1.0.now) × (x.1.1.0.now ≡ x'.1.1.0.now)
write_sheet_settled κs a r r' x x' p p' = (p.number_is ∙ sym p'.number_is, p.buffer_is ∙ sym p'.buffer_is, p.got_is ∙ sym p'.got_is)

pub book_settled : (κs : Lfts 2) (a : Dens κs book.ps) (r r' : (res_t book.r κs).Denot) (x x' : AtExit (ended_of 2 book.ps book.r) κs) → book_reads.Post κs a r x → book_reads.Post κs a r' x'
    → (r ≡ r') × (x.1.0.now ≡ x'.1.0.now)
book_settled κs a r r' x x' p p' = (p.length_is ∙ sym p'.length_is, p.buffer_is ∙ sym p'.buffer_is)
