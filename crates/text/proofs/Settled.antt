-- Two results that meet a contract, as the check itself reads it, are equal, and so are two exits of each lent slice. Assumes nothing.
-- a holds the arguments, and x, x' the parameters at exit, in the order of the signature.
use Rattle.std.proofs.Common.{◌≡◌, sym, ap, ◌∙◌}
use Rattle.std.specs.Prelude.{Result}
use Rattle.cell.specs.declared.Card.{Card}
use Rattle.cell.specs.declared.Entry.{Entry}
use Rattle.cell.specs.declared.Notice.{Notice}
use Rattle.cell.specs.declared.Reading.{Reading}
use Rattle.text.specs.declared.Read.{Read}
use Rattle.text.specs.declared.Unread.{Unread}
use Rattle.text.specs.Reads.{CardRead, ReadingRead, VoidRead, EntryRead}
use Rattle.text.specs.Cards.{card_given}
use Rattle.text.specs.Readings.{reading_given}
use Rattle.text.specs.Voids.{void_given, entry_given}
use Rattle.text.proofs.ReadLaws.{read_settled}
use Rattle.text.proofs.WrittenLaws.{written_settled}
use contract.Lifetimes.{Lfts}
use denote.Triple.Clauses.{AtExit}
use borrow.Fn.Kinds.{Dens, res_t, ended_of}
use Rattle.text.proofs.Unread.line.Kinds as unread_line
use Rattle.text.proofs.Unread.line.Reads as unread_line_reads
use Rattle.text.proofs.card.read.Kinds as card_read
use Rattle.text.proofs.card.read.Reads as card_read_reads
use Rattle.text.proofs.card.write.Kinds as card_write
use Rattle.text.proofs.card.write.Reads as card_write_reads
use Rattle.text.proofs.reading.read.Kinds as reading_read
use Rattle.text.proofs.reading.read.Reads as reading_read_reads
use Rattle.text.proofs.reading.write.Kinds as reading_write
use Rattle.text.proofs.reading.write.Reads as reading_write_reads
use Rattle.text.proofs.print.line.Kinds as line
use Rattle.text.proofs.print.line.Reads as line_reads_lem
use Rattle.text.proofs.void.read.Kinds as void_read
use Rattle.text.proofs.void.read.Reads as void_read_reads
use Rattle.text.proofs.void.write.Kinds as void_write
use Rattle.text.proofs.void.write.Reads as void_write_reads
use Rattle.text.proofs.entry.read.Kinds as entry_read
use Rattle.text.proofs.entry.read.Reads as entry_read_reads
use Rattle.text.proofs.print.answer.Kinds as answer
use Rattle.text.proofs.print.answer.Reads as answer_reads
use Rattle.text.proofs.print.sheet.Kinds as sheet
use Rattle.text.proofs.print.sheet.Reads as sheet_reads

-- what is read is settled by the numbers and the value that it comes to
card_settled : (r r' : Result (Read Card) Unread) → card_given r ≡ card_given r' → r ≡ r'
card_settled r r' e = read_settled _ r r' (ap (λ (x : CardRead). x.number) e) (ap (λ (x : CardRead). x.taken) e) (ap (λ (x : CardRead). x.line) e) (ap (λ (x : CardRead). x.card) e)

reading_settled : (r r' : Result (Read Reading) Unread) → reading_given r ≡ reading_given r' → r ≡ r'
reading_settled r r' e = read_settled _ r r' (ap (λ (x : ReadingRead). x.number) e) (ap (λ (x : ReadingRead). x.taken) e) (ap (λ (x : ReadingRead). x.line) e) (ap (λ (x : ReadingRead). x.reading) e)

void_settled : (r r' : Result (Read Notice) Unread) → void_given r ≡ void_given r' → r ≡ r'
void_settled r r' e = read_settled _ r r' (ap (λ (x : VoidRead). x.number) e) (ap (λ (x : VoidRead). x.taken) e) (ap (λ (x : VoidRead). x.line) e) (ap (λ (x : VoidRead). x.notice) e)

entry_settled : (r r' : Result (Read Entry) Unread) → entry_given r ≡ entry_given r' → r ≡ r'
entry_settled r r' e = read_settled _ r r' (ap (λ (x : EntryRead). x.number) e) (ap (λ (x : EntryRead). x.taken) e) (ap (λ (x : EntryRead). x.line) e) (ap (λ (x : EntryRead). x.entry) e)

pub unread_line_settled : (κs : Lfts 0) (a : Dens κs unread_line.ps) (r r' : (res_t unread_line.r κs).Denot) (x x' : AtExit (ended_of 0 unread_line.ps unread_line.r) κs) → unread_line_reads.Post κs a r x → unread_line_reads.Post κs a r' x' → r ≡ r'
unread_line_settled κs a r r' x x' p p' = p ∙ sym p'

pub card_read_settled : (κs : Lfts 2) (a : Dens κs card_read.ps) (r r' : (res_t card_read.r κs).Denot) (x x' : AtExit (ended_of 2 card_read.ps card_read.r) κs) → card_read_reads.Post κs a r x → card_read_reads.Post κs a r' x' → (r ≡ r') × (x.1.0.now ≡ x'.1.0.now)
card_read_settled κs a r r' x x' p p' = (card_settled r r' (p.0 ∙ sym p'.0), p.1 ∙ sym p'.1)

pub card_write_settled : (κs : Lfts 2) (a : Dens κs card_write.ps) (r r' : (res_t card_write.r κs).Denot) (x x' : AtExit (ended_of 2 card_write.ps card_write.r) κs) → card_write_reads.Post κs a r x → card_write_reads.Post κs a r' x' → (r ≡ r') × (x.1.1.0.now ≡ x'.1.1.0.now)
card_write_settled κs a r r' x x' p p' = (written_settled r r' (p.written_is ∙ sym p'.written_is), p.buffer_is ∙ sym p'.buffer_is)

pub reading_read_settled : (κs : Lfts 1) (a : Dens κs reading_read.ps) (r r' : (res_t reading_read.r κs).Denot) (x x' : AtExit (ended_of 1 reading_read.ps reading_read.r) κs) → reading_read_reads.Post κs a r x → reading_read_reads.Post κs a r' x' → r ≡ r'
reading_read_settled κs a r r' x x' p p' = reading_settled r r' (p ∙ sym p')

pub reading_write_settled : (κs : Lfts 1) (a : Dens κs reading_write.ps) (r r' : (res_t reading_write.r κs).Denot) (x x' : AtExit (ended_of 1 reading_write.ps reading_write.r) κs) → reading_write_reads.Post κs a r x → reading_write_reads.Post κs a r' x' → (r ≡ r') × (x.1.0.now ≡ x'.1.0.now)
reading_write_settled κs a r r' x x' p p' = (written_settled r r' (p.written_is ∙ sym p'.written_is), p.buffer_is ∙ sym p'.buffer_is)

pub line_settled : (κs : Lfts 1) (a : Dens κs line.ps) (r r' : (res_t line.r κs).Denot) (x x' : AtExit (ended_of 1 line.ps line.r) κs) → line_reads_lem.Post κs a r x → line_reads_lem.Post κs a r' x' → (r ≡ r') × (x.1.1.1.0.now ≡ x'.1.1.1.0.now)
line_settled κs a r r' x x' p p' = (written_settled r r' (p.written_is ∙ sym p'.written_is), p.buffer_is ∙ sym p'.buffer_is)

pub answer_settled : (κs : Lfts 1) (a : Dens κs answer.ps) (r r' : (res_t answer.r κs).Denot) (x x' : AtExit (ended_of 1 answer.ps answer.r) κs) → answer_reads.Post κs a r x → answer_reads.Post κs a r' x' → (r ≡ r') × (x.1.1.0.now ≡ x'.1.1.0.now)
answer_settled κs a r r' x x' p p' = (written_settled r r' (p.written_is ∙ sym p'.written_is), p.buffer_is ∙ sym p'.buffer_is)

pub sheet_settled : (κs : Lfts 1) (a : Dens κs sheet.ps) (r r' : (res_t sheet.r κs).Denot) (x x' : AtExit (ended_of 1 sheet.ps sheet.r) κs) → sheet_reads.Post κs a r x → sheet_reads.Post κs a r' x' → (r ≡ r') × (x.1.0.now ≡ x'.1.0.now)
sheet_settled κs a r r' x x' p p' = (written_settled r r' (p.written_is ∙ sym p'.written_is), p.buffer_is ∙ sym p'.buffer_is)

pub void_read_settled : (κs : Lfts 1) (a : Dens κs void_read.ps) (r r' : (res_t void_read.r κs).Denot) (x x' : AtExit (ended_of 1 void_read.ps void_read.r) κs) → void_read_reads.Post κs a r x → void_read_reads.Post κs a r' x' → r ≡ r'
void_read_settled κs a r r' x x' p p' = void_settled r r' (p ∙ sym p')

pub void_write_settled : (κs : Lfts 1) (a : Dens κs void_write.ps) (r r' : (res_t void_write.r κs).Denot) (x x' : AtExit (ended_of 1 void_write.ps void_write.r) κs) → void_write_reads.Post κs a r x → void_write_reads.Post κs a r' x' → (r ≡ r') × (x.1.0.now ≡ x'.1.0.now)
void_write_settled κs a r r' x x' p p' = (written_settled r r' (p.written_is ∙ sym p'.written_is), p.buffer_is ∙ sym p'.buffer_is)

pub entry_read_settled : (κs : Lfts 1) (a : Dens κs entry_read.ps) (r r' : (res_t entry_read.r κs).Denot) (x x' : AtExit (ended_of 1 entry_read.ps entry_read.r) κs) → entry_read_reads.Post κs a r x → entry_read_reads.Post κs a r' x' → r ≡ r'
entry_read_settled κs a r r' x x' p p' = entry_settled r r' (p ∙ sym p')
