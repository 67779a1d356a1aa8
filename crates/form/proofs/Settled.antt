-- Two results that meet a contract, as the check itself reads it, are equal, and so are two exits of each slice that is written. Assumes nothing.
-- a holds the arguments, and x, x' the parameters at exit, in the order of the signature: `vals` is the fourth of `read_form` and the fifth of `read_many`, `buf` the fourth of `put_form`, the third of a key's `put` and the fifth of `put_many`.
use Rattle.std.proofs.Common.{◌≡◌, sym, ◌∙◌}
use contract.Lifetimes.{Lfts}
use denote.Triple.Clauses.{AtExit}
use borrow.Fn.Kinds.{Dens, res_t, ended_of}
use Rattle.form.proofs.words.word.Kinds as word
use Rattle.form.proofs.words.word.Reads as word_reads
use Rattle.form.proofs.words.word_at.Kinds as word_at
use Rattle.form.proofs.words.word_at.Reads as word_at_reads
use Rattle.form.proofs.line.read_form.Kinds as read_form
use Rattle.form.proofs.line.read_form.Reads as read_form_reads
use Rattle.form.proofs.line.form_len.Kinds as form_len
use Rattle.form.proofs.line.form_len.Reads as form_len_reads
use Rattle.form.proofs.line.put_form.Kinds as put_form
use Rattle.form.proofs.line.put_form.Reads as put_form_reads
use Rattle.form.proofs.keys.KeyForm.read.Kinds as read_key
use Rattle.form.proofs.keys.KeyForm.read.Reads as read_key_reads
use Rattle.form.proofs.keys.KeyForm.len.Kinds as key_len
use Rattle.form.proofs.keys.KeyForm.len.Reads as key_len_reads
use Rattle.form.proofs.keys.KeyForm.put.Kinds as put_key
use Rattle.form.proofs.keys.KeyForm.put.Reads as put_key_reads
use Rattle.form.proofs.lines.read_many.Kinds as read_many
use Rattle.form.proofs.lines.read_many.Reads as read_many_reads
use Rattle.form.proofs.lines.pass_many.Kinds as pass_many
use Rattle.form.proofs.lines.pass_many.Reads as pass_many_reads
use Rattle.form.proofs.lines.many_len.Kinds as many_len
use Rattle.form.proofs.lines.many_len.Reads as many_len_reads
use Rattle.form.proofs.lines.put_many.Kinds as put_many
use Rattle.form.proofs.lines.put_many.Reads as put_many_reads
use Rattle.form.proofs.lines.many_fit.Kinds as many_fit
use Rattle.form.proofs.lines.many_fit.Reads as many_fit_reads

pub word_settled : (κs : Lfts 0) (a : Dens κs word.ps) (r r' : (res_t word.r κs).Denot) (x x' : AtExit (ended_of 0 word.ps word.r) κs) → word_reads.Post κs a r x → word_reads.Post κs a r' x' → r ≡ r'
word_settled κs a r r' x x' p p' = p ∙ sym p'

pub word_at_settled : (κs : Lfts 1) (a : Dens κs word_at.ps) (r r' : (res_t word_at.r κs).Denot) (x x' : AtExit (ended_of 1 word_at.ps word_at.r) κs) → word_at_reads.Post κs a r x → word_at_reads.Post κs a r' x' → r ≡ r'
word_at_settled κs a r r' x x' p p' = p ∙ sym p'

pub read_form_settled : (κs : Lfts 3) (a : Dens κs read_form.ps) (r r' : (res_t read_form.r κs).Denot) (x x' : AtExit (ended_of 3 read_form.ps read_form.r) κs) → read_form_reads.Post κs a r x → read_form_reads.Post κs a r' x' → (r ≡ r') × (x.1.1.1.0.now ≡ x'.1.1.1.0.now)
read_form_settled κs a r r' x x' p p' = (p.0 ∙ sym p'.0, p.1 ∙ sym p'.1)

pub form_len_settled : (κs : Lfts 2) (a : Dens κs form_len.ps) (r r' : (res_t form_len.r κs).Denot) (x x' : AtExit (ended_of 2 form_len.ps form_len.r) κs) → form_len_reads.Post κs a r x → form_len_reads.Post κs a r' x' → r ≡ r'
form_len_settled κs a r r' x x' p p' = p.0 ∙ sym p'.0

pub put_form_settled : (κs : Lfts 3) (a : Dens κs put_form.ps) (r r' : (res_t put_form.r κs).Denot) (x x' : AtExit (ended_of 3 put_form.ps put_form.r) κs) → put_form_reads.Post κs a r x → put_form_reads.Post κs a r' x' → (r ≡ r') × (x.1.1.1.0.now ≡ x'.1.1.1.0.now)
put_form_settled κs a r r' x x' p p' = (p.0 ∙ sym p'.0, p.1 ∙ sym p'.1)

pub read_key_settled : (κs : Lfts 3) (a : Dens κs read_key.ps) (r r' : (res_t read_key.r κs).Denot) (x x' : AtExit (ended_of 3 read_key.ps read_key.r) κs) → read_key_reads.Post κs a r x → read_key_reads.Post κs a r' x' → r ≡ r'
read_key_settled κs a r r' x x' p p' = p ∙ sym p'

pub key_len_settled : (κs : Lfts 2) (a : Dens κs key_len.ps) (r r' : (res_t key_len.r κs).Denot) (x x' : AtExit (ended_of 2 key_len.ps key_len.r) κs) → key_len_reads.Post κs a r x → key_len_reads.Post κs a r' x' → r ≡ r'
key_len_settled κs a r r' x x' p p' = p.0 ∙ sym p'.0

pub put_key_settled : (κs : Lfts 3) (a : Dens κs put_key.ps) (r r' : (res_t put_key.r κs).Denot) (x x' : AtExit (ended_of 3 put_key.ps put_key.r) κs) → put_key_reads.Post κs a r x → put_key_reads.Post κs a r' x' → (r ≡ r') × (x.1.1.0.now ≡ x'.1.1.0.now)
put_key_settled κs a r r' x x' p p' = (p.0 ∙ sym p'.0, p.1 ∙ sym p'.1)

pub read_many_settled : (κs : Lfts 3) (a : Dens κs read_many.ps) (r r' : (res_t read_many.r κs).Denot) (x x' : AtExit (ended_of 3 read_many.ps read_many.r) κs) → read_many_reads.Post κs a r x → read_many_reads.Post κs a r' x' → (r ≡ r') × (x.1.1.1.1.0.now ≡ x'.1.1.1.1.0.now)
read_many_settled κs a r r' x x' p p' = (p.0 ∙ sym p'.0, p.1 ∙ sym p'.1)

pub pass_many_settled : (κs : Lfts 2) (a : Dens κs pass_many.ps) (r r' : (res_t pass_many.r κs).Denot) (x x' : AtExit (ended_of 2 pass_many.ps pass_many.r) κs) → pass_many_reads.Post κs a r x → pass_many_reads.Post κs a r' x' → r ≡ r'
pass_many_settled κs a r r' x x' p p' = p ∙ sym p'

pub many_len_settled : (κs : Lfts 2) (a : Dens κs many_len.ps) (r r' : (res_t many_len.r κs).Denot) (x x' : AtExit (ended_of 2 many_len.ps many_len.r) κs) → many_len_reads.Post κs a r x → many_len_reads.Post κs a r' x' → r ≡ r'
many_len_settled κs a r r' x x' p p' = p.0 ∙ sym p'.0

pub put_many_settled : (κs : Lfts 3) (a : Dens κs put_many.ps) (r r' : (res_t put_many.r κs).Denot) (x x' : AtExit (ended_of 3 put_many.ps put_many.r) κs) → put_many_reads.Post κs a r x → put_many_reads.Post κs a r' x' → (r ≡ r') × (x.1.1.1.1.0.now ≡ x'.1.1.1.1.0.now)
put_many_settled κs a r r' x x' p p' = (p.0 ∙ sym p'.0, p.1 ∙ sym p'.1)

pub many_fit_settled : (κs : Lfts 2) (a : Dens κs many_fit.ps) (r r' : (res_t many_fit.r κs).Denot) (x x' : AtExit (ended_of 2 many_fit.ps many_fit.r) κs) → many_fit_reads.Post κs a r x → many_fit_reads.Post κs a r' x' → r ≡ r'
many_fit_settled κs a r r' x x' p p' = p ∙ sym p'
