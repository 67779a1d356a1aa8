-- A book that was written, or for which there was no room, is what the contract says. Assumes nothing.
use Rattle.std.proofs.Common.{◌≡◌, refl, true, false, List, ◌∷◌, ℕ, zero, suc, ◌+◌, ◌-◌, ◌*◌, ◌≤◌, leb, ℤ, pos, length, take, drop, replicate, sym, ap, ◌∙◌, zero-add, arith, leb-true}
use lib.ListN.{length-replicate}
use lib.Seq.{sets, sets-eq}
use Rattle.cell.specs.Ranges.{row_width}
use Rattle.text.specs.Reads.{CardRead}
use Rattle.text.specs.Cards.{parse, card_result, soil_result}
use Rattle.text.proofs.CardTexts.{cells_most, card_next, result_line, result_card, result_soil}
use Rattle.journal.specs.Book.{cleared_text, input_limit, book_of, room_for, BookGives}
use Rattle.journal.proofs.BookLaws.{book_most, book_read}
use Rattle.journal.proofs.Lent.{rest_is}

module _ (s b : List ℕ) where
  pub no_room : leb (room_for (length s)) (length b) ≡ false → BookGives s b 0 b
  no_room e = record { length_is = rw e; buffer_is = rw e }

  module _ (e : leb (room_for (length s)) (length b) ≡ true) where
    pub book_fits : length (book_of s) ≤ length b
    unfolding room_for
    book_fits = omega (arith, book_most s, leb-true (room_for (length s)) (length b) e)

    pub written : (n : ℕ) (after : List ℕ) → n ≡ length (book_of s) → after ≡ sets b 0 (book_of s) → BookGives s b n after
    written n after p q =
        record {
          length_is = p ∙ rw e;
          buffer_is = q ∙ sets-eq (book_of s) b 0 (omega (arith, book_fits)) ∙ rw (e, zero-add (length (book_of s)));
        }

    -- a line that is the whole book
    pub line_fits : (t : List ℕ) → book_of s ≡ t → 0 + length t ≤ length b
    line_fits t p = omega (arith, ap length p, book_fits)

    pub line_written : (t : List ℕ) (n : ℕ) (after : List ℕ) → book_of s ≡ t → n ≡ 0 + length t → after ≡ sets b 0 t → BookGives s b n after
    line_written t n after p q r = written n after (q ∙ zero-add (length t) ∙ ap length (sym p)) (r ∙ ap (sets b 0) (sym p))

-- the first k of n zeros are k zeros
pub fewer_zeros : (k n : ℕ) → k ≤ n → take k (replicate {A = ℕ} n 0) ≡ replicate k 0
fewer_zeros zero n h = refl
fewer_zeros (suc k) zero h = absurd (omega arith)
fewer_zeros (suc k) (suc n) h = ap (λ (l : List ℕ). 0 ∷ l) (fewer_zeros k n (omega arith))

-- ---- a card that was read: the parts of the slices that are lent on are what the book speaks of
module _ (s : List ℕ) (r : CardRead) (v : List ℤ) (e : r ≡ card_result (parse s) 1280) (g : v ≡ soil_result (parse s) (replicate 1280 (pos 0))) where
  abbrev zeros : List ℤ
  zeros = replicate 1280 (pos 0)

  wide : 1280 ≤ length zeros
  wide = omega (arith, length-replicate 1280 (pos 0))

  pub line_is : r.line ≡ (parse s).line
  line_is = result_line s zeros wide r e

  -- room for 256 cells is room for each card that is well formed
  pub refused : ¬ (r.number ≡ 0) → ¬ ((parse s).line ≡ 0)
  refused n z = n (ap (λ (x : CardRead). x.number) (result_card s zeros wide r e z))

  module _ (z : r.line ≡ 0) where
    no_line : (parse s).line ≡ 0
    no_line = sym line_is ∙ z

    whole : r ≡ record { number = 0; taken = (parse s).next; line = 0; card = (parse s).card }
    whole = result_card s zeros wide r e no_line

    pub few : r.card.cells ≤ 256
    few = rw whole (cells_most s no_line)

    pub inside : r.taken ≤ length s
    inside = rw whole (card_next s no_line)

    pub read_book : length s ≤ input_limit
        → book_of s ≡ cleared_text r.card (take (5 * r.card.cells) v) (take (row_width r.card * r.card.cells) (replicate 9216 0)) (take (length s - r.taken) (drop r.taken s))
    read_book h =
        book_read s h no_line
        ∙ rw (rest_is r.taken s, fewer_zeros (row_width r.card * r.card.cells) 9216 (omega (arith, few)), whole, result_soil s zeros wide v g no_line)
