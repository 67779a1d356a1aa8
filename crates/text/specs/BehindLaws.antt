-- Each reader looks at nothing after its card or its one line. Assumes nothing.
use Rattle.std.specs.Prelude.{◌≡◌, Bool, cond, List, pos, get_or, refl, true, false, ℕ, zero, suc, ◌+◌, ◌*◌, ◌≤◌, ◌<◌, eqb}
use Rattle.std.proofs.lemmas.Bool.{false≢true, eqb-false}
use Rattle.std.proofs.Common.{eqb-true, ne_eqb, ap, arith}
use Rattle.cell.specs.Ranges.{counts_ok}
use Rattle.form.specs.Form.{form_at, byte_at}
use Rattle.form.specs.Many.{Run, many_at}
use Rattle.form.specs.Words.{word_of}
use Rattle.form.specs.Ends.{line_ends, first_line, first_lines}
use Rattle.form.specs.BehindLaws.{SameLines, form_line, form_same, form_next, many_same, many_next, key_same, key_next, byte_same, end_next}
use Rattle.form.specs.Keys.{Key, key_at}
use Rattle.text.specs.Lines.{reading_form, void_form, card_form, depth_form, share_form, soil_form}
use Rattle.text.specs.Readings.{result_of, read_reading}
use Rattle.text.specs.Voids.{void_result, read_void, read_entry}
use Rattle.text.specs.Cards.{Counts, range_counts, counts_of, counts_of_out, unsaid_share, tail_at, Depths, depths_at, Parsed, parse}

-- reading a reading looks at the text's first line only, accepted or refused
pub reading_behind : (s : List ℕ) → read_reading s ≡ read_reading (first_line s)
unfolding read_reading
reading_behind s = ap result_of (form_line reading_form s refl refl)

-- [3] so do reading a void, and reading an entry
pub void_behind : (s : List ℕ) → read_void s ≡ read_void (first_line s)
unfolding read_void
void_behind s = ap void_result (form_line void_form s refl refl)

pub entry_behind : (s : List ℕ) → read_entry s ≡ read_entry (first_line s)
unfolding read_entry
entry_behind s = rw (void_behind s, reading_behind s)

-- the lines that reading a card looks at: its own, or those up to the malformed one
abbrev pub card_lines : Parsed → ℕ
card_lines p = cond (eqb p.line 0) (suc p.card.cells) p.line

-- counts in range leave the place as it is
range_next : (n a b : ℕ) → (range_counts n a b).ok ≡ true → (range_counts n a b).next ≡ n
unfolding range_counts
range_next n a b e = go (counts_ok a b) refl
  where
    go : (x : Bool) → counts_ok a b ≡ x → (range_counts n a b).next ≡ n
    go true p = rw p
    go false p = absurd (false≢true (rw p at e))

module _ (s s' : List ℕ) (k : ℕ) (g : SameLines (suc k) s s' 0) where
  counts_same : counts_of s ≡ counts_of s'
  unfolding counts_of
  counts_same = ap counts_of_out (form_same card_form s s' 0 (suc k) refl refl (omega arith) g)

  -- behind the counts
  counts_next : (counts_of s).ok ≡ true → SameLines (suc k) s s' (counts_of s).next
  unfolding counts_of
  counts_next e = go (form_at card_form s 0).ok refl
    where
      go : (b : Bool) → (form_at card_form s 0).ok ≡ b → SameLines (suc k) s s' (counts_of s).next
      go false x = absurd (false≢true (rw x at e))
      go true x =
          let o = form_at card_form s 0 in
          let z : 0 + suc k ≡ suc k = omega arith in
          let r = range_next o.next (word_of (get_or o.vals 0 (pos 0))) (word_of (get_or o.vals 1 (pos 0))) (rw x at e) in
          rw (x, r) (form_next card_form s s' 0 (suc k) refl (rw z g) (form_same card_form s s' 0 (suc k) refl refl (omega arith) g) x)

-- [5] the rest of the first line
module _ (s s' : List ℕ) (at k : ℕ) (g : SameLines (suc k) s s' at) where
  abbrev said : Key
  said = key_at share_form unsaid_share s at

  share_same : said ≡ key_at share_form unsaid_share s' at
  share_same = key_same share_form unsaid_share s s' at (suc k) refl refl (omega arith) g

  share_next : said.ok ≡ true → SameLines (suc k) s s' said.next
  share_next o = key_next share_form unsaid_share s s' at (suc k) refl refl refl refl g share_same o

  tail_same : tail_at s at ≡ tail_at s' at
  unfolding tail_at
  tail_same = go said.ok refl
    where
      go : (b : Bool) → said.ok ≡ b → tail_at s at ≡ tail_at s' at
      go true o = rw (← share_same, o, byte_same s s' said.next (suc k) (omega arith) (share_next o))
      go false o = rw (← share_same, o)

  tail_next : (tail_at s at).ok ≡ true → SameLines k s s' (tail_at s at).next
  unfolding tail_at
  tail_next e = go said.ok refl (eqb (byte_at s said.next) 10) refl
    where
      go : (b : Bool) → said.ok ≡ b → (y : Bool) → eqb (byte_at s said.next) 10 ≡ y → SameLines k s s' (tail_at s at).next
      go false o y q = absurd (false≢true (rw o at e))
      go true o false q = absurd (false≢true (rw (o, q) at e))
      go true o true q = rw (o, q) (end_next s s' said.next k (share_next o) (eqb-true (byte_at s said.next) 10 q))

module _ (n : ℕ) (s s' : List ℕ) (at k : ℕ) (g : SameLines (suc k) s s' at) where
  runs : many_at n depth_form s at ≡ many_at n depth_form s' at
  runs = many_same n depth_form s s' at (suc k) refl refl (λ i a b. omega arith) g

  module _ (o : (many_at n depth_form s at).ok ≡ true) where
    runs_next : SameLines (suc k) s s' (many_at n depth_form s at).next
    runs_next = let z : n * line_ends depth_form + suc k ≡ suc k = omega arith in many_next n depth_form s s' at (suc k) refl (rw z g) runs o

  depths_same : depths_at n s at ≡ depths_at n s' at
  unfolding depths_at
  depths_same = go (many_at n depth_form s at).ok refl
    where
      go : (b : Bool) → (many_at n depth_form s at).ok ≡ b → depths_at n s at ≡ depths_at n s' at
      go true o = rw (← runs, o, tail_same s s' (many_at n depth_form s at).next k (runs_next o))
      go false o = rw (← runs, o)

  -- behind the first line
  depths_next : (depths_at n s at).tail.ok ≡ true → SameLines k s s' (depths_at n s at).tail.next
  unfolding depths_at
  depths_next e = go (many_at n depth_form s at).ok refl
    where
      go : (b : Bool) → (many_at n depth_form s at).ok ≡ b → SameLines k s s' (depths_at n s at).tail.next
      go false o = absurd (false≢true (rw o at e))
      go true o = rw o (tail_next s s' (many_at n depth_form s at).next k (runs_next o) (rw o at e))

-- two texts that show the same lines are read alike where no more of them are looked at
card_same : (s s' : List ℕ) (k : ℕ) → card_lines (parse s) ≤ suc k → SameLines (suc k) s s' 0 → parse s ≡ parse s'
unfolding parse
card_same s s' k h g = go hh.ok refl dd.tail.ok refl
  where
    hh : Counts
    hh = counts_of s

    dd : Depths
    dd = depths_at hh.delays s hh.next

    mm : Run
    mm = many_at hh.cells soil_form s dd.tail.next

    soil_same : SameLines k s s' dd.tail.next → (z : Bool) → mm.ok ≡ z → hh.ok ≡ true → dd.tail.ok ≡ true → mm ≡ many_at hh.cells soil_form s' dd.tail.next
    soil_same q true z x y =
        let c : suc hh.cells ≤ suc k = rw (x, y, z) at h in
        many_same hh.cells soil_form s s' dd.tail.next k refl refl (λ i a b. omega arith) q
    soil_same q false z x y =
        let c : mm.good + 2 ≤ suc k = rw (x, y, z, ne_eqb (mm.good + 2) 0 (omega arith)) at h in
        many_same hh.cells soil_form s s' dd.tail.next k refl refl (λ i a b. omega arith) q

    go : (x : Bool) → hh.ok ≡ x → (y : Bool) → dd.tail.ok ≡ y → parse s ≡ parse s'
    go false x y r = rw (← counts_same s s' k g, x)
    go true x false r = rw (← counts_same s s' k g, x, ← depths_same hh.delays s s' hh.next k (counts_next s s' k g x), r)
    go true x true r =
        let q = counts_next s s' k g x in
        let d = depths_same hh.delays s s' hh.next k q in
        let m = soil_same (depths_next hh.delays s s' hh.next k q r) mm.ok refl x r in
        rw (← counts_same s s' k g, ← d, ← m)

-- reading a card looks at its own lines only, and at none behind a malformed one: any text that starts with these lines is read alike
pub card_behind : (s s' : List ℕ) → first_lines (card_lines (parse s)) s ≡ first_lines (card_lines (parse s)) s' → parse s ≡ parse s'
card_behind s s' same = go (card_lines (parse s)) refl
  where
    some : (b : Bool) → eqb (parse s).line 0 ≡ b → 0 < card_lines (parse s)
    some true e = rw e (omega arith)
    some false e = rw e (omega (arith, eqb-false (parse s).line 0 e))

    go : (n : ℕ) → card_lines (parse s) ≡ n → parse s ≡ parse s'
    go zero e = absurd (omega (arith, some (eqb (parse s).line 0) refl))
    go (suc k) e = card_same s s' k (omega arith) (record { lines = rw e at same; room = omega arith; room' = omega arith })
