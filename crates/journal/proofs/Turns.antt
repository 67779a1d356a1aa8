-- The turns over the entries. Assumes nothing.
use Rattle.std.proofs.Common.{◌≡◌, refl, List, ◌++◌, ℕ, ◌+◌, ◌-◌, ◌≤◌, ◌<◌, ℤ, length, drop, sym, ap, ◌∙◌, arith, length-append, length-drop}
use lib.Seq.{sets}
use Rattle.form.specs.Put.{sets_step}
use Rattle.cell.specs.Answers.{Answer}
use Rattle.cell.specs.declared.Card.{Card}
use Rattle.cell.specs.Ranges.{cell_of}
use Rattle.site.specs.declared.Sheet.{Sheet}
use Rattle.site.specs.declared.Added.{Added}
use Rattle.site.specs.Site.{site_answer, site_rows}
use Rattle.site.specs.Sheet.{no_steps, added_of}
use Rattle.site.specs.SheetLaws.{SheetIn, sheet_none, sheet_added}
use Rattle.text.specs.Reads.{EntryRead}
use Rattle.text.specs.Voids.{read_entry}
use Rattle.text.proofs.LineLaws.{entry_takes}
use Rattle.text.specs.Printed.{answer_text, sheet_text}
use Rattle.journal.specs.Book.{malformed_text, entries_text}
use Rattle.journal.proofs.BookLaws.{entries_end, entries_stop, entries_more}

module _ (card : Card) (soil : List ℤ) (whole out₀ : List ℕ) (lines : ℕ) where
  -- what is written so far, and the text of the entries that are left, come to the whole
  pub record Inv (rows out : List ℕ) (sheet : Sheet) (rest : List ℕ) (line end : ℕ) : Type 0 where
    pub left : ℕ
    pub enough : length rest ≤ left
    pub count : line + length rest ≤ lines
    pub sum : end + length (entries_text left card soil rows sheet line rest) ≡ length whole
    pub put : sets out end (entries_text left card soil rows sheet line rest) ≡ sets out₀ 0 whole
    pub same : length out ≡ length out₀
    pub kept : SheetIn sheet

  module _ (rows out : List ℕ) (sheet : Sheet) (rest : List ℕ) (line end : ℕ) (i : Inv rows out sheet rest line end) where
    -- the last line
    pub end_fits : length rest ≡ 0 → end + length (sheet_text sheet) ≡ length whole
    end_fits h = ap (λ (t : List ℕ). end + length t) (sym (entries_end i.left card soil rows sheet line rest h)) ∙ i.sum

    pub end_put : length rest ≡ 0 → sets out end (sheet_text sheet) ≡ sets out₀ 0 whole
    end_put h = ap (sets out end) (sym (entries_end i.left card soil rows sheet line rest h)) ∙ i.put

    module _ (h : 0 < length rest) (x : EntryRead) (q : x ≡ read_entry rest) where
      -- a malformed line
      module _ (z : ¬ (x.number ≡ 0)) where
        stop : entries_text i.left card soil rows sheet line rest ≡ malformed_text line
        stop = entries_stop i.left card soil rows sheet line rest h i.enough (rw q at z)

        pub stop_fits : end + length (malformed_text line) ≡ length whole
        stop_fits = ap (λ (t : List ℕ). end + length t) (sym stop) ∙ i.sum

        pub stop_put : sets out end (malformed_text line) ≡ sets out₀ 0 whole
        stop_put = ap (sets out end) (sym stop) ∙ i.put

      -- an entry
      module _ (z : x.number ≡ 0) where
        takes : (27 ≤ x.taken) × (x.taken ≤ length rest)
        takes = rw q (entry_takes rest (rw q at z))

        pub within : x.taken ≤ length rest
        within = takes.1

        pub shorter : length (drop x.taken rest) < length rest
        shorter = omega (arith, takes.0, takes.1, length-drop x.taken rest)

        module _ (answer : Answer) (a : answer ≡ site_answer card soil rows x.entry) where
          abbrev after : List ℕ
          after = entries_text (i.left - 1) card soil (site_rows card soil rows x.entry) (added_of sheet answer).sheet (line + 1) (drop x.taken rest)

          more : entries_text i.left card soil rows sheet line rest ≡ answer_text (cell_of x.entry) answer ++ after
          more = entries_more i.left card soil rows sheet line rest h i.enough (rw q at z) ∙ rw (a, q)

          lengths : end + (length (answer_text (cell_of x.entry) answer) + length after) ≡ length whole
          lengths = ap (λ (n : ℕ). end + n) (sym (ap length more ∙ length-append (answer_text (cell_of x.entry) answer) after)) ∙ i.sum

          pub fits : end + length (answer_text (cell_of x.entry) answer) ≤ length whole
          fits = omega (arith, lengths)

          pub turn : (rows' out' rest' : List ℕ) (added : Added) (end' : ℕ) → rows' ≡ site_rows card soil rows x.entry → out' ≡ sets out end (answer_text (cell_of x.entry) answer) → length out' ≡ length out
              → rest' ≡ drop x.taken rest → added ≡ added_of sheet answer → end' ≡ end + length (answer_text (cell_of x.entry) answer)
              → Inv rows' out' added.sheet rest' (line + 1) end'
          turn rows' out' rest' added end' r o l t d e =
              record {
                left = i.left - 1;
                enough = rw t (omega (arith, shorter, i.enough));
                count = rw t (omega (arith, shorter, i.count));
                sum = rw (r, t, d, e) (omega (arith, lengths));
                put = rw (r, t, d) (sets_step out end (answer_text (cell_of x.entry) answer) after o e more ∙ i.put);
                same = l ∙ i.same;
                kept = rw d (sheet_added sheet answer i.kept);
              }

-- before the first
pub begin : (card : Card) (soil : List ℤ) (s rows out : List ℕ) (first : ℕ) → Inv card soil (entries_text (length s) card soil rows no_steps first s) out (first + length s) rows out no_steps s first 0
begin card soil s rows out first =
    record {
      left = length s;
      enough = omega arith;
      count = omega arith;
      sum = omega arith;
      put = refl;
      same = refl;
      kept = sheet_none;
    }
