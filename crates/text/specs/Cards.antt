-- Cards as text: what reading one finds, its one text, and what writing one checks. Definitions only.
use Rattle.std.specs.Prelude.{ℕ, suc, ◌+◌, ◌*◌, List, [], ◌∷◌, ◌++◌, map, Bool, true, false, cond, ◌&&◌, get_or, length, take, drop, replicate, ltb, eqb, ℤ, pos, Option, Some, None, Result}
use Rattle.std.proofs.lemmas.List.Edits.{sets}
use Rattle.text.specs.declared.card.Counts.{Counts as FoundCounts}
use Rattle.text.specs.declared.card.Tail.{Tail as FoundTail}
use Rattle.text.specs.declared.Read.{Read}
use Rattle.text.specs.declared.Unread.{Unread}
use Rattle.cell.specs.declared.Card.{Card}
use Rattle.cell.specs.declared.Refusal.TheVariants.{BadLengths}
use Rattle.cell.specs.Ranges.{counts_ok, none_of}
use Rattle.cell.specs.Refusals.{refusal_number, malformed}
use Rattle.text.specs.Reads.{CardRead, number_read, taken_read, line_read, value_read}
use Rattle.form.specs.Form.{Out, form_at, form_text, byte_at}
use Rattle.form.specs.Keys.{key_at, key_text}
use Rattle.form.specs.Many.{Run, many_at, rows_text, many_fit}
use Rattle.form.specs.Words.{word_of}
use Rattle.text.specs.Lines.{card_form, depth_form, share_form, soil_form}
use Rattle.text.specs.Written.{fits_in}

-- the first line's two counts, where they are in range, and the place behind them
pub record Counts : Type 0 where
  pub ok : Bool
  pub next : ℕ
  pub cells : ℕ
  pub delays : ℕ

abbrev pub no_counts : Counts
no_counts = record { ok = false; next = 0; cells = 0; delays = 0 }

unfoldable pub range_counts : ℕ → ℕ → ℕ → Counts
range_counts n c d = cond (counts_ok c d) (record { ok = true; next = n; cells = c; delays = d }) no_counts

abbrev pub counts_of_out : Out → Counts
counts_of_out o = cond o.ok (range_counts o.next (word_of (get_or o.vals 0 (pos 0))) (word_of (get_or o.vals 1 (pos 0)))) no_counts

unfoldable pub counts_of : List ℕ → Counts
counts_of s = counts_of_out (form_at card_form s 0)

abbrev pub counts_found : Option FoundCounts → Counts
counts_found (Some h) = record { ok = true; next = h.next; cells = h.cells; delays = h.delays }
counts_found None = no_counts

-- [5] the share that a card has which does not say one
abbrev pub unsaid_share : ℕ
unsaid_share = 20

-- the rest of the line: the share, where it is said, and the line's end
pub record Tail : Type 0 where
  pub ok : Bool
  pub next : ℕ
  pub share : ℕ

abbrev pub no_tail : Tail
no_tail = record { ok = false; next = 0; share = 0 }

unfoldable pub tail_at : List ℕ → ℕ → Tail
tail_at s at =
    let k = key_at share_form unsaid_share s at in
    cond (k.ok && eqb (byte_at s k.next) 10) (record { ok = true; next = suc k.next; share = k.word }) no_tail

abbrev pub tail_found : Option FoundTail → Tail
tail_found (Some t) = record { ok = true; next = t.next; share = t.share }
tail_found None = no_tail

-- n depths and the rest of the line
pub record Depths : Type 0 where
  pub tail : Tail
  pub vals : List ℤ

unfoldable pub depths_at : ℕ → List ℕ → ℕ → Depths
depths_at n s at = let d = many_at n depth_form s at in record { tail = cond d.ok (tail_at s d.next) no_tail; vals = d.vals }

-- a card of its counts, depths and share; unused places hold 0
abbrev pub card_with : Counts → Depths → Card
card_with h d = record { cells = h.cells; delays = h.delays; depths = map word_of (sets (replicate 30 (pos 0)) 0 d.vals); share = d.tail.share }

abbrev pub no_card : Card
no_card = record { cells = 0; delays = 0; depths = replicate 30 0; share = 0 }

abbrev pub refused_card : ℕ → ℕ → CardRead
refused_card number line = record { number = number; taken = 0; line = line; card = no_card }

abbrev pub card_given : Result (Read Card) Unread → CardRead
card_given r = record { number = number_read r; taken = taken_read r; line = line_read r; card = value_read no_card r }

-- the whole text of a card: the malformed line, 0 where none is, the place after it, the card and the soil numbers
pub record Parsed : Type 0 where
  pub line : ℕ
  pub next : ℕ
  pub card : Card
  pub soil : List ℤ

abbrev pub bad_line : ℕ → Parsed
bad_line n = record { line = n; next = 0; card = no_card; soil = [] }

abbrev pub parsed_of : Counts → Depths → Run → Parsed
parsed_of h d m =
    cond h.ok
    (cond d.tail.ok (cond m.ok (record { line = 0; next = m.next; card = card_with h d; soil = m.vals }) (bad_line (m.good + 2))) (bad_line 1))
    (bad_line 1)

unfoldable pub parse : List ℕ → Parsed
parse s =
    let h = counts_of s in
    let d = depths_at h.delays s h.next in
    parsed_of h d (many_at h.cells soil_form s d.tail.next)

-- reading a card into a slice of so many soil numbers
abbrev pub card_result : Parsed → ℕ → CardRead
card_result p room =
    cond (eqb p.line 0)
    (cond (ltb room (p.card.cells * 5)) (refused_card (refusal_number BadLengths) 0) (record { number = 0; taken = p.next; line = 0; card = p.card }))
    (refused_card malformed p.line)

abbrev pub soil_result : Parsed → List ℤ → List ℤ
soil_result p b = cond (eqb p.line 0) (cond (ltb (length b) (p.card.cells * 5)) b (p.soil ++ drop (p.card.cells * 5) b)) b

-- the text of a card in its parts: the counts, m depths, the rest of the line and n cells' lines
unfoldable pub tail_text : ℕ → List ℕ
tail_text share = key_text share_form unsaid_share share ++ (10 ∷ [])

unfoldable pub card_parts : List ℤ → ℕ → List ℤ → ℕ → ℕ → List ℤ → List ℕ
card_parts h m ds share n soil = form_text card_form h ++ (rows_text m depth_form ds ++ (tail_text share ++ rows_text n soil_form soil))

-- the one text of a card with its soil numbers
unfoldable pub card_text : Card → List ℤ → List ℕ
card_text c soil = card_parts (pos c.cells ∷ pos c.delays ∷ []) c.delays (map pos (take c.delays c.depths)) c.share c.cells soil

-- ---- writing
-- a card that some text gives
unfoldable pub has_text : Card → Bool
has_text c = counts_ok c.cells c.delays && none_of (drop c.delays c.depths)

-- a card that no text gives (12), soil slice not 5 x cells (2), a soil number that doesn't fit (12), buffer too short (12)
abbrev pub card_checks : Card → List ℤ → List ℕ → List (ℕ × Bool)
card_checks c soil b =
    (malformed, has_text c)
    ∷ (refusal_number BadLengths, eqb (length soil) (c.cells * 5))
    ∷ (malformed, many_fit c.cells soil_form soil)
    ∷ (malformed, fits_in (card_text c soil) b)
    ∷ []
