-- [6] Runs with collections and moves among the calls: neither is a step, and both keep a plot's life, next count and slots. So DEMAND 3 holds over them. Assumes nothing.
use Rattle.std.specs.Prelude.{Result, Ok, Err}
use mathlib.Core.Path.{◌≡◌, refl, ap, sym, subst, ◌∙◌}
use mathlib.Core.Bool.{true}
use mathlib.Core.Logic.{◌⊎◌, inl, inr}
use mathlib.Core.List.{List, [], ◌∷◌}
use Prim.Native.Nat.{ℕ, zero, suc, ◌-◌, ◌*◌, ◌<◌, min}
use native.Mathlib.Omega.{arith}
use native.Mathlib.Decide.{ℕ_discrete}
use borrow.Author.Tests.{eq-eqb, ne_eqb}
use lib.IntN.{ℤ}
use lib.ListN.{length, replicate}
use Rattle.cell.specs.Answers.{Answer}
use Rattle.cell.specs.declared.Amounts.{Amounts}
use Rattle.cell.specs.declared.Card.{Card}
use Rattle.cell.specs.declared.Collected.{Collected}
use Rattle.cell.specs.declared.Entry.{Entry}
use Rattle.cell.specs.declared.Refusal.{Refusal}
use Rattle.cell.specs.Ranges.{card_ok, row_width, queue_of}
use Rattle.cell.specs.RangeLaws.{card_in, cleared_queue}
use Rattle.cell.specs.Step.{answer_of, new_row}
use Rattle.cell.proofs.AnswerLaws.{moves}
use Rattle.cell.specs.Sums.{front_width}
use Rattle.cell.proofs.SumLaws.{SameFront, front_queue}
use Rattle.cell.specs.Collect.{list_by}
use Rattle.site.specs.Rows.{part_at}
use Rattle.site.specs.Site.{site_answer, site_rows, SiteGives, clear_rows, ClearGives}
use Rattle.site.proofs.SiteLaws.{gives, card_was, rows_long, rows_length, rows_stay, clear_passed, cleared_part}
use Rattle.site.specs.Forms.{grow_number, grown_rows, GrowGives, shrink_number, shrunk_rows, ShrinkGives, collecting_number, collecting_answer, collected_rows, SumsGive}
use Rattle.site.specs.FormLaws.{grow_card, grown_front, grown_length, grow_long, shrink_card, shrunk_front, shrunk_length, shrink_long, collect_card, collect_front, collect_long, collect_length, other_kept, sums_give}
use Rattle.account.specs.Ledger.{History, Kept, InSequence}
use Rattle.account.specs.Run.{Call, row_of, step_of, noted}
use Rattle.account.specs.Keeping.{width_in, row_in, Act, enter, collect, over, back, Outcome, answered, got, moved, Went, done, entered, collected, went_over, went_back, history_in}
use Rattle.account.proofs.Induction.{start, step, one}
use Rattle.account.proofs.Order.{Ordered, begins, goes_on}

-- ---- the form of a slice is told by its length
module _ (card : Card) (rows : List ℕ) where
  pub plain_width : length rows ≡ front_width * card.cells → width_in card rows ≡ front_width
  plain_width e = rw (eq-eqb _ _ e)

  pub sums_width_lem : card_ok card ≡ true → length rows ≡ row_width card * card.cells → width_in card rows ≡ row_width card
  sums_width_lem ok e = rw (ne_eqb (length rows) (front_width * card.cells) (λ (f : length rows ≡ front_width * card.cells). omega (arith, (card_in card ok).cells_low)))

  pub plain_row : (p : ℕ) → length rows ≡ front_width * card.cells → row_in card p rows ≡ part_at front_width p rows
  plain_row p e = ap (λ (w : ℕ). part_at w p rows) (plain_width e)

  pub sums_row : (p : ℕ) → card_ok card ≡ true → length rows ≡ row_width card * card.cells → row_in card p rows ≡ row_of card p rows
  sums_row p ok e = ap (λ (w : ℕ). part_at w p rows) (sums_width_lem ok e)

-- a cleared site's rows have sums, and all is 0 in them
pub cleared_in : (card : Card) {rows cleared : List ℕ} → ClearGives card rows (Ok tt) cleared → (p : ℕ) → p < card.cells → row_in card p cleared ≡ replicate (row_width card) 0
cleared_in card {rows} {cleared} g p h =
    let z = sym g.number_is in
    let c = clear_passed card rows z in
    rw g.rows_are (sums_row card (clear_rows card rows) p c.0 c.1 ∙ cleared_part card rows z p h)

-- ---- a call that is no step leaves a plot's row as it was, or one that begins the same
abbrev pub Quiet : Card → ℕ → List ℕ → List ℕ → Type 0
Quiet card p rows next = (next ≡ rows) ⊎ ((card_ok card ≡ true) × SameFront (row_in card p rows) (row_in card p next))

module _ (card : Card) (p : ℕ) (h : p < card.cells) where
  pub quiet_collect : {rows next : List ℕ} {cell : ℕ} {sums : Result Collected Refusal} → SumsGive card rows cell sums next → Quiet card p rows next
  quiet_collect {rows} {next} {cell} g = go (collecting_number card rows cell) refl
    where
      at : (j : ℕ) → collecting_number card rows cell ≡ 0 → Dec (cell ≡ j) → SameFront (row_of card j rows) (row_of card j (collected_rows card cell rows))
      at j z (yes e) = subst (λ (i : ℕ). SameFront (row_of card i rows) (row_of card i (collected_rows card cell rows))) e (collect_front card rows cell z)
      at j z (no n) = rw (other_kept card rows cell z j n) (record { life = refl; next = refl; slots = refl })

      go : (n : ℕ) → collecting_number card rows cell ≡ n → Quiet card p rows next
      go (suc n) z = inl (g.rows_are ∙ rw z)
      go zero z =
          let ok = collect_card card rows cell z in
          let l = collect_long card rows cell z in
          let e : next ≡ collected_rows card cell rows = g.rows_are ∙ rw z in
          inr (ok, rw (e, sums_row card rows p ok l, sums_row card (collected_rows card cell rows) p ok (collect_length card rows cell z ∙ l)) (at p z (ℕ_discrete cell p)))

  pub quiet_over : {rows to new : List ℕ} {number : ℕ} → GrowGives card rows to number new → Quiet card p rows (list_by number new rows)
  quiet_over {rows} {to} {new} {number} g = go number refl
    where
      go : (n : ℕ) → number ≡ n → Quiet card p rows (list_by n new rows)
      go (suc n) e = inl refl
      go zero e =
          let z : grow_number card rows to ≡ 0 = sym g.number_is ∙ e in
          let ok = grow_card card rows to z in
          let f : new ≡ grown_rows card rows = g.rows_are ∙ rw z in
          inr (ok, rw (f, plain_row card rows p (grow_long card rows to z), sums_row card (grown_rows card rows) p ok (grown_length card rows to z)) (grown_front card rows to z p h))

  pub quiet_back : {rows to old : List ℕ} {number : ℕ} → ShrinkGives card rows to number old → Quiet card p rows (list_by number old rows)
  quiet_back {rows} {to} {old} {number} g = go number refl
    where
      go : (n : ℕ) → number ≡ n → Quiet card p rows (list_by n old rows)
      go (suc n) e = inl refl
      go zero e =
          let z : shrink_number card rows to ≡ 0 = sym g.number_is ∙ e in
          let ok = shrink_card card rows to z in
          let f : old ≡ shrunk_rows card rows = g.rows_are ∙ rw z in
          inr (ok, rw (f, sums_row card rows p ok (shrink_long card rows to z), plain_row card (shrunk_rows card rows) p (shrunk_length card rows to z)) (shrunk_front card rows to z p h))

-- ---- what is kept by each step that a row takes, and by rows that begin the same, is kept by such a run
module _ (card : Card) (p : ℕ) (h : p < card.cells) (I : History → List ℕ → Type 0)
    (keep : (l : History) (soil : List ℤ) (row : List ℕ) (i : Entry) (a : Amounts) → answer_of card soil row i ≡ Ok a → I l row → I (step_of card soil row i a ∷ l) (new_row card soil row i))
    (same : (l : History) (row row' : List ℕ) → card_ok card ≡ true → SameFront row row' → I l row → I l row') where
  quiet : (l : History) {rows next : List ℕ} → Quiet card p rows next → I l (row_in card p rows) → I l (row_in card p next)
  quiet l (inl e) v = rw e v
  quiet l {rows} {next} (inr f) v = same l (row_in card p rows) (row_in card p next) f.0 f.1 v

  stepped : (l : History) {rows next : List ℕ} {c : Call} {answer : Answer} → SiteGives card c.soil rows c.entry answer next → I l (row_in card p rows) → I (noted card p rows c answer l) (row_in card p next)
  stepped l {rows} {next} {c} {answer} g v = rw g.rows_are (go answer (sym g.answer_is))
    where
      go : (b : Answer) → site_answer card c.soil rows c.entry ≡ b → I (noted card p rows c b l) (row_in card p (site_rows card c.soil rows c.entry))
      go (Err why) e = rw (rows_stay card c.soil rows c.entry why e) v
      go (Ok a) e =
          let ok = card_was card c.soil rows c.entry a e in
          let k = rows_long card c.soil rows c.entry a e in
          rw (sums_row card (site_rows card c.soil rows c.entry) p ok (rows_length card c.soil rows c.entry a e ∙ k))
          (one card p I keep l rows c (Ok a) e (rw (sums_row card rows p ok k) at v))

  pub along_any : {rows after : List ℕ} {acts : List Act} {outs : List Outcome} (l : History) (went : Went card rows acts outs after) → I l (row_in card p rows) → I (history_in p l went) (row_in card p after)
  along_any l done v = v
  along_any l (entered {rows = rows} {c = c} {answer = answer} g went) v = along_any (noted card p rows c answer l) went (stepped l g v)
  along_any l (collected g went) v = along_any l went (quiet l (quiet_collect card p h g) v)
  along_any l (went_over g went) v = along_any l went (quiet l (quiet_over card p h g) v)
  along_any l (went_back g went) v = along_any l went (quiet l (quiet_back card p h g) v)

-- ---- DEMAND 3 over such runs
module _ (card : Card) (p : ℕ) (h : p < card.cells) where
  -- from a plot with an empty queue, in either form
  pub demand3_any : (m : ℕ) {rows after : List ℕ} {acts : List Act} {outs : List Outcome} → queue_of card.delays (row_in card p rows) ≡ replicate m 0
      → (went : Went card rows acts outs after) → Kept (history_in p [] went) (queue_of card.delays (row_in card p after))
  demand3_any m e went =
      along_any card p h (λ l row. Kept l (queue_of card.delays row))
      (λ l soil row i a f. step (step_of card soil row i a) (moves card soil row i a f))
      (λ l row row' ok f v. rw (front_queue card.delays (card_in card ok).delays f) v) [] went (rw e (start m))

  -- so from rows that `site::clear` has cleared
  pub demand3_cleared : {rows cleared after : List ℕ} {acts : List Act} {outs : List Outcome} → ClearGives card rows (Ok tt) cleared
      → (went : Went card cleared acts outs after) → Kept (history_in p [] went) (queue_of card.delays (row_in card p after))
  demand3_cleared g went = demand3_any (min card.delays (row_width card - 2)) (ap (queue_of card.delays) (cleared_in card g p h) ∙ cleared_queue (row_width card) card.delays) went

  -- and in the order of acceptance the plot's first step has count 0, and each other is the next count of the same life or count 0 of a higher one
  pub in_order_any : {rows cleared after : List ℕ} {acts : List Act} {outs : List Outcome} → ClearGives card rows (Ok tt) cleared
      → (went : Went card cleared acts outs after) → InSequence (history_in p [] went)
  in_order_any g went = (along_any card p h Ordered (goes_on card) (λ l row row' ok f v. (v.0, rw (f.life, f.next) v.1)) [] went (rw (cleared_in card g p h) (begins (row_width card)))).0

-- every list of such calls has a run
pub some_went : (card : Card) (rows : List ℕ) (acts : List Act) → (outs : List Outcome) × (after : List ℕ) × Went card rows acts outs after
some_went card rows [] = ([], rows, done)
some_went card rows (enter c ∷ acts) =
    let m = some_went card (site_rows card c.soil rows c.entry) acts in
    (answered (site_answer card c.soil rows c.entry) ∷ m.0, m.1, entered (gives card c.soil rows c.entry refl refl) m.2)
some_went card rows (collect cell ∷ acts) =
    let n = collecting_number card rows cell in
    let m = some_went card (list_by n (collected_rows card cell rows) rows) acts in
    (got (collecting_answer card rows cell) ∷ m.0, m.1, collected (sums_give card rows cell) m.2)
some_went card rows (over to ∷ acts) =
    let n = grow_number card rows to in
    let m = some_went card (list_by n (list_by n (grown_rows card rows) to) rows) acts in
    (moved n ∷ m.0, m.1, went_over {to = to} (record { number_is = refl; rows_are = refl }) m.2)
some_went card rows (back to ∷ acts) =
    let n = shrink_number card rows to in
    let m = some_went card (list_by n (list_by n (shrunk_rows card rows) to) rows) acts in
    (moved n ∷ m.0, m.1, went_back {to = to} (record { number_is = refl; rows_are = refl }) m.2)
