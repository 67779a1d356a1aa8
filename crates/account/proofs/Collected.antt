-- [6] COLLECTED PLUS STILL HELD IS WHAT THE ANSWERS REPORTED, over any run of steps, voids, collections and moves; and how long 15 cannot come. Assumes nothing.
use Rattle.std.specs.Prelude.{Result, Ok, Err}
use mathlib.Core.Path.{◌≡◌, refl, ap, sym, subst, ◌∙◌}
use mathlib.Core.Bool.{Bool, true, false, cond}
use mathlib.Core.List.{List, [], ◌∷◌}
use Prim.Native.Nat.{ℕ, zero, suc, ◌+◌, ◌*◌, ◌≤◌, ◌<◌}
use native.Mathlib.Omega.{arith}
use borrow.Author.Tests.{eqb-true, eqb-false}
use lib.Dec.{eqb}
use lib.IntN.{ℤ}
use lib.ListN.{length}
use Rattle.cell.specs.Answers.{Answer}
use Rattle.cell.specs.declared.Amounts.{Amounts}
use Rattle.cell.specs.declared.Card.{Card}
use Rattle.cell.specs.declared.Collected.{Collected}
use Rattle.cell.specs.declared.Entry.{Entry}
use Rattle.cell.specs.declared.Refusal.{Refusal}
use Rattle.cell.specs.Refusals.{number_of}
use Rattle.cell.specs.declared.Refusal.TheVariants.{FullSums}
use Rattle.cell.specs.Ranges.{card_ok, row_width, cell_of}
use Rattle.cell.specs.RangeLaws.{cleared_sum}
use Rattle.cell.specs.Sums.{front_width, runoff_at, drain_at, sum_limit, sum_of}
use Rattle.cell.proofs.SumLaws.{short_sum}
use Rattle.cell.specs.Step.{answer_of, new_row}
use Rattle.cell.proofs.AnswerLaws.{runoff_after, drain_after, amounts_in, room_enough}
use Rattle.cell.specs.Collect.{collected_by, sums_of, list_by}
use Rattle.site.specs.Rows.{part_at}
use Rattle.site.specs.RowsLaws.{part_length, room}
use Rattle.site.specs.Site.{soil_width, site_answer, site_rows, SiteGives, ClearGives}
use Rattle.site.proofs.SiteLaws.{card_was, rows_long, rows_length, rows_stay, row_answer, own_row, other_row, full_card, full_reached}
use Rattle.site.specs.Forms.{grow_number, grown_rows, GrowGives, shrink_number, shrunk_rows, ShrinkGives, collecting_number, collected_rows, SumsGive}
use Rattle.site.specs.FormLaws.{grow_card, grow_long, grown_length, grown_sum, shrink_card, shrink_long, shrunk_length, shrunk_empty, collect_card, collect_long, collect_length, own_sums, other_kept}
use Rattle.account.specs.Ledger.{History, sum}
use Rattle.account.specs.Run.{Call, row_of, step_of, noted}
use Rattle.account.specs.Keeping.{Act, Outcome, Went, done, entered, collected, went_over, went_back, history_in, Sum, ran_off, drained, place_of, amount_of, got_of, most_of, held_in, collected_of, safe_steps}
use Rattle.account.proofs.Keeping.{plain_row, sums_row, cleared_in, along_any}

module _ (card : Card) (p : ℕ) (h : p < card.cells) (k : Sum) where
  abbrev held : List ℕ → ℕ
  held rows = held_in card p k rows

  abbrev at : List ℕ → ℕ
  at row = sum_of (place_of k) row

  -- ---- one call. An accepted step adds its amount to the row's sum
  grew : (soil : List ℤ) (row : List ℕ) (i : Entry) (a : Amounts) → answer_of card soil row i ≡ Ok a → at (new_row card soil row i) ≡ at row + amount_of k a
  grew soil row i a e = go k
    where
      go : (j : Sum) → sum_of (place_of j) (new_row card soil row i) ≡ sum_of (place_of j) row + amount_of j a
      go ran_off = runoff_after card soil row i a e
      go drained = drain_after card soil row i a e

  by_step : (l : History) {rows next : List ℕ} {c : Call} {answer : Answer} → SiteGives card c.soil rows c.entry answer next → held rows + sum (amount_of k) (noted card p rows c answer l) ≡ sum (amount_of k) l + held next
  by_step l {rows} {next} {c} {answer} g = go answer (sym g.answer_is)
    where
      here : next ≡ site_rows card c.soil rows c.entry
      here = g.rows_are

      go : (b : Answer) → site_answer card c.soil rows c.entry ≡ b → held rows + sum (amount_of k) (noted card p rows c b l) ≡ sum (amount_of k) l + held next
      go (Err why) e = let n : held next ≡ held rows = ap held (here ∙ rows_stay card c.soil rows c.entry why e) in omega arith
      go (Ok a) e = named (eqb (cell_of c.entry) p) refl
        where
          ok : card_ok card ≡ true
          ok = card_was card c.soil rows c.entry a e

          long : length rows ≡ row_width card * card.cells
          long = rows_long card c.soil rows c.entry a e

          before_is : held rows ≡ at (row_of card p rows)
          before_is = ap at (sums_row card rows p ok long)

          after_is : held next ≡ at (row_of card p (site_rows card c.soil rows c.entry))
          after_is = ap held here ∙ ap at (sums_row card (site_rows card c.soil rows c.entry) p ok (rows_length card c.soil rows c.entry a e ∙ long))

          own : at (row_of card (cell_of c.entry) (site_rows card c.soil rows c.entry)) ≡ at (row_of card (cell_of c.entry) rows) + amount_of k a
          own = ap at (own_row card c.soil rows c.entry a e) ∙ grew (part_at soil_width (cell_of c.entry) c.soil) (row_of card (cell_of c.entry) rows) c.entry a (row_answer card c.soil rows c.entry a e)

          named : (t : Bool) → eqb (cell_of c.entry) p ≡ t
              → held rows + sum (amount_of k) (cond t (step_of card (part_at soil_width p c.soil) (row_of card p rows) c.entry a ∷ l) l) ≡ sum (amount_of k) l + held next
          named true i =
              let o = subst (λ (j : ℕ). at (row_of card j (site_rows card c.soil rows c.entry)) ≡ at (row_of card j rows) + amount_of k a) (eqb-true (cell_of c.entry) p i) own in
              omega (arith, before_is, after_is, o)
          named false i = let o = ap at (other_row card c.soil rows c.entry a e p (eqb-false (cell_of c.entry) p i)) in omega (arith, before_is, after_is, o)

  -- collecting gives what was held, and nothing is held then
  by_collecting : {rows next : List ℕ} {cell : ℕ} {sums : Result Collected Refusal} → SumsGive card rows cell sums next → held rows ≡ cond (eqb cell p) (got_of k (sums_of sums)) 0 + held next
  by_collecting {rows} {next} {cell} {sums} g = rw g.got_is (go (collecting_number card rows cell) refl (eqb cell p) refl)
    where
      all_got : (j : Sum) (l : List ℕ) → got_of j (collected_by 0 l) ≡ sum_of (place_of j) l
      all_got ran_off l = refl
      all_got drained l = refl

      none_got : (j : Sum) (n : ℕ) (l : List ℕ) → got_of j (collected_by (suc n) l) ≡ 0
      none_got ran_off n l = refl
      none_got drained n l = refl

      none_left : (j : Sum) → collecting_number card rows cell ≡ 0 → sum_of (place_of j) (row_of card cell (collected_rows card cell rows)) ≡ 0
      none_left ran_off z = (own_sums card rows cell z).0
      none_left drained z = (own_sums card rows cell z).1

      before_is : collecting_number card rows cell ≡ 0 → held rows ≡ at (row_of card p rows)
      before_is z = ap at (sums_row card rows p (collect_card card rows cell z) (collect_long card rows cell z))

      after_is : collecting_number card rows cell ≡ 0 → held next ≡ at (row_of card p (collected_rows card cell rows))
      after_is z =
          let f : next ≡ collected_rows card cell rows = g.rows_are ∙ rw z in
          ap held f
          ∙ ap at (sums_row card (collected_rows card cell rows) p (collect_card card rows cell z) (collect_length card rows cell z ∙ collect_long card rows cell z))

      go : (n : ℕ) → collecting_number card rows cell ≡ n → (t : Bool) → eqb cell p ≡ t → held rows ≡ cond t (got_of k (collected_by n (row_of card cell rows))) 0 + held next
      go zero z true e =
          let i : cell ≡ p = eqb-true cell p e in
          omega (arith, before_is z, after_is z, all_got k (row_of card cell rows), ap (λ (j : ℕ). at (row_of card j rows)) i, none_left k z, ap (λ (j : ℕ). at (row_of card j (collected_rows card cell rows))) i)
      go zero z false e = omega (arith, before_is z, after_is z, ap at (other_kept card rows cell z p (eqb-false cell p e)))
      go (suc n) z true e =
          let stay : next ≡ rows = g.rows_are ∙ rw z in
          omega (arith, none_got k n (row_of card cell rows), ap held stay)
      go (suc n) z false e =
          let stay : next ≡ rows = g.rows_are ∙ rw z in
          omega (arith, ap held stay)

  -- a slice without sums holds nothing, the move over starts at 0, and the move back is refused while anything is held
  no_sums_lem : (rows : List ℕ) → length rows ≡ front_width * card.cells → held rows ≡ 0
  no_sums_lem rows l = ap at (plain_row card rows p l) ∙ go k
    where
      short : length (part_at front_width p rows) ≡ front_width
      short = part_length front_width p rows (room front_width p card.cells rows l h)

      go : (j : Sum) → sum_of (place_of j) (part_at front_width p rows) ≡ 0
      go ran_off = short_sum runoff_at (part_at front_width p rows) (omega (arith, short))
      go drained = short_sum drain_at (part_at front_width p rows) (omega (arith, short))

  grown_holds : (rows to : List ℕ) → grow_number card rows to ≡ 0 → held (grown_rows card rows) ≡ 0
  grown_holds rows to z = ap at (sums_row card (grown_rows card rows) p (grow_card card rows to z) (grown_length card rows to z)) ∙ go k
    where
      go : (j : Sum) → sum_of (place_of j) (row_of card p (grown_rows card rows)) ≡ 0
      go ran_off = grown_sum card rows to z runoff_at p (omega arith) (omega arith) h
      go drained = grown_sum card rows to z drain_at p (omega arith) (omega arith) h

  by_over : {rows to new : List ℕ} {number : ℕ} → GrowGives card rows to number new → held (list_by number new rows) ≡ held rows
  by_over {rows} {to} {new} {number} g = go number refl
    where
      go : (n : ℕ) → number ≡ n → held (list_by n new rows) ≡ held rows
      go (suc n) e = refl
      go zero e =
          let z : grow_number card rows to ≡ 0 = sym g.number_is ∙ e in
          let f : new ≡ grown_rows card rows = g.rows_are ∙ rw z in
          ap held f ∙ grown_holds rows to z ∙ sym (no_sums_lem rows (grow_long card rows to z))

  by_back : {rows to old : List ℕ} {number : ℕ} → ShrinkGives card rows to number old → held (list_by number old rows) ≡ held rows
  by_back {rows} {to} {old} {number} g = go number refl
    where
      empty : shrink_number card rows to ≡ 0 → (j : Sum) → sum_of (place_of j) (row_of card p rows) ≡ 0
      empty z ran_off = (shrunk_empty card rows to z p h).0
      empty z drained = (shrunk_empty card rows to z p h).1

      go : (n : ℕ) → number ≡ n → held (list_by n old rows) ≡ held rows
      go (suc n) e = refl
      go zero e =
          let z : shrink_number card rows to ≡ 0 = sym g.number_is ∙ e in
          let f : old ≡ shrunk_rows card rows = g.rows_are ∙ rw z in
          ap held f
          ∙ no_sums_lem (shrunk_rows card rows) (shrunk_length card rows to z)
          ∙ sym (ap at (sums_row card rows p (shrink_card card rows to z) (shrink_long card rows to z)) ∙ empty z k)

  -- ---- all calls
  balanced : {rows after : List ℕ} {acts : List Act} {outs : List Outcome} (l : History) (went : Went card rows acts outs after)
      → collected_of p k went + held after + sum (amount_of k) l ≡ held rows + sum (amount_of k) (history_in p l went)
  balanced l done = omega arith
  balanced l (entered {rows = rows} {c = c} {answer = answer} g went) = omega (arith, by_step l g, balanced (noted card p rows c answer l) went)
  balanced l (collected g went) = omega (arith, by_collecting g, balanced l went)
  balanced l (went_over g went) = omega (arith, by_over g, balanced l went)
  balanced l (went_back g went) = omega (arith, by_back g, balanced l went)

  -- from rows in which the plot holds nothing, after any calls
  pub nothing_lost : {rows after : List ℕ} {acts : List Act} {outs : List Outcome} → held rows ≡ 0 → (went : Went card rows acts outs after)
      → collected_of p k went + held after ≡ sum (amount_of k) (history_in p [] went)
  nothing_lost z went = omega (arith, balanced [] went)

  -- so from cleared rows, from rows that were just moved over, and from a plot that was just collected
  pub cleared_holds : {rows cleared : List ℕ} → ClearGives card rows (Ok tt) cleared → held cleared ≡ 0
  cleared_holds g = ap at (cleared_in card g p h) ∙ cleared_sum (row_width card) (place_of k)

  pub moved_holds : {rows to new : List ℕ} → GrowGives card rows to 0 new → held new ≡ 0
  moved_holds {rows} {to} {new} g =
      let z : grow_number card rows to ≡ 0 = sym g.number_is in
      let f : new ≡ grown_rows card rows = g.rows_are ∙ rw z in
      ap held f ∙ grown_holds rows to z

  pub collected_holds : {rows next : List ℕ} {sums : Result Collected Refusal} → SumsGive card rows p sums next → number_of sums ≡ 0 → held next ≡ 0
  collected_holds {rows} {next} {sums} g z = go (collecting_number card rows p) refl
    where
      none_left : (j : Sum) → collecting_number card rows p ≡ 0 → sum_of (place_of j) (row_of card p (collected_rows card p rows)) ≡ 0
      none_left ran_off e = (own_sums card rows p e).0
      none_left drained e = (own_sums card rows p e).1

      go : (n : ℕ) → collecting_number card rows p ≡ n → held next ≡ 0
      go zero e =
          let f : next ≡ collected_rows card p rows = g.rows_are ∙ rw e in
          ap held f
          ∙ ap at (sums_row card (collected_rows card p rows) p (collect_card card rows p e) (collect_length card rows p e ∙ collect_long card rows p e))
          ∙ none_left k e
      go (suc n) e = let m : 0 ≡ suc n = sym z ∙ g.number_is ∙ e in absurd (omega arith)

  -- ---- each step adds at most so much
  few : (l : History) (soil : List ℤ) (row : List ℕ) (i : Entry) (a : Amounts) → answer_of card soil row i ≡ Ok a
      → sum (amount_of k) l ≤ most_of k * length l → sum (amount_of k) (step_of card soil row i a ∷ l) ≤ most_of k * length (step_of card soil row i a ∷ l)
  few l soil row i a e v = go k v
    where
      go : (j : Sum) → sum (amount_of j) l ≤ most_of j * length l → sum (amount_of j) l + amount_of j a ≤ most_of j * suc (length l)
      go ran_off v = omega (arith, (amounts_in card soil row i a e).runoff)
      go drained v = omega (arith, (amounts_in card soil row i a e).drain)

  pub held_most : {rows after : List ℕ} {acts : List Act} {outs : List Outcome} → held rows ≡ 0 → (went : Went card rows acts outs after) → held after ≤ most_of k * length (history_in p [] went)
  held_most {rows} z went =
      let m = along_any card p h (λ l row. sum (amount_of k) l ≤ most_of k * length l) few (λ l row row' ok f v. v) [] went (start k) in
      omega (arith, nothing_lost z went)
    where
      start : (j : Sum) → sum (amount_of j) [] ≤ most_of j * length {A = ℕ} []
      start ran_off = omega arith
      start drained = omega arith

-- ---- 15 cannot come in the first 50,000,000 accepted steps of a plot after its sums were 0
pub never_full : (card : Card) (p : ℕ) → p < card.cells → {rows after : List ℕ} {acts : List Act} {outs : List Outcome} → ((k : Sum) → held_in card p k rows ≡ 0)
    → (went : Went card rows acts outs after) → length (history_in p [] went) < safe_steps
    → (c : Call) → cell_of c.entry ≡ p → ¬ (site_answer card c.soil after c.entry ≡ Err FullSums)
never_full card p h {rows} {after} z went n c e f =
    let r = full_reached card c.soil after c.entry f in
    let ran = held_most card p h ran_off (z ran_off) went in
    let out = held_most card p h drained (z drained) went in
    room_enough card (part_at soil_width (cell_of c.entry) c.soil) (row_of card (cell_of c.entry) after) c.entry
    (subst (λ (j : ℕ). sum_of runoff_at (row_of card j after) + 2000000 ≤ sum_limit) (sym e) (omega (arith, ran, is ran_off r.0)))
    (subst (λ (j : ℕ). sum_of drain_at (row_of card j after) + 20000000000 ≤ sum_limit) (sym e) (omega (arith, out, is drained r.0)))
    r.1
  where
    is : (k : Sum) → length after ≡ row_width card * card.cells → held_in card p k after ≡ sum_of (place_of k) (row_of card p after)
    is k l = ap (sum_of (place_of k)) (sums_row card after p (full_card card c.soil after c.entry f) l)
