-- Laws of a step of the site and of clearing. Assumes nothing.
use Rattle.std.proofs.Math.Path.{◌≡◌, refl, sym}
use Rattle.std.proofs.Common.{ap, ◌∙◌, mul-le-mul_left}
use Rattle.std.specs.Prelude.{Bool, cond, not, ◌&&◌, eqb, ℤ, length, get_or, take, drop, replicate, Ok, Err}
use Rattle.std.proofs.Math.Bool.{true, false, and-eq-true_iff}
use mathlib.Core.List.{List, [], ◌∷◌, ◌++◌}
use Prim.Native.Nat.{ℕ, suc, ◌+◌, ◌*◌, ◌≤◌, ◌<◌}
use native.Mathlib.Omega.{arith}
use borrow.Author.Tests.{ltb-true, eqb-true, ne_eqb, not-false}
use Rattle.std.proofs.lemmas.List.{length-replicate}
use Rattle.cell.specs.Answers.{Answer}
use Rattle.cell.specs.declared.Amounts.{Amounts}
use Rattle.cell.specs.declared.Card.{Card}
use Rattle.cell.specs.declared.Entry.{Entry}
use Rattle.cell.specs.declared.Notice.{Notice}
use Rattle.cell.specs.declared.Reading.{Reading}
use Rattle.cell.specs.declared.Refusal.{Refusal}
use Rattle.cell.specs.declared.Refusal.TheVariants.{BadCard, BadLengths, BadCell, FullSums}
use Rattle.cell.specs.Ranges.{card_ok, row_width, notice_ok, fields_ok, noticed, notice_of, cell_of}
use Rattle.cell.specs.Step.{answer_of, new_row}
use Rattle.cell.specs.Refusals.{refusal_number, first_failing, is_jammed, field_checks, number_of, nothing, amounts_of}
use Rattle.cell.proofs.CheckLaws.{row_number, refusal_in}
use Rattle.cell.proofs.AnswerLaws.{step_taken, stays, bad_card, length_after, rain_taken}
use Rattle.site.specs.Rows.{part_at, put_at}
use Rattle.site.specs.RowsLaws.{put_back, put_same, put_other, put_length, put_outside, room, part_zeros}
use Rattle.site.specs.Site.{soil_width, soil_fits, rows_fit, cell_fits, checks_of, refuse, site_answer, rows_by, site_rows, SiteGives, clear_number, clear_answer, clear_rows, ClearGives}

module _ (card : Card) (soil : List ℤ) (rows : List ℕ) (i : Entry) where
  abbrev soil_part : List ℤ
  soil_part = part_at soil_width (cell_of i) soil

  abbrev row_part : List ℕ
  row_part = part_at (row_width card) (cell_of i) rows

  -- ---- by the checks 2 and 3, each after check 1
  by_checks : {a b c : Bool} → card_ok card ≡ a → (soil_fits card soil && rows_fit card rows) ≡ b → cell_fits card i ≡ c
      → refuse a BadCard (refuse b BadLengths (refuse c BadCell (answer_of card soil_part row_part i))) ≡ site_answer card soil rows i
  unfolding site_answer
  by_checks p q s = rw (p, q, s)

  pub lengths_bad : (soil_fits card soil && rows_fit card rows) ≡ false → site_answer card soil rows i ≡ Err (cond (card_ok card) BadLengths BadCard)
  unfolding refuse
  lengths_bad e = go (card_ok card) refl
    where
      go : (a : Bool) → card_ok card ≡ a → site_answer card soil rows i ≡ Err (cond a BadLengths BadCard)
      go true p = sym (by_checks p e refl)
      go false p = sym (by_checks p refl refl)

  pub cell_bad : (soil_fits card soil && rows_fit card rows) ≡ true → cell_fits card i ≡ false → site_answer card soil rows i ≡ Err (cond (card_ok card) BadCell BadCard)
  unfolding refuse
  cell_bad e f = go (card_ok card) refl
    where
      go : (a : Bool) → card_ok card ≡ a → site_answer card soil rows i ≡ Err (cond a BadCell BadCard)
      go true p = sym (by_checks p e f)
      go false p = sym (by_checks p refl refl)

  -- where neither fails, the answer is the named row's, whose own first check is 1
  pub reached : (soil_fits card soil && rows_fit card rows) ≡ true → cell_fits card i ≡ true → site_answer card soil rows i ≡ answer_of card soil_part row_part i
  unfolding refuse
  reached e f = go (card_ok card) refl
    where
      go : (a : Bool) → card_ok card ≡ a → site_answer card soil rows i ≡ answer_of card soil_part row_part i
      go true p = sym (by_checks p e f)
      go false p = sym (by_checks p refl refl) ∙ sym (bad_card card soil_part row_part i p)

  -- ---- the number is that of the first check in the table that fails
  pub first_failing_lem : number_of (site_answer card soil rows i) ≡ first_failing (checks_of card soil rows i)
  unfolding checks_of refuse
  first_failing_lem = go (card_ok card) refl (soil_fits card soil && rows_fit card rows) refl (cell_fits card i) refl
    where
      go : (a : Bool) → card_ok card ≡ a → (b : Bool) → (soil_fits card soil && rows_fit card rows) ≡ b → (c : Bool) → cell_fits card i ≡ c → number_of (site_answer card soil rows i) ≡ first_failing (checks_of card soil rows i)
      go false p b q c s = rw (← by_checks p q s, p)
      go true p false q c s = rw (← by_checks p q s, p, q)
      go true p true q false s = rw (← by_checks p q s, p, q, s)
      go true p true q true s = rw (← by_checks p q s, p, q, s) (rw p at (row_number card soil_part row_part i))

  -- ---- the rows: refused, exactly as they came
  pub rows_stay : (why : Refusal) → site_answer card soil rows i ≡ Err why → site_rows card soil rows i ≡ rows
  unfolding site_rows rows_by
  rows_stay why e = rw e

  pub rows_reached : (soil_fits card soil && rows_fit card rows) ≡ true → cell_fits card i ≡ true
      → site_rows card soil rows i ≡ put_at (row_width card) (cell_of i) (new_row card soil_part row_part i) rows
  unfolding site_rows rows_by
  rows_reached e f = go (answer_of card soil_part row_part i) refl
    where
      after : List ℕ
      after = put_at (row_width card) (cell_of i) (new_row card soil_part row_part i) rows

      go : (b : Answer) → answer_of card soil_part row_part i ≡ b → rows_by (site_answer card soil rows i) after rows ≡ after
      go (Ok a) g = rw (reached e f, g)
      go (Err why) g = rw (reached e f, g) (sym (rw (stays card soil_part row_part i why g) (put_back (row_width card) (cell_of i) rows)))

  -- [6] 15 is the named row's: the checks before it are passed
  pub full_card : site_answer card soil rows i ≡ Err FullSums → card_ok card ≡ true
  unfolding refuse
  full_card e = go (card_ok card) refl
    where
      go : (a : Bool) → card_ok card ≡ a → a ≡ true
      go true p = refl
      go false p =
          let b : ◌≡◌ {A = Answer} (Err BadCard) (Err FullSums) = by_checks p refl refl ∙ e in
          cc

  pub full_reached : site_answer card soil rows i ≡ Err FullSums → (length rows ≡ row_width card * card.cells) × (answer_of card soil_part row_part i ≡ Err FullSums)
  unfolding rows_fit
  full_reached e = go (soil_fits card soil && rows_fit card rows) refl (cell_fits card i) refl
    where
      never : (a : Bool) (why : Refusal) → ¬ (why ≡ FullSums) → ¬ (◌≡◌ {A = Answer} (Err (cond a why BadCard)) (Err FullSums))
      never true why n f = n (cc)
      never false why n f = cc

      go : (b : Bool) → (soil_fits card soil && rows_fit card rows) ≡ b → (c : Bool) → cell_fits card i ≡ c → (length rows ≡ row_width card * card.cells) × (answer_of card soil_part row_part i ≡ Err FullSums)
      go false q c s = absurd (never (card_ok card) BadLengths (λ f. cc) (sym (lengths_bad q) ∙ e))
      go true q false s = absurd (never (card_ok card) BadCell (λ f. cc) (sym (cell_bad q s) ∙ e))
      go true q true s =
          (eqb-true (length rows) (row_width card * card.cells) ((and-eq-true_iff (soil_fits card soil) (rows_fit card rows)).0 q).1, sym (reached q s) ∙ e)

  -- ---- an accepted step: what was checked, and what it left
  module _ (a : Amounts) (e : site_answer card soil rows i ≡ Ok a) where
    no_refusal : (why : Refusal) → site_answer card soil rows i ≡ Err why → ⊥
    no_refusal why f = cc

    lengths_were : (soil_fits card soil && rows_fit card rows) ≡ true
    lengths_were = go (soil_fits card soil && rows_fit card rows) refl
      where
        go : (b : Bool) → (soil_fits card soil && rows_fit card rows) ≡ b → b ≡ true
        go true q = refl
        go false q = absurd (no_refusal _ (lengths_bad q))

    cell_was : cell_fits card i ≡ true
    cell_was = go (cell_fits card i) refl
      where
        go : (b : Bool) → cell_fits card i ≡ b → b ≡ true
        go true q = refl
        go false q = absurd (no_refusal _ (cell_bad lengths_were q))

    pub row_answer : answer_of card soil_part row_part i ≡ Ok a
    row_answer = sym (reached lengths_were cell_was) ∙ e

    pub card_was : card_ok card ≡ true
    card_was = (step_taken card soil_part row_part i a row_answer).checks.card_ok_lem

    pub cell_below : cell_of i < card.cells
    unfolding cell_fits
    cell_below = ltb-true (cell_of i) card.cells cell_was

    pub rows_long : length rows ≡ row_width card * card.cells
    unfolding rows_fit
    rows_long = eqb-true (length rows) (row_width card * card.cells) ((and-eq-true_iff (soil_fits card soil) (rows_fit card rows)).0 lengths_were).1

    has_room : row_width card * cell_of i + row_width card ≤ length rows
    has_room = room (row_width card) (cell_of i) card.cells rows rows_long cell_below

    new_length : length (new_row card soil_part row_part i) ≡ row_width card
    new_length = length_after card soil_part row_part i a row_answer

    rows_are : site_rows card soil rows i ≡ put_at (row_width card) (cell_of i) (new_row card soil_part row_part i) rows
    rows_are = rows_reached lengths_were cell_was

    -- the named cell's row is the new one, every other cell's is as it was, and no other number of the slice differs
    pub own_row : part_at (row_width card) (cell_of i) (site_rows card soil rows i) ≡ new_row card soil_part row_part i
    own_row = rw rows_are (put_same (row_width card) (cell_of i) (new_row card soil_part row_part i) rows new_length has_room)

    pub other_row : (p : ℕ) → ¬ (cell_of i ≡ p) → part_at (row_width card) p (site_rows card soil rows i) ≡ part_at (row_width card) p rows
    other_row p ne = rw rows_are (put_other (row_width card) (cell_of i) (new_row card soil_part row_part i) rows new_length has_room p ne)

    pub outside : (j : ℕ) → ¬ ((row_width card * cell_of i ≤ j) × (j < row_width card * cell_of i + row_width card)) → get_or (site_rows card soil rows i) j 0 ≡ get_or rows j 0
    outside j n = rw rows_are (put_outside (row_width card) (cell_of i) (new_row card soil_part row_part i) rows new_length has_room j n)

    pub rows_length : length (site_rows card soil rows i) ≡ length rows
    rows_length = rw rows_are (put_length (row_width card) (cell_of i) (new_row card soil_part row_part i) rows new_length has_room)

-- [7] the rain of an accepted reading is at most 600,000
pub rain_most : (card : Card) (soil : List ℤ) (rows : List ℕ) (r : Reading) (a : Amounts) → site_answer card soil rows (Entry.Reading r) ≡ Ok a → r.rain ≤ 600000
rain_most card soil rows r a e =
    rain_taken card (part_at soil_width r.cell soil) (part_at (row_width card) r.cell rows) r a (row_answer card soil rows (Entry.Reading r) a e)

-- ---- what an answer and the rows promise, where they are those of the definitions
module _ (card : Card) (soil : List ℤ) (rows : List ℕ) (i : Entry) where
  amounts_by_lem : (x : Answer) → site_answer card soil rows i ≡ x
      → amounts_of x ≡ cond (eqb (number_of x) 0) (amounts_of (answer_of card (part_at soil_width (cell_of i) soil) (part_at (row_width card) (cell_of i) rows) i)) nothing
  amounts_by_lem (Ok a) e = rw (row_answer card soil rows i a e)
  amounts_by_lem (Err why) e = rw (ne_eqb (refusal_number why) 0 (λ z. omega (arith, (refusal_in why).0)))

  pub gives : {answer : Answer} {after : List ℕ} → answer ≡ site_answer card soil rows i → after ≡ site_rows card soil rows i → SiteGives card soil rows i answer after
  gives p q =
      let n = first_failing_lem card soil rows i in
      record {
        answer_is = p;
        number_is = ap number_of p ∙ n;
        amounts_are = ap amounts_of p ∙ (rw n at (amounts_by_lem (site_answer card soil rows i) refl));
        rows_are = q;
      }

-- ---- clearing, by its two checks
module _ (card : Card) (rows : List ℕ) where
  pub clear_card : card_ok card ≡ false → ClearGives card rows (Err BadCard) rows
  unfolding clear_number clear_answer refuse clear_rows
  clear_card p = record { answer_is = rw p; number_is = rw p; rows_are = rw p }

  pub clear_long : card_ok card ≡ true → rows_fit card rows ≡ false → ClearGives card rows (Err BadLengths) rows
  unfolding clear_number clear_answer refuse clear_rows
  clear_long p q = record { answer_is = rw (p, q); number_is = rw (p, q); rows_are = rw (p, q) }

  pub clear_done : card_ok card ≡ true → rows_fit card rows ≡ true → ClearGives card rows (Ok tt) (replicate (length rows) 0)
  unfolding clear_number clear_answer refuse clear_rows
  clear_done p q = record { answer_is = rw (p, q); number_is = rw (p, q); rows_are = rw (p, q) }

-- ---- a step that is refused gives the rows as they came
pub refused_gives : (card : Card) (soil : List ℤ) (rows : List ℕ) (i : Entry) (why : Refusal) → site_answer card soil rows i ≡ Err why → SiteGives card soil rows i (Err why) rows
refused_gives card soil rows i why e = gives card soil rows i (sym e) (sym (rows_stay card soil rows i why e))

-- ---- an entry refused with 8, 17, 9, 10 or 15 does not use up its count
-- the checks of a list, each with a number below n: they are passed where the first failing check of them and others has the number n or a higher one
abbrev Below : ℕ → List (ℕ × Bool) → Type 0
Below n [] = Unit {0}
Below n (check ∷ more) = (check.0 < n) × Below n more

were_passed : (n : ℕ) (checks others : List (ℕ × Bool)) → Below n checks → n ≤ first_failing (checks ++ others) → first_failing checks ≡ 0
were_passed n [] others b h = refl
were_passed n (check ∷ more) others b h = go check.1 refl (were_passed n more others b.1)
  where
    go : (t : Bool) → check.1 ≡ t → (n ≤ first_failing (more ++ others) → first_failing more ≡ 0) → cond check.1 (first_failing more) check.0 ≡ 0
    go true e ih = rw e (ih (rw e at h))
    go false e ih = absurd (let k : n ≤ check.0 = rw e at h in omega (arith, b.0))

-- checks and others that are all passed
both_pass : (checks others : List (ℕ × Bool)) → first_failing checks ≡ 0 → first_failing others ≡ 0 → first_failing (checks ++ others) ≡ 0
both_pass [] others e f = f
both_pass (check ∷ more) others e f = go check.1 refl (both_pass more others)
  where
    go : (t : Bool) → check.1 ≡ t → (first_failing more ≡ 0 → first_failing others ≡ 0 → first_failing (more ++ others) ≡ 0) → cond check.1 (first_failing (more ++ others)) check.0 ≡ 0
    go true p ih = rw p (ih (rw p at e) f)
    go false p ih = rw p (rw p at e)

if_none_fails : (x : Answer) → number_of x ≡ 0 → (a : Amounts) × (x ≡ Ok a)
if_none_fails (Ok a) e = (a, refl)
if_none_fails (Err why) e = absurd (omega (arith, (refusal_in why).0))

-- where each number is below n, so is that of the first failing check
first_below : (n : ℕ) (checks : List (ℕ × Bool)) → 0 < n → Below n checks → first_failing checks < n
first_below n [] h b = h
first_below n (check ∷ more) h b = go check.1 (first_below n more h b.1)
  where
    go : (t : Bool) → first_failing more < n → cond t (first_failing more) check.0 < n
    go true ih = ih
    go false ih = b.0

-- checks 1 to 7 look at an entry's cell, life and count only
first_seven : (card : Card) (soil : List ℤ) (rows : List ℕ) (i i' : Entry) → notice_of i ≡ notice_of i' → take 7 (checks_of card soil rows i') ≡ take 7 (checks_of card soil rows i)
unfolding checks_of cell_fits
first_seven card soil rows i i' e = let c : cell_of i ≡ cell_of i' = ap (λ (n : Notice). n.cell) e in rw (e, c)

seven_passed : (card : Card) (soil : List ℤ) (rows : List ℕ) (i : Entry) → 8 ≤ first_failing (checks_of card soil rows i) → first_failing (take 7 (checks_of card soil rows i)) ≡ 0
unfolding checks_of
seven_passed card soil rows i h =
    were_passed 8 (take 7 (checks_of card soil rows i)) (drop 7 (checks_of card soil rows i))
    (omega arith, (omega arith, (omega arith, (omega arith, (omega arith, (omega arith, (omega arith, tt))))))) h

-- the rows stay, and a corrected entry of the same plot, life and count meets the same checks 1 to 7, which are passed
pub count_open : (card : Card) (soil : List ℤ) (rows : List ℕ) (i i' : Entry) {answer : Answer} {after : List ℕ} → SiteGives card soil rows i answer after → 8 ≤ number_of answer
    → notice_of i ≡ notice_of i'
    → (after ≡ rows) × (take 7 (checks_of card soil after i') ≡ take 7 (checks_of card soil rows i)) × (first_failing (take 7 (checks_of card soil after i')) ≡ 0)
count_open card soil rows i i' {answer} {after} g h n = (stay, same, ap first_failing same ∙ were)
  where
    by : (x : Answer) → site_answer card soil rows i ≡ x → 8 ≤ number_of x → site_rows card soil rows i ≡ rows
    by (Ok a) e k = absurd (omega arith)
    by (Err why) e k = rows_stay card soil rows i why e

    stay : after ≡ rows
    stay = g.rows_are ∙ by (site_answer card soil rows i) refl (rw g.answer_is at h)

    same : take 7 (checks_of card soil after i') ≡ take 7 (checks_of card soil rows i)
    same = rw stay (first_seven card soil rows i i' n)

    were : first_failing (take 7 (checks_of card soil rows i)) ≡ 0
    were = seven_passed card soil rows i (rw g.number_is at h)

-- [3] a void is never refused with a number above 8: 17, 9, 10 and 15 do not concern it
pub void_number : (card : Card) (soil : List ℤ) (rows : List ℕ) (n : Notice) → number_of (site_answer card soil rows (Entry.Void n)) ≤ 8
unfolding checks_of
void_number card soil rows n =
    let i = Entry.Void n in
    let b = first_below 9 (checks_of card soil rows i) (omega arith) (omega arith, (omega arith, (omega arith, (omega arith, (omega arith, (omega arith, (omega arith, (omega arith, tt)))))))) in
    rw (first_failing_lem card soil rows i) (omega (arith, b))

-- [3] so a reading that was refused with 8, 17, 9, 10 or 15, its life and count in range, can be mended: a void of its cell, life and count is accepted
pub void_mends : (card : Card) (soil : List ℤ) (rows : List ℕ) (r : Reading) {answer : Answer} {after : List ℕ} → SiteGives card soil rows (Entry.Reading r) answer after → 8 ≤ number_of answer
    → notice_ok (noticed r) ≡ true → (a : Amounts) × (site_answer card soil after (Entry.Void (noticed r)) ≡ Ok a)
unfolding checks_of
void_mends card soil rows r {answer} {after} g h k =
    let i = Entry.Void (noticed r) in
    if_none_fails (site_answer card soil after i)
    (first_failing_lem card soil after i ∙ both_pass (take 7 (checks_of card soil after i)) (field_checks i) (count_open card soil rows (Entry.Reading r) i g h refl).2 (rw k))

-- [7] 17 says one thing: every field of the reading is in its range, and its rain is above 600,000
only_jammed : (checks rest : List (ℕ × Bool)) (ok free : Bool) → Below 17 checks → Below 17 rest → first_failing (checks ++ ((8, ok) ∷ (17, free) ∷ rest)) ≡ 17 → (ok ≡ true) × (free ≡ false)
only_jammed [] rest ok free b w e = go ok free e
  where
    go : (x y : Bool) → cond x (cond y (first_failing rest) 17) 8 ≡ 17 → (x ≡ true) × (y ≡ false)
    go true false f = (refl, refl)
    go true true f = absurd (omega (arith, first_below 17 rest (omega arith) w, f))
    go false y f = absurd (omega (arith, f))
only_jammed (check ∷ more) rest ok free b w e = go check.1 refl (only_jammed more rest ok free b.1 w)
  where
    go : (t : Bool) → check.1 ≡ t → (first_failing (more ++ ((8, ok) ∷ (17, free) ∷ rest)) ≡ 17 → (ok ≡ true) × (free ≡ false)) → (ok ≡ true) × (free ≡ false)
    go true p ih = ih (rw p at e)
    go false p ih = absurd (let k : check.0 ≡ 17 = rw p at e in omega (arith, b.0, k))

pub jammed_says : (card : Card) (soil : List ℤ) (rows : List ℕ) (r : Reading) → number_of (site_answer card soil rows (Entry.Reading r)) ≡ 17 → (fields_ok r ≡ true) × (600000 < r.rain)
unfolding checks_of
jammed_says card soil rows r n =
    let i = Entry.Reading r in
    let p =
    only_jammed (take 7 (checks_of card soil rows i)) (drop 9 (checks_of card soil rows i)) (fields_ok r) (not (is_jammed r))
    (omega arith, (omega arith, (omega arith, (omega arith, (omega arith, (omega arith, (omega arith, tt))))))) (omega arith, (omega arith, (omega arith, tt)))
    (sym (first_failing_lem card soil rows i) ∙ n) in
    (p.0, ltb-true 600000 r.rain (not-false _ p.1))

-- ---- the answer and the new row depend on nothing but the card, the two lengths, the named cell's soil numbers and row, and the entry
module _ (card : Card) (soil soil' : List ℤ) (rows rows' : List ℕ) (i : Entry)
    (soil-long : length soil ≡ length soil') (rows_long : length rows ≡ length rows')
    (same-soil : part_at soil_width (cell_of i) soil ≡ part_at soil_width (cell_of i) soil')
    (same_row : part_at (row_width card) (cell_of i) rows ≡ part_at (row_width card) (cell_of i) rows') where
  pub same_answer : site_answer card soil rows i ≡ site_answer card soil' rows' i
  unfolding site_answer soil_fits rows_fit
  same_answer = rw (soil-long, rows_long, same-soil, same_row)

  pub same_new_row : part_at (row_width card) (cell_of i) (site_rows card soil rows i) ≡ part_at (row_width card) (cell_of i) (site_rows card soil' rows' i)
  same_new_row = go (site_answer card soil rows i) refl
    where
      go : (b : Answer) → site_answer card soil rows i ≡ b → part_at (row_width card) (cell_of i) (site_rows card soil rows i) ≡ part_at (row_width card) (cell_of i) (site_rows card soil' rows' i)
      go (Ok a) e =
          own_row card soil rows i a e
          ∙ ap (λ (s : List ℤ). new_row card s (part_at (row_width card) (cell_of i) rows) i) same-soil
          ∙ ap (λ (w : List ℕ). new_row card (part_at soil_width (cell_of i) soil') w i) same_row
          ∙ sym (own_row card soil' rows' i a (sym same_answer ∙ e))
      go (Err why) e =
          ap (part_at (row_width card) (cell_of i)) (rows_stay card soil rows i why e)
          ∙ same_row
          ∙ sym (ap (part_at (row_width card) (cell_of i)) (rows_stay card soil' rows' i why (sym same_answer ∙ e)))

-- clearing has three numbers
pub clear_most : (card : Card) (rows : List ℕ) → clear_number card rows ≤ 2
unfolding clear_number
clear_most card rows = go (card_ok card) (rows_fit card rows)
  where
    go : (a b : Bool) → cond a (cond b 0 2) 1 ≤ 2
    go false b = omega arith
    go true false = omega arith
    go true true = omega arith

-- ---- a cleared site: its card and its length have passed, and each cell's row is zeros
pub clear_passed : (card : Card) (rows : List ℕ) → clear_number card rows ≡ 0 → (card_ok card ≡ true) × (length (clear_rows card rows) ≡ row_width card * card.cells)
unfolding clear_number clear_rows rows_fit
clear_passed card rows z = go (card_ok card) refl (eqb (length rows) (row_width card * card.cells)) refl z
  where
    go : (a : Bool) → card_ok card ≡ a → (b : Bool) → eqb (length rows) (row_width card * card.cells) ≡ b → ◌≡◌ {A = ℕ} (cond a (cond b 0 2) 1) 0
        → (card_ok card ≡ true) × (length (cond (eqb (cond a (cond b 0 2) 1) 0) (replicate (length rows) 0) rows) ≡ row_width card * card.cells)
    go false p b q f = absurd (omega arith)
    go true p false q f = absurd (omega arith)
    go true p true q f = (p, length-replicate {A = ℕ} (length rows) 0 ∙ eqb-true (length rows) (row_width card * card.cells) q)

pub cleared_part : (card : Card) (rows : List ℕ) → clear_number card rows ≡ 0 → (p : ℕ) → p < card.cells → part_at (row_width card) p (clear_rows card rows) ≡ replicate (row_width card) 0
unfolding clear_number clear_rows rows_fit
cleared_part card rows z p h = go (card_ok card) (eqb (length rows) (row_width card * card.cells)) refl z
  where
    go : (a b : Bool) → eqb (length rows) (row_width card * card.cells) ≡ b → ◌≡◌ {A = ℕ} (cond a (cond b 0 2) 1) 0 → part_at (row_width card) p (cond (eqb (cond a (cond b 0 2) 1) 0) (replicate (length rows) 0) rows) ≡ replicate (row_width card) 0
    go false b e f = absurd (omega arith)
    go true false e f = absurd (omega arith)
    go true true e f =
        let l : length rows ≡ row_width card * card.cells = eqb-true (length rows) (row_width card * card.cells) e in
        part_zeros (row_width card) p (length rows) (let k : suc p ≤ card.cells = h in omega (arith, mul-le-mul_left (row_width card) k))
