-- [6] Laws of the two forms of rows: back after over gives the very rows; moves and collecting keep every cell's life, next count and slots. Assumes nothing.
use Rattle.std.proofs.Math.Path.{◌≡◌, refl, ap}
use Rattle.std.proofs.Common.{sym, ◌∙◌, arith}
use Rattle.std.specs.Prelude.{Bool, cond, length, get_or, Result, Err}
use Rattle.std.proofs.Math.Bool.{true, false}
use mathlib.Core.List.{List}
use Prim.Native.Nat.{ℕ, zero, suc, ◌+◌, ◌*◌, ◌≤◌, ◌<◌}
use borrow.Author.Tests.{ltb-true, eqb-true, ne_eqb}
use Rattle.std.proofs.Math.Dec.{ltb, eqb}
use Rattle.cell.specs.declared.Card.{Card}
use Rattle.cell.specs.declared.Collected.{Collected}
use Rattle.cell.specs.Ranges.{card_ok, form_ok, row_width, row_ok}
use Rattle.cell.specs.RangeLaws.{row_in, card_in}
use Rattle.cell.specs.Sums.{front_width, runoff_at, drain_at, sum_numbers, sum_of, no_sums, emptied}
use Rattle.cell.proofs.SumLaws.{SameFront, front_of, no_sum, none_held, none_told, form_moved, emptied_front, emptied_length, emptied_other, emptied_runoff, emptied_drain}
use Rattle.cell.specs.declared.Refusal.{Refusal}
use Rattle.cell.specs.declared.Refusal.TheVariants.{BadCard, BadLengths, BadCell}
use Rattle.cell.specs.Refusals.{refusal_number, number_of}
use Rattle.cell.specs.Collect.{collect_number, collect_answer, sums_of, collected_by, list_by, CollectGives}
use Rattle.cell.specs.CollectLaws.{collect_number_lem, collect_gives}
use Rattle.site.specs.Rows.{part_at, put_at}
use Rattle.site.specs.RowsLaws.{put_back, put_same, put_other, put_length, put_outside, room, part_length}
use Rattle.site.specs.Site.{rows_fit, refuse}
use Rattle.site.specs.Moves.{recut, Cut}
use Rattle.site.specs.MoveLaws.{recut_first, recut_zero, all_length, all_part, all_told, all_from, back_after_over, Movable, move_passed, move_fine}
use Rattle.site.specs.Forms.{sums_width, grow_number, grown_rows, GrowGives, shrink_number, shrunk_rows, ShrinkGives, collecting_number, collecting_answer, collected_rows, SumsGive}

-- the two cuts
pub over : Cut front_width runoff_at 0 sum_numbers
over = record { inside = omega arith; small = omega arith }

pub back : Cut sums_width runoff_at sum_numbers 0
back = record { inside = omega arith; small = omega arith }

-- ---- the move over
module _ (card : Card) (old new : List ℕ) (z : grow_number card old new ≡ 0) where
  passed : Movable front_width sums_width false card old new
  passed = move_passed front_width sums_width false card old new z

  pub grow_card : card_ok card ≡ true
  grow_card = passed.card_ok_lem

  pub grow_long : length old ≡ front_width * card.cells
  grow_long = passed.from_long

  pub grown_row : (p : ℕ) → p < card.cells → part_at sums_width p (grown_rows card old) ≡ recut runoff_at 0 sum_numbers (part_at front_width p old)
  grown_row p h = all_part front_width runoff_at 0 sum_numbers over old card.cells p h (omega (arith, passed.from_long))

  plain_long : (p : ℕ) → p < card.cells → length (part_at front_width p old) ≡ front_width
  plain_long p h = part_length front_width p old (room front_width p card.cells old passed.from_long h)

  -- each cell's row begins as it did, and has nothing in its sums
  pub grown_front : (p : ℕ) → p < card.cells → SameFront (part_at front_width p old) (part_at sums_width p (grown_rows card old))
  grown_front p h =
      let l = plain_long p h in
      let row = part_at front_width p old in
      rw (grown_row p h) (front_of row (recut runoff_at 0 sum_numbers row) (recut_first runoff_at 0 sum_numbers row (omega arith) front_width (omega arith)))

  pub grown_sum : (at p : ℕ) → runoff_at ≤ at → at + 2 ≤ sums_width → p < card.cells → sum_of at (part_at sums_width p (grown_rows card old)) ≡ 0
  grown_sum at p a b h =
      let l = plain_long p h in
      let row = part_at front_width p old in
      rw (grown_row p h)
      (no_sum at (recut runoff_at 0 sum_numbers row)
      (recut_zero runoff_at 0 sum_numbers row (omega arith) at a (omega arith)) (recut_zero runoff_at 0 sum_numbers row (omega arith) (at + 1) (omega arith) (omega arith)))

  pub grown_length : length (grown_rows card old) ≡ sums_width * card.cells
  grown_length = all_length front_width runoff_at 0 sum_numbers over old card.cells (omega (arith, passed.from_long))

  -- a row in range is in range in its new form
  pub grown_form : (p : ℕ) → p < card.cells → form_ok card.delays (part_at sums_width p (grown_rows card old)) ≡ true
  grown_form p h =
      form_moved card.delays (all_told (form_ok card.delays) card.cells front_width old passed.rows_ok p h) (grown_front p h)
      (omega (arith, part_length sums_width p (grown_rows card old) (room sums_width p card.cells (grown_rows card old) grown_length h)))
      (grown_sum runoff_at p (omega arith) (omega arith) h) (grown_sum drain_at p (omega arith) (omega arith) h)

  -- BACK AFTER OVER: into any slice of the old length, the move back is accepted and gives the very rows
  module _ (to : List ℕ) (fits : length to ≡ front_width * card.cells) where
    movable : Movable sums_width front_width true card (grown_rows card old) to
    movable =
        record {
          card_ok_lem = passed.card_ok_lem;
          from_long = grown_length;
          to_long = fits;
          rows_ok = all_from (form_ok card.delays) card.cells sums_width (grown_rows card old) grown_form;
          sums_ok =
              all_from no_sums card.cells sums_width (grown_rows card old)
              (λ p h. none_held (part_at sums_width p (grown_rows card old)) (grown_sum runoff_at p (omega arith) (omega arith) h) (grown_sum drain_at p (omega arith) (omega arith) h));
        }

    pub shrinks_back : shrink_number card (grown_rows card old) to ≡ 0
    shrinks_back = move_fine sums_width front_width true card (grown_rows card old) to movable

    pub very_rows : list_by (shrink_number card (grown_rows card old) to) (shrunk_rows card (grown_rows card old)) to ≡ old
    very_rows = rw shrinks_back (back_after_over front_width runoff_at sum_numbers card.cells old (omega arith) (omega arith) passed.from_long)

-- ---- the move back
module _ (card : Card) (new old : List ℕ) (z : shrink_number card new old ≡ 0) where
  went : Movable sums_width front_width true card new old
  went = move_passed sums_width front_width true card new old z

  pub shrink_card : card_ok card ≡ true
  shrink_card = went.card_ok_lem

  pub shrink_long : length new ≡ sums_width * card.cells
  shrink_long = went.from_long

  -- every row's sums were 0
  pub shrunk_empty : (p : ℕ) → p < card.cells → (sum_of runoff_at (part_at sums_width p new) ≡ 0) × (sum_of drain_at (part_at sums_width p new) ≡ 0)
  shrunk_empty p h = none_told (part_at sums_width p new) (all_told no_sums card.cells sums_width new went.sums_ok p h)

  pub shrunk_row : (p : ℕ) → p < card.cells → part_at front_width p (shrunk_rows card new) ≡ recut runoff_at sum_numbers 0 (part_at sums_width p new)
  shrunk_row p h = all_part sums_width runoff_at sum_numbers 0 back new card.cells p h (omega (arith, went.from_long))

  pub shrunk_front : (p : ℕ) → p < card.cells → SameFront (part_at sums_width p new) (part_at front_width p (shrunk_rows card new))
  shrunk_front p h =
      let row = part_at sums_width p new in
      let l = part_length sums_width p new (room sums_width p card.cells new went.from_long h) in
      rw (shrunk_row p h) (front_of row (recut runoff_at sum_numbers 0 row) (recut_first runoff_at sum_numbers 0 row (omega arith) front_width (omega arith)))

  pub shrunk_length : length (shrunk_rows card new) ≡ front_width * card.cells
  shrunk_length = all_length sums_width runoff_at sum_numbers 0 back new card.cells (omega (arith, went.from_long))

-- what `grow` wrote, `shrink` gives back: the number is 0, and the rows are the very rows, whatever stood in the slice
pub back_again : (card : Card) {old new grown to back : List ℕ} {n : ℕ} → GrowGives card old new 0 grown → length to ≡ front_width * card.cells → ShrinkGives card grown to n back → (n ≡ 0) × (back ≡ old)
back_again card {old} {new} {grown} {to} {back} {n} g l s =
    let z : grow_number card old new ≡ 0 = sym g.number_is in
    let e : grown ≡ grown_rows card old = g.rows_are ∙ rw z in
    let t : ShrinkGives card (grown_rows card old) to n back = rw e at s in
    (t.number_is ∙ shrinks_back card old new z to l, t.rows_are ∙ very_rows card old new z to l)

-- ---- collecting, by its checks
module _ (card : Card) (rows : List ℕ) (cell : ℕ) where
  abbrev row : List ℕ
  row = part_at (row_width card) cell rows

  collecting_by : {a b c : Bool} → card_ok card ≡ a → rows_fit card rows ≡ b → ltb cell card.cells ≡ c → cond a (cond b (cond c (cond (row_ok card row) 0 5) 3) 2) 1 ≡ collecting_number card rows cell
  unfolding collecting_number
  collecting_by p q s = rw (p, q, s)

  answer_by : {a b c : Bool} → card_ok card ≡ a → rows_fit card rows ≡ b → ltb cell card.cells ≡ c
      → refuse a BadCard (refuse b BadLengths (refuse c BadCell (collect_answer card row))) ≡ collecting_answer card rows cell
  unfolding collecting_answer
  answer_by p q s = rw (p, q, s)

  nothing_got : (why : Refusal) {n : ℕ} → refusal_number why ≡ suc n → Err why ≡ collecting_answer card rows cell → suc n ≡ collecting_number card rows cell → SumsGive card rows cell (Err why) rows
  nothing_got why w a e = record { answer_is = a; number_is = w ∙ e; got_is = rw (sym e); rows_are = rw (sym e) }

  pub collect_bad_card : card_ok card ≡ false → SumsGive card rows cell (Err BadCard) rows
  unfolding refuse
  collect_bad_card p = nothing_got BadCard refl (answer_by p refl refl) (collecting_by p refl refl)

  pub collect_bad_length : card_ok card ≡ true → rows_fit card rows ≡ false → SumsGive card rows cell (Err BadLengths) rows
  unfolding refuse
  collect_bad_length p q = nothing_got BadLengths refl (answer_by p q refl) (collecting_by p q refl)

  pub collect_bad_cell : card_ok card ≡ true → rows_fit card rows ≡ true → ltb cell card.cells ≡ false → SumsGive card rows cell (Err BadCell) rows
  unfolding refuse
  collect_bad_cell p q s = nothing_got BadCell refl (answer_by p q s) (collecting_by p q s)

  -- what the named row gave, put back in its place
  pub collect_reached : card_ok card ≡ true → rows_fit card rows ≡ true → ltb cell card.cells ≡ true → {got : Result Collected Refusal} {after : List ℕ} → CollectGives card row got after → SumsGive card rows cell got (put_at (row_width card) cell after rows)
  unfolding collected_rows refuse
  collect_reached p q s {got} {after} g =
      let e : collect_number card row ≡ collecting_number card rows cell = collect_number_lem card row p ∙ collecting_by p q s in
      record {
        answer_is = g.answer_is ∙ answer_by p q s;
        number_is = g.number_is ∙ e;
        got_is = g.got_is ∙ ap (λ (k : ℕ). collected_by k row) e;
        rows_are = ap (λ (t : List ℕ). put_at (row_width card) cell t rows) g.row_is ∙ go (collect_number card row) ∙ ap (λ (k : ℕ). list_by k (put_at (row_width card) cell (emptied row) rows) rows) e;
      }
    where
      go : (n : ℕ) → put_at (row_width card) cell (list_by n (emptied row) row) rows ≡ list_by n (put_at (row_width card) cell (emptied row) rows) rows
      go zero = refl
      go (suc n) = put_back (row_width card) cell rows

  -- by its checks a call has an answer and rows, which are those of the definitions
  some_give : (got : Result Collected Refusal) × (after : List ℕ) × SumsGive card rows cell got after
  some_give = go (card_ok card) refl (rows_fit card rows) refl (ltb cell card.cells) refl
    where
      go : (a : Bool) → card_ok card ≡ a → (b : Bool) → rows_fit card rows ≡ b → (c : Bool) → ltb cell card.cells ≡ c → (got : Result Collected Refusal) × (after : List ℕ) × SumsGive card rows cell got after
      go false p b q c s = (_, _, collect_bad_card p)
      go true p false q c s = (_, _, collect_bad_length p q)
      go true p true q false s = (_, _, collect_bad_cell p q s)
      go true p true q true s = (_, _, collect_reached p q s (collect_gives card row))

  pub sums_give : SumsGive card rows cell (collecting_answer card rows cell) (list_by (collecting_number card rows cell) (collected_rows card cell rows) rows)
  sums_give = let g = some_give.2 in record { answer_is = refl; number_is = ap number_of (sym g.answer_is) ∙ g.number_is; got_is = ap sums_of (sym g.answer_is) ∙ g.got_is; rows_are = refl }

  -- ---- where it was collected
  module _ (z : collecting_number card rows cell ≡ 0) where
    record Asked : Type 0 where
      card_ok_lem : card_ok card ≡ true
      rows_long : length rows ≡ row_width card * card.cells
      below : cell < card.cells
      row_ok_lem : row_ok card row ≡ true

    asked : Asked
    unfolding collecting_number rows_fit
    asked = go (card_ok card) refl (eqb (length rows) (row_width card * card.cells)) refl (ltb cell card.cells) refl (row_ok card row) refl z
      where
        go : (a : Bool) → card_ok card ≡ a → (b : Bool) → eqb (length rows) (row_width card * card.cells) ≡ b → (c : Bool) → ltb cell card.cells ≡ c → (d : Bool) → row_ok card row ≡ d
            → ◌≡◌ {A = ℕ} (cond a (cond b (cond c (cond d 0 5) 3) 2) 1) 0 → Asked
        go true p true q true s true t e = record { card_ok_lem = p; rows_long = eqb-true _ _ q; below = ltb-true _ _ s; row_ok_lem = t }
        go true p true q true s false t e = absurd (omega arith)
        go true p true q false s d t e = absurd (omega arith)
        go true p false q c s d t e = absurd (omega arith)
        go false p b q c s d t e = absurd (omega arith)

    pub collect_card : card_ok card ≡ true
    collect_card = asked.card_ok_lem

    pub collect_long : length rows ≡ row_width card * card.cells
    collect_long = asked.rows_long

    has_room : row_width card * cell + row_width card ≤ length rows
    has_room = room (row_width card) cell card.cells rows asked.rows_long asked.below

    long : length row ≡ row_width card
    long = (row_in card row asked.row_ok_lem).long

    new_long : length (emptied row) ≡ row_width card
    new_long = emptied_length row ∙ long

    sums_inside : drain_at + 2 ≤ length row
    sums_inside = omega (arith, long)

    -- its own row has both sums at 0, every other row is as it was
    pub own_emptied : part_at (row_width card) cell (collected_rows card cell rows) ≡ emptied row
    unfolding collected_rows
    own_emptied = put_same (row_width card) cell (emptied row) rows new_long has_room

    pub other_kept : (p : ℕ) → ¬ (cell ≡ p) → part_at (row_width card) p (collected_rows card cell rows) ≡ part_at (row_width card) p rows
    unfolding collected_rows
    other_kept p ne = put_other (row_width card) cell (emptied row) rows new_long has_room p ne

    pub own_sums : (sum_of runoff_at (part_at (row_width card) cell (collected_rows card cell rows)) ≡ 0) × (sum_of drain_at (part_at (row_width card) cell (collected_rows card cell rows)) ≡ 0)
    own_sums = (ap (sum_of runoff_at) own_emptied ∙ emptied_runoff row sums_inside, ap (sum_of drain_at) own_emptied ∙ emptied_drain row sums_inside)

    pub collect_front : SameFront row (part_at (row_width card) cell (collected_rows card cell rows))
    collect_front = rw own_emptied (emptied_front row)

    -- of its row no number but those of the sums differs, of the slice none outside its row, and the slice is as long as it was
    pub own_other : (j : ℕ) → ¬ ((runoff_at ≤ j) × (j < runoff_at + sum_numbers)) → get_or (part_at (row_width card) cell (collected_rows card cell rows)) j 0 ≡ get_or row j 0
    own_other j n = rw own_emptied (emptied_other row j n)

    pub collect_outside : (j : ℕ) → ¬ ((row_width card * cell ≤ j) × (j < row_width card * cell + row_width card)) → get_or (collected_rows card cell rows) j 0 ≡ get_or rows j 0
    unfolding collected_rows
    collect_outside j n = put_outside (row_width card) cell (emptied row) rows new_long has_room j n

    pub collect_length : length (collected_rows card cell rows) ≡ length rows
    unfolding collected_rows
    collect_length = put_length (row_width card) cell (emptied row) rows new_long has_room

-- a slice of rows without sums is too short for rows with them, so a step there is refused with 2, and so is collecting
pub plain_short : (card : Card) (rows : List ℕ) → card_ok card ≡ true → length rows ≡ front_width * card.cells → rows_fit card rows ≡ false
unfolding rows_fit
plain_short card rows e l = ne_eqb (length rows) (row_width card * card.cells) (λ (f : length rows ≡ row_width card * card.cells). omega (arith, (card_in card e).cells_low))
