-- [4] THE LINK, at the site as built: a fresh outbox, a cleared row, and any calls of `site::step`. Assumes nothing.
use Rattle.std.specs.Prelude.{Ok, Err}
use mathlib.Core.Path.{◌≡◌, refl, sym, ap, subst, ◌∙◌}
use mathlib.Core.Bool.{true, false, ◌&&◌, and-eq-true_iff}
use mathlib.Core.Logic.{◌⊎◌, inl, inr}
use mathlib.Core.List.{List, [], ◌∷◌}
use Prim.Native.Nat.{ℕ, ◌+◌, ◌<◌}
use native.Mathlib.Decide.{ℕ_discrete}
use borrow.Author.Tests.{eqb-true, eq-eqb}
use lib.Dec.{eqb}
use lib.IntN.{ℤ}
use lib.ListN.{replicate}
use Rattle.cell.specs.Answers.{Answer}
use Rattle.cell.specs.declared.Amounts.{Amounts}
use Rattle.cell.specs.declared.Card.{Card}
use Rattle.cell.specs.declared.Entry.{Entry}
use Rattle.cell.specs.declared.Notice.{Notice}
use Rattle.cell.proofs.AnswerLaws.{was_in_order, life_after, next_after}
use Rattle.cell.proofs.CheckLaws.{InOrder}
use Rattle.cell.specs.RangeLaws.{cleared_life, cleared_next, notice_ok_lem}
use Rattle.cell.specs.Ranges.{card_ok, soil_ok, row_width, row_ok, life_of, next_of, notice_of, cell_of}
use Rattle.cell.specs.Step.{new_row}
use Rattle.site.specs.Rows.{part_at}
use Rattle.site.specs.Site.{soil_width, soil_fits, rows_fit, cell_fits, site_answer, site_rows, SiteGives, ClearGives}
use Rattle.site.proofs.SiteLaws.{row_answer, own_row, other_row, rows_stay, cleared_part}
use Rattle.account.specs.Run.{Call, row_of}
use Rattle.account.proofs.Demand3.{void_passes}
use Rattle.outbox.specs.Outbox.{Oldest}
use Rattle.outbox.specs.declared.Outbox.{Outbox}
use Rattle.outbox.specs.Outbox.{void_of, held_of, offer_of, replaced_of, fresh_of, is_next, swapped_of}
use Rattle.outbox.proofs.CallLaws.{Reaches}
use Rattle.outbox.specs.Counts.{Among}
use Rattle.outbox.proofs.Kept.{InForm, oldest_is, oldest_in, void_offered}
use Rattle.link.specs.Lists.{life_in, count_in, At, of_life, FirstPart}
use Rattle.link.specs.Run.{Orderly, Moment, Ack, Run, Told, Fate, starts, first, making, learning}
use Rattle.link.specs.Site.{accepts, Given, site_gateway}
use Rattle.link.proofs.Theorem as link

-- ---- the site's step takes a plot's entries in order
module _ (card : Card) (p : ℕ) (rows after : List ℕ) (c : Call) where
  abbrev e : Entry
  e = c.entry

  by_contract : {answer : Answer} → SiteGives card c.soil rows e answer after → (site_answer card c.soil rows e ≡ answer) × (site_rows card c.soil rows e ≡ after)
  by_contract g = (sym g.answer_is, sym g.rows_are)

  -- accepted for this plot: an accepted answer, and the plot is the one that the entry names
  pub record Accepts : Type 0 where
    pub own : cell_of e ≡ p
    pub amounts : Amounts
    pub answer : site_answer card c.soil rows e ≡ Ok amounts
    pub rows_after : site_rows card c.soil rows e ≡ after

  accepts_it : Given card p rows c true after → Accepts
  accepts_it g = go g.answer refl
    where
      both : (eqb (cell_of e) p ≡ true) × (accepts g.answer ≡ true)
      both = (and-eq-true_iff (eqb (cell_of e) p) (accepts g.answer)).0 (sym g.taken_is)

      go : (b : Answer) → g.answer ≡ b → Accepts
      go (Ok a) q = record { own = eqb-true (cell_of e) p both.0; amounts = a; answer = (by_contract g.gives).0 ∙ q; rows_after = (by_contract g.gives).1 }
      go (Err why) q = let z : false ≡ true = ap accepts (sym q) ∙ both.1 in cc

  module _ (a : Accepts) where
    abbrev soil : List ℤ
    soil = part_at soil_width (cell_of e) c.soil

    row_is : row_of card p after ≡ new_row card soil (row_of card (cell_of e) rows) e
    row_is = ap (λ (k : ℕ). row_of card k after) (sym a.own) ∙ ap (row_of card (cell_of e)) (sym a.rows_after) ∙ own_row card c.soil rows e a.amounts a.answer

    in_order : InOrder (life_of (row_of card p rows)) (next_of (row_of card p rows)) (notice_of e)
    in_order =
        subst (λ (k : ℕ). InOrder (life_of (row_of card k rows)) (next_of (row_of card k rows)) (notice_of e)) a.own
        (was_in_order card soil (row_of card (cell_of e) rows) e a.amounts (row_answer card c.soil rows e a.amounts a.answer))

    moved_on : (life_of (row_of card p after) ≡ life_in e) × (next_of (row_of card p after) ≡ count_in e + 1)
    moved_on =
        let g = row_answer card c.soil rows e a.amounts a.answer in (
          ap life_of row_is ∙ life_after card soil (row_of card (cell_of e) rows) e a.amounts g,
          ap next_of row_is ∙ next_after card soil (row_of card (cell_of e) rows) e a.amounts g,
        )

  -- any other call leaves the plot's row
  stays : Given card p rows c false after → row_of card p after ≡ row_of card p rows
  stays g = go g.answer (by_contract g.gives).0 (sym g.taken_is) (ℕ_discrete (cell_of e) p)
    where
      go : (b : Answer) → site_answer card c.soil rows e ≡ b → (eqb (cell_of e) p && accepts b) ≡ false → Dec (cell_of e ≡ p) → row_of card p after ≡ row_of card p rows
      go (Err why) q t d = ap (row_of card p) (sym (by_contract g.gives).1 ∙ rows_stay card c.soil rows e why q)
      go (Ok a) q t (no n) = ap (row_of card p) (sym (by_contract g.gives).1) ∙ other_row card c.soil rows e a q p n
      go (Ok a) q t (yes k) = let z : true ≡ false = sym (rw (eq-eqb (cell_of e) p k)) ∙ t in cc

pub orderly : (card : Card) (p : ℕ) → Orderly p (site_gateway card p)
orderly card p =
    record {
      own = λ rows after c g. (accepts_it card p rows after c g).own;
      order = λ rows after c g. in_order card p rows after c (accepts_it card p rows after c g);
      after = λ rows after c g. moved_on card p rows after c (accepts_it card p rows after c g);
      quiet = λ rows after c g. let k = stays card p rows after c g in (ap life_of k, ap next_of k);
    }

-- ---- a run starts from a fresh outbox and a row that was cleared
pub from_cleared : (card : Card) (p : ℕ) {rows cleared : List ℕ} → (fresh_of p).number ≡ 0 → ClearGives card rows (Ok tt) cleared → p < card.cells → Run p (site_gateway card p) (first p (site_gateway card p) cleared)
from_cleared card p {rows} {cleared} f g h =
    let e : row_of card p cleared ≡ replicate (row_width card) 0 = ap (row_of card p) g.rows_are ∙ cleared_part card rows (sym g.number_is) p h in
    starts cleared f (ap life_of e ∙ cleared_life (row_width card)) (ap next_of e ∙ cleared_next (row_width card))

-- ---- 4. the way out: where the row expects the outbox's oldest, and card, lengths, cell, soil numbers and row are good, `replace` puts a void there that is offered next
-- and accepted
pub record Good (card : Card) (soil : List ℤ) (rows : List ℕ) (e : Entry) : Type 0 where
  pub card_ok_lem : card_ok card ≡ true
  pub lengths : (soil_fits card soil && rows_fit card rows) ≡ true
  pub cell : cell_fits card e ≡ true
  pub soil_ok_lem : soil_ok (part_at soil_width (cell_of e) soil) ≡ true
  pub row_ok_lem : row_ok card (row_of card (cell_of e) rows) ≡ true

pub record VoidTaken (card : Card) (soil : List ℤ) (rows : List ℕ) (b : Outbox) (e : Entry) : Type 0 where
  pub offered : offer_of (replaced_of b).outbox ≡ Oldest (void_of e)
  pub amounts : Amounts
  pub after : List ℕ
  pub taken : SiteGives card soil rows (void_of e) (Ok amounts) after

pub way_out : (card : Card) (soil : List ℤ) (rows : List ℕ) (b : Outbox) → InForm b → (p : Entry) (ps : List Entry) → held_of b ≡ p ∷ ps
    → Good card soil rows (void_of p) → InOrder (life_of (row_of card (cell_of p) rows)) (next_of (row_of card (cell_of p) rows)) (notice_of p)
    → VoidTaken card soil rows b p
way_out card soil rows b v p ps holds g o =
    let n = notice_of p in
    let k = oldest_in b v p ps holds in
    record {
      offered = void_offered b v p ps holds;
      amounts = _;
      after = _;
      taken = void_passes card soil rows n g.card_ok_lem g.lengths g.cell g.soil_ok_lem g.row_ok_lem (notice_ok_lem n k.0 k.1) o;
    }

-- ---- so, at any moment of a run over the site
module _ (card : Card) (p : ℕ) {s : Moment (site_gateway card p)} (run : Run p (site_gateway card p) s) where
  -- 1. the accepted entries of each life are, place by place, a first part of what the node made in it; a replaced reading and its void hold one place
  pub accepted_in_order : (life : ℕ) → FirstPart s.voids (of_life life s.accepted) (of_life life s.made)
  accepted_in_order = link.accepted_in_order p (site_gateway card p) (orderly card p) run

  -- 2 and 3. each entry that an acknowledgement removes had been accepted when it was sent, its reading or its void; none that it leaves had
  pub only_heard_removed : (a : Ack) → Among a s.acks → Told s.made s.voids a.heard (held_of s.box) (held_of (learning p (site_gateway card p) s a).box)
  only_heard_removed = link.only_heard_removed p (site_gateway card p) (orderly card p) run

  -- 3. nothing unheard is dropped but by a swap
  pub nothing_lost : (l i : ℕ) (m : Entry) → At (of_life l s.made) i m → Fate s l i m
  nothing_lost = link.nothing_lost p (site_gateway card p) (orderly card p) run

  pub made_or_turned : (e : Entry) → is_next s.box e ≡ true → Among e (making p (site_gateway card p) s e).made ⊎ Among e (making p (site_gateway card p) s e).turned
  made_or_turned = link.made_or_turned p (site_gateway card p) (orderly card p) run

  pub each_life_once : (l : ℕ) → (swapped_of s.box l).number ≡ 0 → of_life l s.made ≡ []
  each_life_once = link.each_life_once p (site_gateway card p) (orderly card p) run

  pub in_form : InForm s.box
  in_form = link.in_form p (site_gateway card p) (orderly card p) run

  -- 4. the link never jams: the row's life and next count, sent now, remove the oldest, or the void that `replace` puts in its place is offered next and accepted
  pub never_stuck : (soil : List ℤ) (q : Entry) (qs : List Entry) → held_of s.box ≡ q ∷ qs → Good card soil s.row (void_of q)
      → Reaches s.box (life_of (row_of card p s.row)) (next_of (row_of card p s.row)) ⊎ VoidTaken card soil s.row s.box q
  never_stuck soil q qs holds g = go (link.never_stuck p (site_gateway card p) (orderly card p) run q qs holds)
    where
      its_cell : p ≡ cell_of q
      its_cell = sym (link.own_cell p (site_gateway card p) (orderly card p) run) ∙ sym (ap (λ (n : Notice). n.cell) (oldest_is s.box in_form q qs holds))

      go : InOrder (life_of (row_of card p s.row)) (next_of (row_of card p s.row)) (notice_of q) ⊎ Reaches s.box (life_of (row_of card p s.row)) (next_of (row_of card p s.row))
          → Reaches s.box (life_of (row_of card p s.row)) (next_of (row_of card p s.row)) ⊎ VoidTaken card soil s.row s.box q
      go (inr r) = inl r
      go (inl o) = inr (way_out card soil s.row s.box in_form q qs holds g (subst (λ (k : ℕ). InOrder (life_of (row_of card k s.row)) (next_of (row_of card k s.row)) (notice_of q)) its_cell o))
