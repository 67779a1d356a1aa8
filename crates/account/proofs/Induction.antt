-- Demand 3 holds at the start and is kept by each accepted step; and what each accepted step of a plot's row keeps, a run of the site keeps. Assumes nothing.
use Rattle.std.specs.Prelude.{Ok, Err}
use mathlib.Core.Path.{◌≡◌, refl, sym, subst, ◌∙◌}
use mathlib.Core.Bool.{Bool, true, false, cond}
use mathlib.Core.List.{List, [], ◌∷◌}
use Prim.Native.Nat.{ℕ, suc, ◌+◌, ◌-◌}
use native.Mathlib.Omega.{arith}
use borrow.Author.Tests.{eqb-true, eqb-false}
use lib.Dec.{eqb}
use lib.IntN.{ℤ}
use lib.ListN.{length, replicate}
use Rattle.cell.specs.Answers.{Answer}
use Rattle.cell.specs.declared.Amounts.{Amounts}
use Rattle.cell.specs.declared.Card.{Card}
use Rattle.cell.specs.declared.Entry.{Entry}
use Rattle.cell.specs.Ranges.{cell_of}
use Rattle.cell.specs.QueueLaws.{slot_cleared, total_cleared}
use Rattle.cell.specs.Step.{answer_of, new_row}
use Rattle.cell.proofs.AnswerLaws.{Moves}
use Rattle.site.specs.Rows.{part_at}
use Rattle.site.specs.Site.{soil_width, site_answer, site_rows}
use Rattle.site.proofs.SiteLaws.{row_answer, own_row, other_row, rows_stay}
use Rattle.account.specs.Ledger.{Step, History, Kept, net_recharge}
use Rattle.account.specs.Run.{Call, Ran, done, then, row_of, step_of, noted, history_of}
use Rattle.account.proofs.Sums.{up_stands}
use Rattle.account.proofs.Signed.{carries}
use Rattle.account.proofs.Groups.{group}
use Rattle.account.proofs.Corollaries.{queue}

pub start : (m : ℕ) → Kept [] (replicate m 0)
start m = record { groups = λ t. omega (arith, slot_cleared m (t - 0)); drawn = tt; waits = λ t k. up_stands 0 (replicate m 0) t k ∙ total_cleared m; balance = refl }

pub step : {h : History} {q q' : List ℕ} (s : Step) → Moves q s.amounts s.delay s.draws q' → Kept h q → Kept (s ∷ h) q'
step {h} {q} {q'} s m v =
    record {
      groups = λ t. omega (arith, v.groups t, group s m (length h) t);
      drawn = (v.drawn, λ t k. up_stands (suc (length h)) s.draws t k ∙ sym m.drawn);
      waits = λ t k. up_stands (suc (length h)) q' t k ∙ sym m.rest;
      balance =
          rw m.net_is (carries _ _ s.amounts.inflow.0 _ (s.amounts.release.0 + m.fresh) (s.amounts.etsat.0 + s.amounts.drain.0) (net_recharge h) v.balance (omega (arith, queue v, m.rest, m.parts, m.totals)));
    }

-- what holds of plot p's history and row, and is kept by each step that the row takes, is kept by a run
module _ (card : Card) (p : ℕ) (I : History → List ℕ → Type 0)
    (keep : (h : History) (soil : List ℤ) (row : List ℕ) (i : Entry) (a : Amounts) → answer_of card soil row i ≡ Ok a → I h row → I (step_of card soil row i a ∷ h) (new_row card soil row i)) where
  pub one : (h : History) (rows : List ℕ) (c : Call) (answer : Answer) → site_answer card c.soil rows c.entry ≡ answer → I h (row_of card p rows)
      → I (noted card p rows c answer h) (row_of card p (site_rows card c.soil rows c.entry))
  one h rows c (Err why) e v = rw (rows_stay card c.soil rows c.entry why e) v
  one h rows c (Ok a) e v = named (eqb (cell_of c.entry) p) refl
    where
      after : List ℕ
      after = site_rows card c.soil rows c.entry

      stepped : ℕ → History
      stepped k = step_of card (part_at soil_width k c.soil) (row_of card k rows) c.entry a ∷ h

      named : (b : Bool) → eqb (cell_of c.entry) p ≡ b → I (cond b (stepped p) h) (row_of card p after)
      named true i =
          subst (λ (k : ℕ). I h (row_of card k rows) → I (stepped k) (row_of card k after)) (eqb-true (cell_of c.entry) p i)
          (λ w. rw (own_row card c.soil rows c.entry a e) (keep h (part_at soil_width (cell_of c.entry) c.soil) (row_of card (cell_of c.entry) rows) c.entry a (row_answer card c.soil rows c.entry a e) w))
          v
      named false i = rw (other_row card c.soil rows c.entry a e p (eqb-false (cell_of c.entry) p i)) v

  pub along : {rows after : List ℕ} {cs : List Call} {answers : List Answer} (h : History) (ran : Ran card rows cs answers after) → I h (row_of card p rows) → I (history_of p h ran) (row_of card p after)
  along h done v = v
  along h (then {rows = rows} {c = c} {answer = answer} g ran) v = along (noted card p rows c answer h) ran (rw g.rows_are (one h rows c answer (sym g.answer_is) v))
