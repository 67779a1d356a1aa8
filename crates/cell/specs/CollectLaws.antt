-- [6] Collecting, by its checks. Assumes nothing.
use Rattle.std.specs.Prelude.{◌≡◌, Bool, true, false, cond, List, ℕ, Result, Ok, Err}
use Rattle.std.proofs.Common.{refl}
use Rattle.cell.specs.declared.Card.{Card}
use Rattle.cell.specs.declared.Collected.{Collected}
use Rattle.cell.specs.declared.Refusal.{Refusal}
use Rattle.cell.specs.declared.Refusal.TheVariants.{BadCard, BadRow}
use Rattle.cell.specs.declared.Water.{Water}
use Rattle.cell.specs.Ranges.{card_ok, row_ok}
use Rattle.cell.specs.Sums.{runoff_at, drain_at, sum_of, emptied}
use Rattle.cell.specs.Collect.{collect_number, collect_answer, sums_in, sums_of, collected_by, list_by, CollectGives}
use Rattle.cell.specs.Refusals.{number_of, unless}

module _ (card : Card) (row : List ℕ) where
  -- under a card in range only 5 is left
  pub collect_number_lem : card_ok card ≡ true → collect_number card row ≡ cond (row_ok card row) 0 5
  unfolding collect_number
  collect_number_lem p = rw p

  pub collect_card : card_ok card ≡ false → CollectGives card row (Err BadCard) row
  unfolding collect_number collect_answer unless
  collect_card p = record { answer_is = rw p; number_is = rw p; got_is = rw p; row_is = rw p }

  pub collect_row : card_ok card ≡ true → row_ok card row ≡ false → CollectGives card row (Err BadRow) row
  unfolding collect_number collect_answer unless
  collect_row p q = record { answer_is = rw (p, q); number_is = rw (p, q); got_is = rw (p, q); row_is = rw (p, q) }

  pub collect_done : card_ok card ≡ true → row_ok card row ≡ true → {runoff drain : Water} {after : List ℕ}
      → runoff.0 ≡ sum_of runoff_at row → drain.0 ≡ sum_of drain_at row → after ≡ emptied row → CollectGives card row (Ok (record { runoff = runoff; drain = drain })) after
  unfolding collect_number collect_answer unless
  collect_done p q e f g = record { answer_is = rw (p, q, ← e, ← f); number_is = rw (p, q); got_is = rw (p, q, ← e, ← f); row_is = rw (p, q) g }

  -- the answer by its two checks has the number and the sums that the checks ask
  by_checks : (a b : Bool) → let answer : Result Collected Refusal = unless a BadCard (unless b BadRow (Ok (sums_in row))) in
      (number_of answer ≡ cond a (cond b 0 5) 1) × (sums_of answer ≡ collected_by (cond a (cond b 0 5) 1) row)
  unfolding unless
  by_checks false b = (refl, refl)
  by_checks true false = (refl, refl)
  by_checks true true = (refl, refl)

  pub collect_gives : CollectGives card row (collect_answer card row) (list_by (collect_number card row) (emptied row) row)
  unfolding collect_number collect_answer
  collect_gives = let g = by_checks (card_ok card) (row_ok card row) in record { answer_is = refl; number_is = g.0; got_is = g.1; row_is = refl }
