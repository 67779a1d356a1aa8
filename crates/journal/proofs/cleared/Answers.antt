use Rattle.std.specs.Prelude.{Result, Ok, Err, List, ℕ, ℤ, length, ◌≡◌}
use Rattle.std.proofs.Common.{zero-add, sym, ap, ◌∙◌, arith}
use Rattle.cell.specs.declared.Card.{Card}
use Rattle.cell.specs.declared.Refusal.{Refusal}
use Rattle.cell.specs.Refusals.{refusal_number, number_of}
use Rattle.cell.proofs.CheckLaws.{refusal_in}
use Rattle.site.specs.Site.{clear_number}
use Rattle.journal.specs.Book.{code_text, cleared_text}
use Rattle.journal.proofs.BookLaws.{cleared_code, cleared_more}
use Rattle.journal.proofs.cleared.Goals as goal

-- the number of what clearing answered is 0, or that of its refusal
module _ (card : Card) (rows : List ℕ) {answer : Result (Unit {0}) Refusal} (n : number_of answer ≡ clear_number card rows) where
  all_clear : {t : Unit {0}} → answer ≡ Ok t → clear_number card rows ≡ 0
  all_clear e = sym n ∙ ap number_of e

  code_is : (soil : List ℤ) (rest : List ℕ) {why : Refusal} → answer ≡ Err why → cleared_text card soil rows rest ≡ code_text (refusal_number why)
  code_is soil rest {why} e =
      let k : clear_number card rows ≡ refusal_number why = sym n ∙ ap number_of e in
      cleared_code card soil rows rest (λ z. omega (arith, k, z, (refusal_in why).0)) ∙ ap code_text k

pub put_code-requires : goal.put_code-requires
put_code-requires c =
    omega (arith, ap length (code_is c.args.card c.args.rows.now c.clear.ensures.number_is c.args.soil.now c.args.rest.now c.in-Err.is), c.requires.1)

pub returns-in-Err : goal.returns-in-Err
returns-in-Err c =
    rw (code_is c.args.card c.args.rows.now c.clear.ensures.number_is c.args.soil.now c.args.rest.now c.in-Err.is) (c.put_code.ensures.0 ∙ zero-add _, c.put_code.ensures.1)

pub put_entries-requires : goal.put_entries-requires
put_entries-requires c =
    (omega (arith, c.requires.0), rw c.clear.ensures.rows_are (omega (arith, ap length (cleared_more c.args.card c.args.soil.now c.args.rows.now c.args.rest.now (all_clear c.args.card c.args.rows.now c.clear.ensures.number_is c.in-Ok.is)), c.requires.1)))

pub returns-in-Ok : goal.returns-in-Ok
returns-in-Ok c =
    rw (cleared_more c.args.card c.args.soil.now c.args.rows.now c.args.rest.now (all_clear c.args.card c.args.rows.now c.clear.ensures.number_is c.in-Ok.is)) (rw c.clear.ensures.rows_are at c.put_entries.ensures)
