-- A run: calls of the site's step one after the other, what they gave, and the history of a plot by the answers. Definitions only.
use Rattle.std.specs.Prelude.{cond, List, [], ◌∷◌, ℕ, eqb, ℤ, Ok, Err}
use Rattle.cell.specs.Answers.{Answer}
use Rattle.cell.specs.declared.Amounts.{Amounts}
use Rattle.cell.specs.declared.Card.{Card}
use Rattle.cell.specs.declared.Entry.{Entry}
use Rattle.cell.specs.Ranges.{row_width, notice_of, cell_of}
use Rattle.cell.specs.Step.{step_delay, step_draws}
use Rattle.site.specs.Rows.{part_at}
use Rattle.site.specs.Site.{soil_width, SiteGives}
use Rattle.account.specs.Ledger.{Step, History}

-- one call of the site's step: the soil slice that it lends, and the entry, a reading or a void
pub record Call : Type 0 where
  pub soil : List ℤ
  pub entry : Entry

-- what calls gave one after the other: any answers and rows that meet the contract of `site::step`
pub data Ran (card : Card) : List ℕ → List Call → List Answer → List ℕ → Type 0 where
  done : {rows : List ℕ} → Ran card rows [] [] rows
  then : {rows next after : List ℕ} {c : Call} {cs : List Call} {answer : Answer} {answers : List Answer}
      → SiteGives card c.soil rows c.entry answer next → Ran card next cs answers after → Ran card rows (c ∷ cs) (answer ∷ answers) after

-- the row of a plot in the site's slice
abbrev pub row_of : Card → ℕ → List ℕ → List ℕ
row_of card p rows = part_at (row_width card) p rows

-- an accepted step with the amounts of its answer; soil and row are the plot's numbers as the call found them
abbrev pub step_of : Card → List ℤ → List ℕ → Entry → Amounts → Step
step_of card soil row e a = record { life = (notice_of e).life; count = (notice_of e).count; amounts = a; delay = step_delay card soil row e; draws = step_draws card soil row e }

-- the history of plot p after one more call, which found these rows: a step more if it names p and is accepted, else as it was
abbrev pub noted : Card → ℕ → List ℕ → Call → Answer → History → History
noted card p rows c (Err why) h = h
noted card p rows c (Ok a) h = cond (eqb (cell_of c.entry) p) (step_of card (part_at soil_width p c.soil) (row_of card p rows) c.entry a ∷ h) h

-- the history of plot p after a run, h before it: made of the run's own answers, call after call
abbrev pub history_of : {card : Card} {rows after : List ℕ} {cs : List Call} {answers : List Answer} → ℕ → History → Ran card rows cs answers after → History
history_of p h done = h
history_of {card} p h (then {rows = rows} {c = c} {answer = answer} g ran) = history_of p (noted card p rows c answer h) ran
