-- The sheet: steps and nine sums, and what adding an answer gives. Definitions only.
use Rattle.std.specs.Prelude.{ℕ, ◌+◌, ◌*◌, Bool, false, cond, ◌&&◌, List, [], ◌∷◌, leb, ltb, pos, nat_abs, ◌+ℤ◌, Ok, Err}
use Rattle.cell.specs.Answers.{Answer}
use Rattle.cell.specs.declared.Amounts.{Amounts}
use Rattle.cell.specs.Refusals.{not_addable}
use Rattle.cell.specs.Water.{water, net}
use Rattle.site.specs.declared.Sheet.{Sheet}
use Rattle.site.specs.declared.Added.{Added}

-- a sheet with no step on it
abbrev pub no_steps : Sheet
no_steps =
    record {
      steps = 0;
      inflow = water 0;
      runoff = water 0;
      etvad = water 0;
      etstor = water 0;
      etsat = water 0;
      drain = water 0;
      release = water 0;
      stored = water 0;
      recharge = net (pos 0);
    }

-- an amount may be 30,000,000,000 in size, and a sheet may have 100,000,000 steps
abbrev pub amount_limit : ℕ
amount_limit = 30000000000

abbrev pub step_limit : ℕ
step_limit = 100000000

-- no amount is above the limit in size
unfoldable pub amounts_fit : Amounts → Bool
amounts_fit a =
    leb a.inflow.0 amount_limit
    && leb a.runoff.0 amount_limit
    && leb a.etvad.0 amount_limit
    && leb a.etstor.0 amount_limit
    && leb a.etsat.0 amount_limit
    && leb a.drain.0 amount_limit
    && leb a.release.0 amount_limit
    && leb a.stored.0 amount_limit
    && leb (nat_abs a.recharge.0) amount_limit
    && leb a.left.0 amount_limit

-- no sum is above the limit times n in size
unfoldable pub sums_within : ℕ → Sheet → Bool
sums_within n s =
    leb s.inflow.0 (amount_limit * n)
    && leb s.runoff.0 (amount_limit * n)
    && leb s.etvad.0 (amount_limit * n)
    && leb s.etstor.0 (amount_limit * n)
    && leb s.etsat.0 (amount_limit * n)
    && leb s.drain.0 (amount_limit * n)
    && leb s.release.0 (amount_limit * n)
    && leb s.stored.0 (amount_limit * n)
    && leb (nat_abs s.recharge.0) (amount_limit * n)

-- an answer that can be added. Amounts and sums that cannot be negative are so by their type
unfoldable pub addable : Sheet → Answer → Bool
addable s (Err why) = false
addable s (Ok a) = ltb s.steps step_limit && amounts_fit a && sums_within s.steps s

-- one step more, and each amount added to its sum
unfoldable pub plus_of : Sheet → Amounts → Sheet
plus_of s a =
    record {
      steps = s.steps + 1;
      inflow = water (s.inflow.0 + a.inflow.0);
      runoff = water (s.runoff.0 + a.runoff.0);
      etvad = water (s.etvad.0 + a.etvad.0);
      etstor = water (s.etstor.0 + a.etstor.0);
      etsat = water (s.etsat.0 + a.etsat.0);
      drain = water (s.drain.0 + a.drain.0);
      release = water (s.release.0 + a.release.0);
      stored = water (s.stored.0 + a.stored.0);
      recharge = net (s.recharge.0 +ℤ a.recharge.0);
    }

unfoldable pub sheet_by : Sheet → Answer → Sheet
sheet_by s (Ok a) = plus_of s a
sheet_by s (Err why) = s

-- the new sheet and 0, or the sheet as it came and 11
unfoldable pub added_of : Sheet → Answer → Added
added_of s answer = cond (addable s answer) (record { sheet = sheet_by s answer; number = 0 }) (record { sheet = s; number = not_addable })

-- a sheet after answers, added one after the other
abbrev pub after_all : Sheet → List Answer → Sheet
after_all s [] = s
after_all s (x ∷ xs) = after_all (added_of s x).sheet xs
