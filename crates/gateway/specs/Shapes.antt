-- The records as rows of numbers, as a host hands them over. Definitions only.
use Rattle.std.specs.Prelude.{ℕ, suc, Bool, true, not, ◌&&◌, ◌||◌, List, [], ◌∷◌, ◌++◌, eqb, ℤ, pos, nat_abs, take, drop, get_or}
use Rattle.std.specs.Int.{w64}
use Rattle.std.proofs.Common.{SFits}
use Rattle.form.specs.Signed.{is_neg}
use Rattle.cell.specs.declared.Amounts.{Amounts}
use Rattle.cell.specs.declared.Card.{Card}
use Rattle.cell.specs.declared.Collected.{Collected}
use Rattle.cell.specs.declared.Net.{Net}
use Rattle.cell.specs.declared.Water.{Water}
use Rattle.cell.specs.Water.{water, net}
use Rattle.site.specs.declared.Sheet.{Sheet}

-- a card: cells, delays, 30 delay depths, [5] share
abbrev pub card_width : ℕ
card_width = 33

unfoldable pub card_from : List ℕ → Card
card_from l = record { cells = get_or l 0 0; delays = get_or l 1 0; depths = take 30 (drop 2 l); share = get_or l 32 0 }

unfoldable pub card_numbers : Card → List ℕ
card_numbers c = c.cells ∷ c.delays ∷ (c.depths ++ (c.share ∷ []))

-- [6] what is collected of a cell: the sums of runoff and of drainage
abbrev pub both_sums : ℕ
both_sums = 2

abbrev pub collected_numbers : Collected → List ℕ
collected_numbers got = got.runoff.0 ∷ got.drain.0 ∷ []

-- the ten amounts: inflow, runoff, etvad, etstor, etsat, drain, release, stored, recharge, left
abbrev pub amounts_width : ℕ
amounts_width = 10

unfoldable pub amount_numbers : Amounts → List ℤ
amount_numbers a =
    pos a.inflow.0 ∷ pos a.runoff.0 ∷ pos a.etvad.0 ∷ pos a.etstor.0 ∷ pos a.etsat.0 ∷ pos a.drain.0 ∷ pos a.release.0
    ∷ pos a.stored.0 ∷ a.recharge.0 ∷ pos a.left.0 ∷ []

-- a number of a row as water, and as a net amount
abbrev pub water_at : List ℤ → ℕ → Water
water_at l i = water (nat_abs (get_or l i (pos 0)))

abbrev pub net_at : List ℤ → ℕ → Net
net_at l i = net (get_or l i (pos 0))

unfoldable pub amounts_from : List ℤ → Amounts
amounts_from l =
    record {
      inflow = water_at l 0;
      runoff = water_at l 1;
      etvad = water_at l 2;
      etstor = water_at l 3;
      etsat = water_at l 4;
      drain = water_at l 5;
      release = water_at l 6;
      stored = water_at l 7;
      recharge = net_at l 8;
      left = water_at l 9;
    }

-- a sheet: its steps and the nine sums, in the order of the amounts
abbrev pub sheet_width : ℕ
sheet_width = 10

unfoldable pub sheet_numbers : Sheet → List ℤ
sheet_numbers s =
    pos s.steps ∷ pos s.inflow.0 ∷ pos s.runoff.0 ∷ pos s.etvad.0 ∷ pos s.etstor.0 ∷ pos s.etsat.0 ∷ pos s.drain.0
    ∷ pos s.release.0 ∷ pos s.stored.0 ∷ s.recharge.0 ∷ []

unfoldable pub sheet_from : List ℤ → Sheet
sheet_from l =
    record {
      steps = nat_abs (get_or l 0 (pos 0));
      inflow = water_at l 1;
      runoff = water_at l 2;
      etvad = water_at l 3;
      etstor = water_at l 4;
      etsat = water_at l 5;
      drain = water_at l 6;
      release = water_at l 7;
      stored = water_at l 8;
      recharge = net_at l 9;
    }

-- each number of a lent row fits its 64 bits
abbrev pub AllFit : List ℤ → Type 0
AllFit l = (i : ℕ) → SFits w64 (get_or l i (pos 0))

-- no number is negative but recharge, which may be: its places among the amounts and on the sheet
abbrev pub amounts_recharge : ℕ
amounts_recharge = 8

abbrev pub sheet_recharge : ℕ
sheet_recharge = 9

-- no number of a row is negative, from place i on, but the one at place k
unfoldable pub signs_from : ℕ → ℕ → List ℤ → Bool
signs_from i k [] = true
signs_from i k (z ∷ zs) = (eqb i k || not (is_neg z)) && signs_from (suc i) k zs

-- each number of a row is 0
unfoldable pub zeros : List ℤ → Bool
zeros [] = true
zeros (z ∷ zs) = eqb (nat_abs z) 0 && zeros zs
