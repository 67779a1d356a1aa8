-- [5] Step 3 as document 01 first had it, with the one share of 20 percent: a card with that share keeps every storm runoff, for every curve number and rain. Assumes nothing.
use Rattle.std.specs.Prelude.{◌≡◌, refl, cond, ℕ, ◌+◌, ◌-◌, ◌*◌, ◌/◌, leb}
use Rattle.cell.specs.declared.Card.{Card}
use Rattle.cell.specs.declared.Depth.{Depth}
use Rattle.cell.specs.declared.Reading.{Reading}
use Rattle.cell.specs.declared.ranges.Soil.{Soil}
use Rattle.cell.specs.Rules.{storm_of}
use Rattle.cell.specs.Step.{curve, storm}

-- X = c x rain - 50,800 (100 - c), Y = c x rain + 203,200 (100 - c); 0 if X <= 0, else X x X / (c x Y)
abbrev pub storm_before : ℕ → ℕ → ℕ
storm_before c rain =
    let x : ℕ = c * rain - 50800 * (100 - c) in
    let y : ℕ = c * rain + 203200 * (100 - c) in
    cond (leb (c * rain) (50800 * (100 - c))) 0 (x * x / (c * y))

pub same_storm : (c rain : ℕ) → storm_of 20 c rain ≡ storm_before c rain
unfolding storm_of
same_storm c rain = refl

-- so is the storm runoff of a step, and no other rule looks at the share
pub same_step : (card : Card) (soil : Soil) (r : Reading) (d : Depth) → card.share ≡ 20 → storm card soil r d ≡ storm_before (curve card soil r d) r.rain
unfolding storm curve
same_step card soil r d e = rw e (same_storm (curve card soil r d) r.rain)
