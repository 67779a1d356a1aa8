-- The starred cases of "Both sides of each edge", all of them: one table under one statement, computed over the definitions. Assumes nothing.
use Rattle.std.proofs.Common.{◌≡◌, refl, ap, ◌∙◌, eqb→eq, Bool, cond, List, [], ◌∷◌, T, eqb, ℤ, pos, negsuc, length, get_or, true, false, ℕ, zero, suc, ◌+◌, ◌-◌, ◌<◌, min, arith}
use Rattle.std.specs.Float.{binary32}
use Rattle.std.specs.Float.Ieee.{of_bits}
use Rattle.std.proofs.lemmas.List.{set-get_or}
use Rattle.head.specs.Level.{level_um}
use Rattle.cell.specs.declared.Card.{Card}
use Rattle.cell.specs.declared.Depth.{Depth}
use Rattle.cell.specs.declared.Depth.TheVariants.{Over, Under}
use Rattle.cell.specs.declared.Reading.{Reading}
use Rattle.cell.specs.declared.ranges.Soil.{Soil}
use Rattle.cell.specs.Queue.{slot, shifted, spared, joined}
use Rattle.cell.specs.Rules.{dry_ground, wet_ground, line_of, curve_of, storm_of, shallow_of, runoff_of, lack_of, stored_of}
use Rattle.cell.specs.Step.{given, release, delay, runoff, etvad, lack, sunk, stored, queue_after}
use Rattle.cell.specs.Table.{at, eq_z, eq_z→eq, eq_nl, eq_nl→eq}

-- a dry day, on which plants ask for etmin: no rain and no irrigation
abbrev dry_day : ℕ → Reading
dry_day etmin =
    record {
      cell = 0;
      life = 0;
      count = 0;
      rain = 0;
      irrig = 0;
      septic = 0;
      etmin = etmin;
      pet = etmin;
      amc = 2;
      head = of_bits binary32 0;
      nan = 0;
    }

-- what a case gives, and what must come
pub data Case : Type 0 where
  curve_number : (cn amc c : ℕ) → Case
  storm_runoff : (r c rain q : ℕ) → Case
  runs_off : (g q k vadpor : ℕ) (d : Depth) (r : ℕ) → Case
  height : (bits : ℕ) (um : ℤ) → Case
  dry_day_lem : (etmin : ℕ) (slots : List ℕ) (out : ℕ) (after : List ℕ) → Case

abbrev pub Says : Case → Type 0
Says (curve_number cn amc c) = curve_of cn amc ≡ c
Says (storm_runoff r c rain q) = storm_of r c rain ≡ q
Says (runs_off g q k v d r) = runoff_of g q k v d ≡ r
Says (height bits um) = level_um (of_bits binary32 bits) ≡ um
-- whatever the card, the soil and the depth d > 0
Says (dry_day_lem etmin slots out after) = (card : Card) (soil : Soil) (n : ℕ) → 0 < n
    → (release card soil (dry_day etmin) (Under n) slots ≡ out) × (queue_after card soil (dry_day etmin) (Under n) slots ≡ after)

test : Case → Bool
test (curve_number cn amc c) = eqb (curve_of cn amc) c
test (storm_runoff r c rain q) = eqb (storm_of r c rain) q
test (runs_off g q k v d r) = eqb (runoff_of g q k v d) r
test (height bits um) = eq_z (level_um (of_bits binary32 bits)) um
test (dry_day_lem etmin slots out after) = eq_nl (slot slots 1, spared etmin (shifted slots)) (out, after)

-- on a dry day nothing is stored, and the whole of etmin is drawn for
module _ (card : Card) (soil : Soil) (etmin n : ℕ) where
  nothing_stored : stored card soil (dry_day etmin) (Under n) ≡ 0
  unfolding stored_of given sunk stored
  nothing_stored = let e : 0 - runoff card soil (dry_day etmin) (Under n) - etvad card soil (dry_day etmin) (Under n) ≡ 0 = omega arith in rw e (same (eqb (delay card soil (dry_day etmin) (Under n)) 0))
    where
      same : (b : Bool) → ◌≡◌ {A = ℕ} (cond b 0 0) 0
      same true = refl
      same false = refl

  all_lacking : lack card soil (dry_day etmin) (Under n) ≡ etmin
  unfolding given etvad lack lack_of
  all_lacking = let e : min (0 - runoff card soil (dry_day etmin) (Under n)) (min etmin (etmin + 0)) ≡ 0 = omega arith in rw e (omega arith)

joined_none : (k : ℕ) (q : List ℕ) → joined k 0 q ≡ q
unfolding joined
joined_none zero q = refl
joined_none (suc i) q = let e : get_or q i 0 + 0 ≡ get_or q i 0 = omega arith in rw e (set-get_or q i 0)

dry_after : (card : Card) (soil : Soil) (etmin n : ℕ) (q : List ℕ) → queue_after card soil (dry_day etmin) (Under n) q ≡ spared etmin (shifted q)
unfolding queue_after
dry_after card soil etmin n q = rw (nothing_stored card soil etmin n, all_lacking card soil etmin n) (joined_none (delay card soil (dry_day etmin) (Under n)) (spared etmin (shifted q)))

says : (x : Case) → T (test x) → Says x
unfolding test release
says (curve_number cn amc c) t = eqb→eq (curve_of cn amc) c t
says (storm_runoff r c rain q) t = eqb→eq (storm_of r c rain) q t
says (runs_off g q k v d r) t = eqb→eq (runoff_of g q k v d) r t
says (height bits um) t = eq_z→eq (level_um (of_bits binary32 bits)) um t
says (dry_day_lem etmin slots out after) t =
    let p = eq_nl→eq (slot slots 1, spared etmin (shifted slots)) (out, after) t in
    λ card soil n h. (ap (λ (x : ℕ × List ℕ). x.0) p, dry_after card soil etmin n slots ∙ ap (λ (x : ℕ × List ℕ). x.1) p)

abbrev pub cases : List Case
cases =
    -- c = 80: rain 12,952 gives q 0; 12,953 gives 1; 50,800 gives 14,287. c = 100, rain 0: q 0
    storm_runoff 20 80 12952 0
    ∷ storm_runoff 20 80 12953 1
    ∷ storm_runoff 20 80 50800 14287
    ∷ storm_runoff 20 100 0 0
    -- [5] with a share of 5: rain 3,427 gives q 0; 3,428 gives 1; 50,800 gives 20,410
    ∷ storm_runoff 5 80 3427 0
    ∷ storm_runoff 5 80 3428 1
    ∷ storm_runoff 5 80 50800 20410
    -- [1] cn 80: 63, 80, 91 for amc 1, 2, 3. cn 1: 1, 1, 3. Wet ground at 75: 88
    ∷ curve_number 80 1 63
    ∷ curve_number 80 2 80
    ∷ curve_number 80 3 91
    ∷ curve_number 1 1 1
    ∷ curve_number 1 2 1
    ∷ curve_number 1 3 3
    ∷ curve_number 75 3 88
    -- G = 50,800, q = 14,287, vadpor 200, no delay: d 50,000 gives runoff 43,613; 253,999 gives 14,288; 254,000 gives 14,287; 0 gives 50,800
    ∷ runs_off 50800 14287 0 200 (Under 50000) 43613
    ∷ runs_off 50800 14287 0 200 (Under 253999) 14288
    ∷ runs_off 50800 14287 0 200 (Under 254000) 14287
    ∷ runs_off 50800 14287 0 200 (Over 0) 50800
    -- head 80000000 is 0 µm; 80000001 is -1; 461c4000 is 10,000,000,000
    ∷ height 0x80000000 (pos 0)
    ∷ height 0x80000001 (negsuc 0)
    ∷ height 0x461c4000 (pos 10000000000)
    -- M = 3, slots 100, 700, 5000, dry day, etmin 2000, d > 0: release 100, slots after 0, 3700, 0
    ∷ dry_day_lem 2000 (100 ∷ 700 ∷ 5000 ∷ []) 100 (0 ∷ 3700 ∷ 0 ∷ [])
    ∷ []

pub starred : (k : ℕ) → k < length cases → Says (get_or cases k (storm_runoff 0 0 0 0))
unfolding test dry_ground wet_ground line_of curve_of storm_of shallow_of runoff_of level_um of_bits slot shifted spared
starred k h = says (get_or cases k (storm_runoff 0 0 0 0)) (at test (storm_runoff 0 0 0 0) cases tt k h)
