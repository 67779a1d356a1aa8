-- The machine's difference of two heights, and its two sides: what the code of `depth_at` asks, over the integers. Assumes nothing.
use Rattle.std.proofs.Common.{◌≡◌, refl, true, false, ℕ, zero, suc, ◌≤◌, arith, leb-true, leb-false, ℤ, pos, negsuc, nat_abs, ◌-ℤ◌}
use Rattle.std.specs.Int.Signed.{le_z}
use Rattle.cell.specs.declared.Depth.TheVariants.{Over, Under}
use Rattle.cell.specs.Bounds.{abs_sub}
use Rattle.cell.specs.Depth.{sided, depth_of}
use Rattle.cell.proofs.Fits.{bits, back}

-- ---- over one integer d
no_true : true ≡ false → ⊥
no_true q = let z : ◌≡◌ {A = ℕ} 0 1 = cc q in omega arith

side_neg : (d : ℤ) → le_z d (pos 0) ≡ true → Over (nat_abs d) ≡ sided d
unfolding sided
side_neg (pos zero) e = refl
side_neg (pos (suc a)) e = absurd (omega (arith, leb-true (suc a) 0 e))
side_neg (negsuc a) e = refl

side_pos : (d : ℤ) → le_z d (pos 0) ≡ false → Under (nat_abs d) ≡ sided d
unfolding sided
side_pos (pos zero) e = absurd (omega (arith, leb-false 0 0 e))
side_pos (pos (suc a)) e = refl
side_pos (negsuc a) e = absurd (no_true e)

-- ---- over the machine's values: its difference of two heights is the difference, and has its sides
module _ (x y : ℤ) (hx : nat_abs x ≤ 10000000000) (hy : nat_abs y ≤ 10000000000) where
  least : nat_abs (x -ℤ y) ≤ 20000000000
  least = abs_sub x y 10000000000 10000000000 hx hy

  diff_is : bits (bits x -ℤ bits y) ≡ x -ℤ y
  diff_is = rw (back x 10000000000 hx (omega arith), back y 10000000000 hy (omega arith)) (back (x -ℤ y) 20000000000 least (omega arith))

  pub over_is : {n : ℕ} → n ≡ nat_abs (bits (bits x -ℤ bits y)) → le_z (bits (bits x -ℤ bits y)) (pos 0) ≡ true → Over n ≡ depth_of x y
  unfolding depth_of
  over_is e t = rw (e, diff_is) (side_neg (x -ℤ y) (rw diff_is at t))

  pub under_is : {n : ℕ} → n ≡ nat_abs (bits (bits x -ℤ bits y)) → le_z (bits (bits x -ℤ bits y)) (pos 0) ≡ false → Under n ≡ depth_of x y
  unfolding depth_of
  under_is e t = rw (e, diff_is) (side_pos (x -ℤ y) (rw diff_is at t))
