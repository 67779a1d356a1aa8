-- Bounds that linear arithmetic does not give: of a share, of a choice, of a signed difference. Assumes nothing.
use Rattle.std.specs.Prelude.{◌≡◌, refl, Bool, true, false, cond, ℕ, zero, suc, ◌+◌, ◌-◌, ◌*◌, ◌/◌, ◌≤◌, ltb, ℤ, pos, negsuc, nat_abs, ◌+ℤ◌, ◌-ℤ◌}
use Rattle.std.proofs.Common.{mul-le-mul_right, arith, ltb-true}
use Rattle.std.proofs.Math.Nat.{div-le_of_le-mul}
use Rattle.std.proofs.Math.IntN.{sub_ℕ}

-- a b / c ≤ b where a ≤ c
pub share : (a b c : ℕ) → a ≤ c → a * b / c ≤ b
share a b c h = div-le_of_le-mul c (mul-le-mul_right b h)

-- what holds of both values holds of the choice, each with what the test says
pub either : {A : Type 0} (P : A → Type 0) (t : Bool) {a b : A} → (t ≡ true → P a) → (t ≡ false → P b) → P (cond t a b)
either P true f g = f refl
either P false f g = g refl

-- the size of a difference of two amounts is at most the larger
sub_abs : (a b n : ℕ) → a ≤ n → b ≤ n → nat_abs (sub_ℕ a b) ≤ n
sub_abs a b n ha hb = pick (ltb a b) refl
  where
    pick : (t : Bool) → ltb a b ≡ t → nat_abs (cond t (negsuc (b - suc a)) (pos (a - b))) ≤ n
    pick true e = omega (arith, ltb-true a b e)
    pick false e = omega arith

pub abs_minus : (a b n : ℕ) → a ≤ n → b ≤ n → nat_abs (pos a -ℤ pos b) ≤ n
abs_minus a zero n h k = omega arith
abs_minus a (suc b) n h k = sub_abs a (suc b) n h k

-- the size of a difference is at most the sum of the sizes
pub abs_sub : (x y : ℤ) (n m : ℕ) → nat_abs x ≤ n → nat_abs y ≤ m → nat_abs (x -ℤ y) ≤ n + m
abs_sub (pos a) (pos zero) n m h k = omega arith
abs_sub (pos a) (pos (suc b)) n m h k = sub_abs a (suc b) (n + m) (omega arith) (omega arith)
abs_sub (pos a) (negsuc b) n m h k = omega arith
abs_sub (negsuc a) (pos zero) n m h k = sub_abs zero (suc a) (n + m) (omega arith) (omega arith)
abs_sub (negsuc a) (pos (suc b)) n m h k = omega arith
abs_sub (negsuc a) (negsuc b) n m h k = sub_abs (suc b) (suc a) (n + m) (omega arith) (omega arith)

-- and so is that of a sum
pub abs_add : (x y : ℤ) (n m : ℕ) → nat_abs x ≤ n → nat_abs y ≤ m → nat_abs (x +ℤ y) ≤ n + m
abs_add (pos a) (pos b) n m h k = omega arith
abs_add (pos a) (negsuc b) n m h k = sub_abs a (suc b) (n + m) (omega arith) (omega arith)
abs_add (negsuc a) (pos b) n m h k = sub_abs b (suc a) (n + m) (omega arith) (omega arith)
abs_add (negsuc a) (negsuc b) n m h k = omega arith
