-- Laws of the number rules and of the depth, so that no caller looks into a rule's text. Assumes nothing.
use Rattle.std.specs.Prelude.{◌≡◌, refl, Bool, true, false, cond, List, ℕ, zero, suc, ◌+◌, ◌-◌, ◌*◌, ◌/◌, ◌%◌, ◌≤◌, ◌<◌, max, T, leb, ltb, eqb, get_or, ℤ, pos, negsuc, nat_abs, ◌-ℤ◌}
use Rattle.std.proofs.Common.{sym, ap, ◌∙◌, ⊎_elim, mul-le-mul, mul-le-mul_left, mul-le-mul_right, le_of_mul-le-mul_right, mul-pos, div-mul-le_self, le-div_iff_mul-le, le_trans, le_of_eq, eq-or-lt_of_le, arith, ltb-true, leb-true, leb-false, eq-eqb, leb→le}
use Rattle.std.proofs.Math.Nat.{div-le_of_le-mul}
use Rattle.std.proofs.lemmas.Bool.{lt-leb}
use Rattle.cell.specs.declared.Depth.{Depth}
use Rattle.cell.specs.declared.Depth.TheVariants.{Over, Under}
use Rattle.cell.specs.Table.{both, left, right, every_below, below}
use Rattle.cell.specs.Bounds.{share, either, abs_sub, abs_minus}
use Rattle.cell.specs.Depth.{sided, depth_of, distance}
use Rattle.cell.specs.Rules.{nearest, dry_ground, wet_ground, line_of, curve_of, storm_of, reach_of, delay_of, shallow_of, runoff_of, lack_of, fading_of, etsat_of, drain_of, stored_of, direct_of, recharge_of}

-- ---- the depth of two heights within their ranges
sided_abs : (d : ℤ) → distance (sided d) ≡ nat_abs d
unfolding sided distance
sided_abs (pos zero) = refl
sided_abs (pos (suc n)) = refl
sided_abs (negsuc n) = refl

pub depth_le : (top level : ℤ) → nat_abs top ≤ 10000000000 → nat_abs level ≤ 10000000000 → distance (depth_of top level) ≤ 20000000000
unfolding depth_of
depth_le top level h k = rw sided_abs (abs_sub top level 10000000000 10000000000 h k)

-- ---- 2. at a listed normal number the line gives the listed one
pub line_listed : (listed : List ℕ) (cn : ℕ) → cn % 5 ≡ 0 → line_of listed cn ≡ get_or listed (cn / 5) 0
unfolding line_of
line_listed listed cn e = rw e (omega arith)

-- the line as the code walks it: from the listed number below cn, or where cn is listed from the one before
pub line_below : (listed : List ℕ) (cn k j : ℕ) → 1 ≤ cn → k ≡ (cn - 1) / 5 → j ≡ cn - 5 * k
    → line_of listed cn ≡ nearest ((5 - j) * get_or listed k 0 + j * get_or listed (k + 1) 0) 5
unfolding line_of
line_below listed cn k j h e f =
    ⊎_elim
    (λ (z : 0 ≡ cn % 5).
    let o : cn % 5 ≡ 0 = sym z in
    let p : cn / 5 ≡ k + 1 = omega arith in
    let q : j ≡ 5 = omega arith in
    rw (o, p, q) (omega arith))
    (λ (z : 0 < cn % 5).
    let p : cn / 5 ≡ k = omega arith in
    let q : cn % 5 ≡ j = omega arith in
    rw (p, q))
    (eq-or-lt_of_le (omega arith))

-- computed over the whole table, at each cn up to 100: dry ground's line is not above cn, wet ground's neither below cn nor above 100
around : ℕ → Bool
around cn = both (leb (line_of dry_ground cn) cn) (both (leb cn (line_of wet_ground cn)) (leb (line_of wet_ground cn) 100))

around_each : T (every_below around 101)
unfolding around line_of dry_ground wet_ground
around_each = tt

lines_around : (cn : ℕ) → cn ≤ 100 → (line_of dry_ground cn ≤ cn) × (cn ≤ line_of wet_ground cn) × (line_of wet_ground cn ≤ 100)
unfolding around
lines_around cn h =
    let dry = leb (line_of dry_ground cn) cn in
    let wet = leb cn (line_of wet_ground cn) in
    let top = leb (line_of wet_ground cn) 100 in
    let t = below around 101 around_each cn (omega arith) in
    let u = right dry (both wet top) t in
    (leb→le _ _ (left dry (both wet top) t), leb→le _ _ (left wet top u), leb→le _ _ (right wet top u))

-- the curve number is in 1..100
pub curve_low : (cn amc : ℕ) → 1 ≤ curve_of cn amc
unfolding curve_of
curve_low cn amc = omega arith

pub curve_high : (cn amc : ℕ) → cn ≤ 100 → curve_of cn amc ≤ 100
unfolding curve_of
curve_high cn amc h =
    let l = lines_around cn h in
    either (λ n. max 1 n ≤ 100) (eqb amc 1) (λ e. omega arith)
    (λ e. either (λ n. max 1 n ≤ 100) (eqb amc 3) (λ e. omega arith) (λ e. omega arith))

-- over the whole table, from 1 up: dry ground is never above normal, and wet ground never below
pub dry_normal_wet : (cn : ℕ) → 1 ≤ cn → cn ≤ 100 → (curve_of cn 1 ≤ cn) × (curve_of cn 2 ≡ cn) × (cn ≤ curve_of cn 3)
unfolding curve_of
dry_normal_wet cn l h = let b = lines_around cn h in (omega arith, omega arith, omega arith)

-- ---- 3. [5] no more runs off than rains, for every share, curve number and rain: X is at most c x rain, and c x rain is at most Y
pub storm_le : (r c rain : ℕ) → storm_of r c rain ≤ rain
unfolding storm_of
storm_le r c rain =
    either (λ n. n ≤ rain) (leb (c * rain) (2540 * r * (100 - c))) (λ e. omega arith)
    (λ e. div-le_of_le-mul (c * y) (le_trans (mul-le-mul {n₂ = c * rain} {m₂ = y} (omega arith) (omega arith)) (le_of_eq turn)))
  where
    y : ℕ
    y = c * rain + 2540 * (100 - r) * (100 - c)

    turn : c * rain * y ≡ c * y * rain
    turn = omega arith

-- and nothing runs off where nothing rains
pub storm_dry : (r c rain : ℕ) → rain ≡ 0 → 0 ≡ storm_of r c rain
storm_dry r c rain e = omega (arith, storm_le r c rain)

-- and a smaller share lets no less run off: Y is X and all the storage, and X x X / Y rises with X
rising : (x j k c : ℕ) → 0 < c → 0 < x → x * x / (c * (x + k)) ≤ (x + j) * (x + j) / (c * (x + j + k))
rising x j k c p z =
    let q : ℕ = x * x / (c * (x + k)) in
    let a : q * (c * (x + k)) ≤ x * x = div-mul-le_self (x * x) (c * (x + k)) in
    let b : q * c * (x + k) ≤ x * (x + k) = omega (arith, a) in
    let e : q * c ≤ x = le_of_mul-le-mul_right b (omega arith) in
    let t : q * c * j ≤ x * j = mul-le-mul_right j e in
    (le-div_iff_mul-le {k = c * (x + j + k)} {x = q} {y = (x + j) * (x + j)} (mul-pos p (omega arith))).1 (omega (arith, a, t))

pub storm_more : (r s c rain : ℕ) → r ≤ s → s ≤ 100 → 1 ≤ c → storm_of s c rain ≤ storm_of r c rain
unfolding storm_of
storm_more r s c rain h m p = either (λ n. n ≤ storm_of r c rain) (leb (c * rain) (2540 * s * v)) (λ e. omega arith) wet
  where
    v : ℕ
    v = 100 - c

    less : 2540 * r * v ≤ 2540 * s * v
    less = mul-le-mul_right v (mul-le-mul_left 2540 h)

    storage : (r : ℕ) → r ≤ 100 → 2540 * (100 - r) * v + 2540 * r * v ≡ 254000 * v
    storage r l =
        let e : 100 - r + r ≡ 100 = omega arith in
        let f : 2540 * (100 - r) * v + 2540 * r * v ≡ 2540 * (100 - r + r) * v = omega arith in
        f ∙ ap (λ (n : ℕ). 2540 * n * v) e

    wet : leb (c * rain) (2540 * s * v) ≡ false
        → (c * rain - 2540 * s * v) * (c * rain - 2540 * s * v) / (c * (c * rain + 2540 * (100 - s) * v)) ≤ storm_of r c rain
    wet e =
        let g : 2540 * s * v < c * rain = leb-false (c * rain) (2540 * s * v) e in
        let x : ℕ = c * rain - 2540 * s * v in
        let j : ℕ = 2540 * s * v - 2540 * r * v in
        let y : c * rain + 2540 * (100 - s) * v ≡ x + 254000 * v = omega (arith, storage s m) in
        let x' : c * rain - 2540 * r * v ≡ x + j = omega (arith, less) in
        let y' : c * rain + 2540 * (100 - r) * v ≡ x + j + 254000 * v = omega (arith, storage r (omega arith), less) in
        rw (lt-leb (c * rain) (2540 * r * v) (omega (arith, less)), y, x', y') (rising x j (254000 * v) c p (omega arith))

-- ---- 4. the delay is one of the m; where it is one, its depth is at most n; and each deeper one's is not: it is the largest
pub reach_le : (ds : List ℕ) (m n : ℕ) → reach_of ds m n ≤ m
unfolding reach_of
reach_le ds zero n = omega arith
reach_le ds (suc k) n =
    let h = reach_le ds k n in either (λ r. r ≤ suc k) (leb (get_or ds k 0) n) (λ e. omega arith) (λ e. omega arith)

pub reach_deep : (ds : List ℕ) (m n : ℕ) → 0 < reach_of ds m n → get_or ds (reach_of ds m n - 1) 0 ≤ n
unfolding reach_of
reach_deep ds zero n h = absurd (omega arith)
reach_deep ds (suc k) n h =
    let e : suc k - 1 ≡ k = omega arith in
    either (λ r. 0 < r → get_or ds (r - 1) 0 ≤ n) (leb (get_or ds k 0) n)
    (λ t l. rw e (leb-true _ _ t)) (λ t l. reach_deep ds k n l) h

pub reach_last : (ds : List ℕ) (m n j : ℕ) → reach_of ds m n < j → j ≤ m → n < get_or ds (j - 1) 0
unfolding reach_of
reach_last ds zero n j h l = absurd (omega arith)
reach_last ds (suc k) n j h l =
    let e : suc k - 1 ≡ k = omega arith in
    either (λ r. r < j → n < get_or ds (j - 1) 0) (leb (get_or ds k 0) n)
    (λ t p. absurd (omega arith))
    (λ t p. ⊎_elim (λ (q : j ≡ suc k). rw (q, e) (leb-false _ _ t)) (λ (q : j < suc k). reach_last ds k n j p (omega arith)) (eq-or-lt_of_le l))
    h

pub delay_le : (ds : List ℕ) (m : ℕ) (d : Depth) → delay_of ds m d ≤ m
unfolding delay_of
delay_le ds m (Over n) = omega arith
delay_le ds m (Under n) = reach_le ds m n

pub delay_under : (ds : List ℕ) (m n : ℕ) → delay_of ds m (Under n) ≡ reach_of ds m n
unfolding delay_of
delay_under ds m n = refl

pub delay_over : (ds : List ℕ) (m n : ℕ) → delay_of ds m (Over n) ≡ 0
unfolding delay_of
delay_over ds m n = refl

-- ---- 5. no more runs off than came, and no less than the storm's
pub shallow_le : (g q v n : ℕ) → q ≤ g → shallow_of g q v n ≤ g
unfolding shallow_of
shallow_le g q v n h = either (λ r. r ≤ g) (ltb (n * v) (1000 * g)) (λ e. omega arith) (λ e. h)

shallow_ge : (g q v n : ℕ) → q ≤ g → q ≤ shallow_of g q v n
unfolding shallow_of
shallow_ge g q v n h =
    either (λ r. q ≤ r) (ltb (n * v) (1000 * g))
    (λ e. let t = ltb-true (n * v) (1000 * g) e in omega (arith, share (n * v) (g - q) (1000 * g) (omega arith)))
    (λ e. omega arith)

pub runoff_le : (g q k v : ℕ) (d : Depth) → q ≤ g → runoff_of g q k v d ≤ g
unfolding runoff_of
runoff_le g q k v (Over n) h = omega arith
runoff_le g q k v (Under n) h = either (λ r. r ≤ g) (eqb k 0) (λ e. shallow_le g q v n h) (λ e. h)

pub runoff_ge : (g q k v : ℕ) (d : Depth) → q ≤ g → q ≤ runoff_of g q k v d
unfolding runoff_of
runoff_ge g q k v (Over n) h = h
runoff_ge g q k v (Under n) h = either (λ r. q ≤ r) (eqb k 0) (λ e. shallow_ge g q v n h) (λ e. omega arith)

-- ---- 7. the lack is at most etmin, and with etvad it does not pass the larger of etvad and etmin
pub lack_le : (etvad etmin : ℕ) (d : Depth) → lack_of etvad etmin d ≤ etmin
unfolding lack_of
lack_le etvad etmin (Over n) = omega arith
lack_le etvad etmin (Under n) = omega arith

pub lack_most : (etvad etmin : ℕ) (d : Depth) → etvad + lack_of etvad etmin d ≤ max etvad etmin
unfolding lack_of
lack_most etvad etmin (Over n) = omega arith
lack_most etvad etmin (Under n) = omega arith

-- ---- 8. what is taken of the rest is at most the rest
pub fading_le : (rest e n : ℕ) → fading_of rest e n ≤ rest
unfolding fading_of
fading_le rest e n = either (λ r. r ≤ rest) (ltb n e) (λ t. share (e - n) rest e (omega arith)) (λ t. omega arith)

pub etsat_le : (rest e : ℕ) (d : Depth) → etsat_of rest e d ≤ rest
unfolding etsat_of
etsat_le rest e (Over n) = omega arith
etsat_le rest e (Under n) = fading_le rest e n

-- ---- 9. no more drains than stands over the ground
pub drain_le : (leak : ℕ) (d : Depth) → leak ≤ 1000000 → drain_of leak d ≤ distance d
unfolding drain_of distance
drain_le leak (Over n) h = share leak n 1000000 h
drain_le leak (Under n) h = omega arith

-- ---- 10. F goes one way or the other, and nothing of it is lost; without a delay nothing is stored
pub split : (k f : ℕ) → stored_of k f + direct_of k f ≡ f
unfolding stored_of direct_of
split k f = go (eqb k 0)
  where
    go : (t : Bool) → cond t 0 f + cond t f 0 ≡ f
    go true = omega arith
    go false = omega arith

pub none_stored : (k f : ℕ) → k ≡ 0 → stored_of k f ≡ 0
unfolding stored_of
none_stored k f e = rw (eq-eqb k 0 e)

-- ---- 11. recharge as one difference, and its size
pub recharge_is : (a b c d e : ℕ) → recharge_of a b c d e ≡ pos (a + b + c) -ℤ pos (d + e)
unfolding recharge_of
recharge_is a b c d e = refl

pub recharge_le : (a b c d e n : ℕ) → a + b + c ≤ n → d + e ≤ n → nat_abs (recharge_of a b c d e) ≤ n
unfolding recharge_of
recharge_le a b c d e n h k = abs_minus (a + b + c) (d + e) n h k
