-- The number rules of one accepted step, one definition each, in whole µm. The numbers are document 01's; [n] is request n of document 02. Definitions only.
use Rattle.std.specs.Prelude.{cond, List, [], ◌∷◌, ℕ, zero, suc, ◌+◌, ◌-◌, ◌*◌, ◌/◌, ◌%◌, min, max, leb, ltb, eqb, get_or, ℤ, pos, ◌-ℤ◌}
use Rattle.cell.specs.declared.Depth.{Depth}
use Rattle.cell.specs.declared.Depth.TheVariants.{Over, Under}

-- n / d to the nearest whole, halves up
abbrev pub nearest : ℕ → ℕ → ℕ
nearest n d = (2 * n + d) / (2 * d)

-- 2. [1] the handbook's numbers for dry ground and for wet, listed at the normal numbers 0, 5, 10 .. 100
unfoldable pub dry_ground : List ℕ
dry_ground = 0 ∷ 2 ∷ 4 ∷ 6 ∷ 9 ∷ 12 ∷ 15 ∷ 18 ∷ 22 ∷ 26 ∷ 31 ∷ 35 ∷ 40 ∷ 45 ∷ 51 ∷ 57 ∷ 63 ∷ 70 ∷ 78 ∷ 87 ∷ 100 ∷ []

unfoldable pub wet_ground : List ℕ
wet_ground = 0 ∷ 13 ∷ 22 ∷ 30 ∷ 37 ∷ 43 ∷ 50 ∷ 55 ∷ 60 ∷ 65 ∷ 70 ∷ 74 ∷ 78 ∷ 82 ∷ 85 ∷ 88 ∷ 91 ∷ 94 ∷ 96 ∷ 98 ∷ 100 ∷ []

-- between two of them a straight line: at cn = 5k + j it is j fifths of the way from the k-th to the next, nearest whole, halves up
unfoldable pub line_of : List ℕ → ℕ → ℕ
line_of listed cn =
    let k : ℕ = cn / 5 in
    let j : ℕ = cn % 5 in
    nearest ((5 - j) * get_or listed k 0 + j * get_or listed (k + 1) 0) 5

-- curve number: cn for amc 2, by dry ground for amc 1, by wet ground for amc 3; never below 1
unfoldable pub curve_of : ℕ → ℕ → ℕ
curve_of cn amc =
    max 1
    (cond (eqb amc 1) (line_of dry_ground cn)
    (cond (eqb amc 3) (line_of wet_ground cn)
    cn))

-- 3. [5] storm runoff, with the share r: X = c x rain - 2,540 x r x (100 - c), Y = c x rain + 2,540 x (100 - r) x (100 - c); 0 if X <= 0, else X x X / (c x Y)
unfoldable pub storm_of : ℕ → ℕ → ℕ → ℕ
storm_of r c rain =
    let x : ℕ = c * rain - 2540 * r * (100 - c) in
    let y : ℕ = c * rain + 2540 * (100 - r) * (100 - c) in
    cond (leb (c * rain) (2540 * r * (100 - c))) 0 (x * x / (c * y))

-- 4. delay: the largest k <= m whose delay depth is <= n; 0 if none
unfoldable pub reach_of : List ℕ → ℕ → ℕ → ℕ
reach_of depths zero n = 0
reach_of depths (suc k) n = cond (leb (get_or depths k 0) n) (suc k) (reach_of depths k n)

-- where d <= 0 there is none, since each delay depth is at least 1
unfoldable pub delay_of : List ℕ → ℕ → Depth → ℕ
delay_of depths m (Over n) = 0
delay_of depths m (Under n) = reach_of depths m n

-- 5. runoff where d > 0 and k = 0
unfoldable pub shallow_of : ℕ → ℕ → ℕ → ℕ → ℕ
shallow_of g q vadpor n = cond (ltb (n * vadpor) (1000 * g)) (g - n * vadpor * (g - q) / (1000 * g)) q

-- and wherever the table stands
unfoldable pub runoff_of : ℕ → ℕ → ℕ → ℕ → Depth → ℕ
runoff_of g q k vadpor (Over n) = g
runoff_of g q k vadpor (Under n) = cond (eqb k 0) (shallow_of g q vadpor n) q

-- 6. etvad: the least of G - runoff, pet, etmin + irrig
abbrev pub etvad_of : ℕ → ℕ → ℕ → ℕ → ℕ → ℕ
etvad_of g runoff pet etmin irrig = min (g - runoff) (min pet (etmin + irrig))

-- 7. the lack to draw: what etvad falls short of etmin where d > 0, else 0
unfoldable pub lack_of : ℕ → ℕ → Depth → ℕ
lack_of etvad etmin (Over n) = 0
lack_of etvad etmin (Under n) = etmin - etvad

-- 8. etsat, of the rest, where d > 0
unfoldable pub fading_of : ℕ → ℕ → ℕ → ℕ
fading_of rest etdepth n = cond (ltb n etdepth) ((etdepth - n) * rest / etdepth) 0

-- and wherever the table stands
unfoldable pub etsat_of : ℕ → ℕ → Depth → ℕ
etsat_of rest etdepth (Over n) = rest
etsat_of rest etdepth (Under n) = fading_of rest etdepth n

-- 9. drain
unfoldable pub drain_of : ℕ → Depth → ℕ
drain_of leak (Over n) = leak * n / 1000000
drain_of leak (Under n) = 0

-- 10. of F: what is stored, and what is direct
unfoldable pub stored_of : ℕ → ℕ → ℕ
stored_of k f = cond (eqb k 0) 0 f

unfoldable pub direct_of : ℕ → ℕ → ℕ
direct_of k f = cond (eqb k 0) f 0

-- 11. net recharge, signed
unfoldable pub recharge_of : ℕ → ℕ → ℕ → ℕ → ℕ → ℤ
recharge_of release direct septic etsat drain = pos (release + direct + septic) -ℤ pos (etsat + drain)
