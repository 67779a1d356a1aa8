-- A part that is put is there, no other part changes, and putting a part back changes nothing; over the width. Assumes nothing.
use Rattle.std.specs.Prelude.{◌≡◌, take, replicate}
use Rattle.std.proofs.Math.Path.{ap, sym}
use Rattle.std.proofs.Common.{◌∙◌, mul-le-mul_left, take-append-drop, length-take-le, drop_at, drop-drop}
use mathlib.Core.List.{List, ◌++◌}
use Prim.Native.Nat.{ℕ, zero, suc, ◌+◌, ◌-◌, ◌*◌, ◌≤◌, ◌<◌, min}
use Rattle.std.proofs.Math.Nat.{sub-zero}
use native.Mathlib.Omega.{arith}
use Rattle.std.proofs.Math.Decide.{dec_le}
use Rattle.std.proofs.Math.ListN.{length, get_or, drop, length-append, length-take, length-drop, get_or-append}
use Rattle.std.proofs.Math.Seq.{take_at, get_or-append-add, get_or-take, get_or-drop, ext_get_or}
use Rattle.cell.specs.QueueLaws.{first_zeros}
use Rattle.site.specs.Rows.{part_at, put_at}

pub part_length : (w c : ℕ) (l : List ℕ) → w * c + w ≤ length l → length (part_at w c l) ≡ w
unfolding part_at
part_length w c l h = omega (arith, length-take w (drop (w * c) l), length-drop (w * c) l)

-- the cells of a slice that is w x cells long have room in it
pub room : (w c cells : ℕ) (l : List ℕ) → length l ≡ w * cells → c < cells → w * c + w ≤ length l
room w c cells l e h = let k : suc c ≤ cells = h in omega (arith, mul-le-mul_left w k)

pub put_back : (w c : ℕ) (l : List ℕ) → put_at w c (part_at w c l) l ≡ l
unfolding part_at put_at
put_back w c l =
    ap (λ (t : List ℕ). take (w * c) l ++ (take w (drop (w * c) l) ++ t)) (sym (drop-drop w (w * c) l))
    ∙ ap (λ (t : List ℕ). take (w * c) l ++ t) (take-append-drop w (drop (w * c) l))
    ∙ take-append-drop (w * c) l

module _ (w c : ℕ) (row l : List ℕ) (len : length row ≡ w) (fits : w * c + w ≤ length l) where
  head_length : length (take (w * c) l) ≡ w * c
  head_length = length-take-le (w * c) l (omega arith)

  pub put_same : part_at w c (put_at w c row l) ≡ row
  unfolding part_at put_at
  put_same = ap (take w) (drop_at (take (w * c) l) (row ++ drop (w * c + w) l) (w * c) head_length) ∙ take_at row (drop (w * c + w) l) w len

  pub put_length : length (put_at w c row l) ≡ length l
  unfolding put_at
  put_length =
      omega (arith, head_length, length-append (take (w * c) l) (row ++ drop (w * c + w) l), length-append row (drop (w * c + w) l), length-drop (w * c + w) l)

  below : (j : ℕ) → j < w * c → get_or (put_at w c row l) j 0 ≡ get_or l j 0
  unfolding put_at
  below j h =
      get_or-append (take (w * c) l) (row ++ drop (w * c + w) l) 0 j (omega (arith, head_length)) ∙ get_or-take (w * c) l j 0 h

  above : (j : ℕ) → w * c + w ≤ j → get_or (put_at w c row l) j 0 ≡ get_or l j 0
  unfolding put_at
  above j h =
      let i : ℕ = j - (w * c + w) in
      let e : j ≡ w * c + w + i = omega arith in
      let e₁ : j ≡ length (take (w * c) l) + (length row + i) = omega (arith, head_length) in
      ap (λ (k : ℕ). get_or (take (w * c) l ++ (row ++ drop (w * c + w) l)) k 0) e₁
      ∙ get_or-append-add (take (w * c) l) (row ++ drop (w * c + w) l) (length row + i) 0
      ∙ get_or-append-add row (drop (w * c + w) l) i 0
      ∙ get_or-drop (w * c + w) l i 0
      ∙ ap (λ (k : ℕ). get_or l k 0) (sym e)

  -- no number outside the part differs
  pub put_outside : (j : ℕ) → ¬ ((w * c ≤ j) × (j < w * c + w)) → get_or (put_at w c row l) j 0 ≡ get_or l j 0
  put_outside j n = go (dec_le (w * c) j)
    where
      go : Dec (w * c ≤ j) → get_or (put_at w c row l) j 0 ≡ get_or l j 0
      go (yes h) = above j (past (dec_le (w * c + w) j))
        where
          past : Dec (w * c + w ≤ j) → w * c + w ≤ j
          past (yes k) = k
          past (no k) = absurd (n (h, omega arith))
      go (no h) = below j (omega arith)

  pub put_other : (p : ℕ) → ¬ (c ≡ p) → part_at w p (put_at w c row l) ≡ part_at w p l
  unfolding part_at
  put_other p ne =
      ext_get_or 0 (part_at w p (put_at w c row l)) (part_at w p l)
      (omega (arith, sizes (put_at w c row l), sizes l, put_length))
      (λ i h. let k : i < w = omega (arith, sizes (put_at w c row l)) in
      at (put_at w c row l) i k ∙ outside i k (dec_le c p) ∙ sym (at l i k))
    where
      sizes : (m : List ℕ) → length (part_at w p m) ≡ min w (length m - w * p)
      sizes m = length-take w (drop (w * p) m) ∙ ap (min w) (length-drop (w * p) m)

      at : (m : List ℕ) (i : ℕ) → i < w → get_or (part_at w p m) i 0 ≡ get_or m (w * p + i) 0
      at m i k = get_or-take w (drop (w * p) m) i 0 k ∙ get_or-drop (w * p) m i 0

      outside : (i : ℕ) → i < w → Dec (c ≤ p) → get_or (put_at w c row l) (w * p + i) 0 ≡ get_or l (w * p + i) 0
      outside i k (yes h) = let b : suc c ≤ p = omega arith in above (w * p + i) (omega (arith, mul-le-mul_left w b))
      outside i k (no h) = let b : suc p ≤ c = omega arith in below (w * p + i) (omega (arith, mul-le-mul_left w b))

-- a part of zeros is zeros
later_zeros : (k n : ℕ) → ◌≡◌ {A = List ℕ} (drop k (replicate n 0)) (replicate (n - k) 0)
later_zeros zero n = ap (λ (j : ℕ). replicate j 0) (sym (sub-zero n))
later_zeros (suc k) zero = let e : 0 - suc k ≡ 0 = omega arith in rw e
later_zeros (suc k) (suc n) = let e : suc n - suc k ≡ n - k = omega arith in rw e (later_zeros k n)

pub part_zeros : (w c n : ℕ) → w * c + w ≤ n → part_at {A = ℕ} w c (replicate n 0) ≡ replicate w 0
unfolding part_at
part_zeros w c n h = ap (take w) (later_zeros (w * c) n) ∙ first_zeros w (n - w * c) (omega arith)
