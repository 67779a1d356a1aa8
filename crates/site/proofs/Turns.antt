-- [6] A row written in three parts, and one turn of the loop over the rows of a slice. Assumes nothing.
use Rattle.std.proofs.Common.{◌≡◌, List, [], ◌++◌, ℕ, suc, ◌+◌, ◌-◌, ◌*◌, ◌≤◌, ◌<◌, length, take, drop, ap, sym, ◌∙◌, arith, append_assoc, length-append, length-drop, take_at, drop_at, take_all, replicate, add-one}
use Rattle.std.proofs.Math.Nat.{mul-suc, mul-le-mul, mul-le-mul_left}
use Rattle.std.proofs.Math.ListN.{drop_of_length-le, length-take}
use Rattle.std.proofs.Math.Seq.{drop-drop, length-take-le}
use Rattle.std.proofs.lemmas.List.{append-nil, length-replicate}
use Rattle.std.proofs.lemmas.Slice.{take-put_mid}
use borrow.Rule.Slice.PartMut.{put_mid, Post-is}
use Rattle.site.specs.Rows.{part_at}
use Rattle.site.specs.Moves.{recut, width_after, recut_all, Cut}
use Rattle.site.specs.MoveLaws.{all_length}

-- a row whose first p numbers are written, then the m after them, then the rest
pub three_parts : (p m : ℕ) (a f c to : List ℕ) → length a ≡ p → length f ≡ m → p + m ≤ length to
    → put_mid (p + m) (length (put_mid p (p + m - p) (a ++ drop p to) f) - (p + m)) (put_mid p (p + m - p) (a ++ drop p to) f) c ≡ a ++ (f ++ c)
three_parts p m a f c to la lf fits =
    let t : List ℕ = a ++ drop p to in
    let u : List ℕ = put_mid p (p + m - p) t f in
    let lt : length t ≡ length to = omega (arith, length-append a (drop p to), length-drop p to) in
    let front : take (p + m) u ≡ a ++ f = take-put_mid p (p + m - p) t f (p + m) (omega (arith)) (omega (arith)) ∙ ap (λ (x : List ℕ). x ++ f) (take_at a (drop p to) p la) in
    let long : p + m ≤ length u = omega (arith, length-take (p + m) u, ap length front, length-append a f) in
    let none : drop (length u) u ≡ [] = drop_of_length-le u (omega arith) in
    rw (front, Post-is (p + m) (length u) u long, none, append-nil) (append_assoc a f c)

-- and these are the numbers before place p of another row, zeros, and its numbers from place p + out on
pub row_recut : (p out more : ℕ) (from to a f c : List ℕ) → p + out ≤ length from → length to ≡ width_after (length from) out more
    → a ≡ take p from → f ≡ replicate (length (take (p + more - p) (drop p (a ++ drop p to)))) 0 → c ≡ take (length from - (p + out)) (drop (p + out) from)
    → put_mid (p + more) (length (put_mid p (p + more - p) (a ++ drop p to) f) - (p + more)) (put_mid p (p + more - p) (a ++ drop p to) f) c ≡ recut p out more from
unfolding recut
row_recut p out more from to a f c h k ea ef ec =
    let la : length a ≡ p = ap length ea ∙ length-take-le p from (omega arith) in
    let z : length (take (p + more - p) (drop p (a ++ drop p to))) ≡ more = omega (arith, length-take (p + more - p) (drop p (a ++ drop p to)), length-drop p (a ++ drop p to), length-append a (drop p to), length-drop p to) in
    let g : f ≡ replicate more 0 = ef ∙ ap (λ (n : ℕ). replicate n 0) z in
    let e : c ≡ drop (p + out) from = ec ∙ take_all _ _ (omega (arith, length-drop (p + out) from)) in
    three_parts p more a f c to la (ap length g ∙ length-replicate more 0) (omega arith) ∙ rw (ea, g, e)

-- rows have room in their slice, and places in it fit
pub room : (w i n : ℕ) → i < n → w * i + w ≤ w * n
room w i n h = let k : suc i ≤ n = h in omega (arith, mul-le-mul_left w k)

pub room_small : (w n : ℕ) → w ≤ 1000 → n ≤ 256 → w * n ≤ 256000
room_small w n h k = mul-le-mul {n₂ = 1000} {m₂ = 256} h k

-- a row of the new form put in its place
module _ (w p out more : ℕ) (cut : Cut w p out more) (from old : List ℕ) (i : ℕ) (fits : w * i ≤ length from) where
  abbrev v : ℕ
  v = width_after w out more

  abbrev done : List ℕ
  done = recut_all i w p out more from

  pub part_is : take (w * i + w - w * i) (drop (w * i) from) ≡ part_at w i from
  unfolding part_at
  part_is = let e : w * i + w - w * i ≡ w = omega arith in rw e

  pub row_turn : (row : List ℕ) → row ≡ recut p out more (take (w * i + w - w * i) (drop (w * i) from))
      → put_mid (v * i) (v * i + v - v * i) (done ++ drop (v * i) old) row ≡ recut_all (i + 1) w p out more from ++ drop (v * (i + 1)) old
  unfolding recut_all
  row_turn row e =
      let long : length done ≡ v * i = all_length w p out more cut from i fits in
      let k : v * i + v - v * i ≡ v = omega arith in
      let m : v * suc i ≡ v * i + v = mul-suc v i in
      rw (k, take_at done (drop (v * i) old) (v * i) long, drop_at done (drop (v * i) old) (v * i) long, drop-drop v (v * i) old, add-one i, m)
      (sym (append_assoc done row (drop (v * i + v) old)) ∙ ap (λ (t : List ℕ). (done ++ t) ++ drop (v * i + v) old) (e ∙ ap (recut p out more) part_is))
