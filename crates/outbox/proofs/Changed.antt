-- The outbox that a call writes: without those below a count, and with a void in place of the oldest. Assumes nothing.
use Rattle.std.specs.Prelude.{◌≡◌, false, List, ◌∷◌, ℕ, suc, ◌+◌, ◌-◌, ◌≤◌, drop}
use Rattle.std.proofs.Math.Path.{sym, ap}
use Rattle.std.specs.Prelude.{[], replicate}
use Rattle.std.specs.List.{copy_within}
use borrow.Rule.Slice.PartMut.{put_mid, mid_of}
use Rattle.std.proofs.lemmas.List.Edits.{length-paste}
use Rattle.std.proofs.Common.{◌∙◌, arith, append-nil, take_at, length-take-le, drop_of_length-le}
use Rattle.std.proofs.Math.ListN.{length, get_or, take, set, length-drop}
use Rattle.cell.specs.declared.Entry.{Entry}
use Rattle.outbox.specs.declared.Outbox.{Outbox}
use Rattle.outbox.specs.Outbox.{void_of, spare, padded, held_of, box_of, oldest_of, replacing, without}
use Rattle.outbox.specs.Laws.{drop_take, first_is, first_of, padded_first, held_length}

-- the places that are kept stand first, and spare room behind them
pub kept_is : (first held : ℕ) (ps : List Entry) {qs rs : List Entry} {v : Entry} → first ≤ held → held ≤ 30 → length ps ≡ 30 → qs ≡ copy_within ps first held 0
    → rs ≡ replicate (length (mid_of (held - first) (30 - (held - first)) qs)) v → v ≡ spare
    → put_mid (held - first) (30 - (held - first)) qs rs ≡ padded (drop first (take held ps))
unfolding padded
kept_is first held ps {qs} {rs} {v} f h n e k s =
    let m = held - first in
    let d : length (drop first ps) ≡ 30 - first = omega (arith, length-drop first ps) in
    let w : length qs ≡ 30 = ap length e ∙ length-paste ps 0 (drop first ps) m (omega arith) (omega arith) ∙ n in
    let l : length (take m (drop first ps)) ≡ m = length-take-le m (drop first ps) (omega arith) in
    let front : take m qs ≡ take m (drop first ps) = ap (take m) e ∙ take_at (take m (drop first ps)) (drop (0 + m) ps) m l in
    let long : length (mid_of m (30 - m) qs) ≡ 30 - m = length-take-le (30 - m) (drop m qs) (omega (arith, length-drop m qs)) in
    let none : drop (30 - m) (drop m qs) ≡ [] = drop_of_length-le (drop m qs) (omega (arith, length-drop m qs)) in
    rw (front, none, k, long, s, append-nil, drop_take first held ps, l)

module _ (b : Outbox) (len : length b.places ≡ 30) where
  -- without those below a count
  pub without_is : (n held : ℕ) (ps : List Entry) → b.held ≤ 30 → held ≡ b.held - (n - oldest_of b) → ps ≡ padded (drop (n - oldest_of b) (take b.held b.places))
      → record { cell = b.cell; life = b.life; next = b.next; held = held; places = ps } ≡ without b n
  unfolding without box_of held_of
  without_is n held ps r h k =
      let l : length (drop (n - oldest_of b) (take b.held b.places)) ≡ b.held - (n - oldest_of b) =
      omega (arith, length-drop (n - oldest_of b) (take b.held b.places), held_length b len r) in
      rw (l, h, k)

  -- with a void in place of the oldest
  pub replaced_is : (d : Entry) (v : Entry) (ps : List Entry) → b.held ≤ 30 → (b.held ≡ 0 → ⊥) → ps ≡ padded (drop 0 (take b.held b.places)) → v ≡ void_of (get_or ps 0 d)
      → record { outbox = record { cell = b.cell; life = b.life; next = b.next; held = b.held; places = set ps 0 v }; number = 0; empty = false } ≡ replacing b (held_of b)
  unfolding replacing box_of held_of
  replaced_is d v ps r n k e =
      let q = take (b.held - 1) (drop 1 b.places) in
      let p = get_or b.places 0 d in
      let f : take b.held b.places ≡ p ∷ q = first_is b len d n in
      let l : suc (length q) ≡ b.held = sym (ap length f) ∙ held_length b len r in
      let k' : ps ≡ padded (p ∷ q) = rw f at k in
      let e' : v ≡ void_of p = e ∙ ap (λ (xs : List Entry). void_of (get_or xs 0 d)) k' ∙ ap (λ (x : Entry). void_of x) (first_of p q d) in
      rw (f, l, e', k', padded_first p (void_of p) q)
