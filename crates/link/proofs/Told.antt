-- What is known of what the gateway had accepted, and so of an acknowledgement. Assumes nothing.
use Rattle.std.proofs.Common.{◌≡◌, refl, sym, ap, subst, ◌∙◌, List, [], ◌++◌, ℕ, ◌+◌, ◌-◌, ◌≤◌, ◌<◌, arith, length, take, drop, take-append-drop, length-take}
use Rattle.std.proofs.Math.Decide.{dec_le}
use Rattle.cell.specs.declared.Entry.{Entry}
use Rattle.cell.specs.declared.Notice.{Notice}
use Rattle.cell.specs.Ranges.{notice_of}
use Rattle.outbox.specs.Outbox.{notice}
use Rattle.outbox.specs.Counts.{itself, Among, counted_take, counted_drop, counted_in}
use Rattle.link.specs.Lists.{life_in, count_in, At, of_life, FirstPart}
use Rattle.link.specs.Run.{HeardAs, Told}
use Rattle.link.proofs.Lists.{life_append, among_life, among_take, at_some, at_one, first_made, first_voids, first_length, first_at}
use Rattle.link.proofs.Node.{InPlace, Node}
use Rattle.link.proofs.Row.{Row}

-- what the gateway had accepted when its row had this life and next count: in order, and of each life a first part of what was made in it
pub record Heard (cell : ℕ) (made voids heard : List Entry) (life next : ℕ) : Type 0 where
  pub row : Row cell heard life next
  pub prefix : (l : ℕ) → FirstPart voids (of_life l heard) (of_life l made)

-- it stays so as more is made, and as more is replaced
module _ {cell : ℕ} {made voids heard : List Entry} {life next : ℕ} (h : Heard cell made voids heard life next) where
  pub heard_made : (ys : List Entry) → Heard cell (made ++ ys) voids heard life next
  heard_made ys = record { row = h.row; prefix = λ l. rw (life_append l made ys) (first_made voids (of_life l heard) (of_life l made) (of_life l ys) (h.prefix l)) }

  pub heard_voids : (zs : List Entry) → Heard cell made (voids ++ zs) heard life next
  heard_voids zs = record { row = h.row; prefix = λ l. first_voids voids zs (of_life l heard) (of_life l made) (h.prefix l) }

-- an acknowledgement with life l and next count n, against what the outbox holds
module _ {mine : ℕ} {made voids : List Entry} {cell life next held : ℕ} {ps : List Entry} (v : Node mine made voids cell life next held ps)
    {heard : List Entry} {l n : ℕ} (h : Heard mine made voids heard l n) where
  -- what was heard of the outbox's life has counts below n, and l is that life
  below : (x : Entry) → Among x heard → life_in x ≡ life → (l ≡ life) × ((notice_of x).count < n)
  below x w e = (same, omega (arith, y.1, ap (λ (q : Notice). q.count) y.2, ap (λ (k : ℕ). length (of_life k heard)) same, h.row.present))
    where
      m : Among x (of_life life heard)
      m = subst (λ (k : ℕ). Among x (of_life k heard)) e (among_life x heard w)

      y : (i : ℕ) × (i < length (of_life life heard)) × (notice_of x ≡ notice mine life (0 + i))
      y = counted_in itself mine life 0 (of_life life heard) x (h.row.counted life) m

      not_before : life ≤ l
      not_before = go (dec_le life l)
        where
          go : Dec (life ≤ l) → life ≤ l
          go (yes k) = k
          go (no k) = absurd (omega (arith, y.1, ap length (h.row.later life (omega arith))))

      not_after : l ≤ life
      not_after = go (dec_le l life)
        where
          go : Dec (l ≤ life) → l ≤ life
          go (yes k) = k
          go (no k) =
              let z : n ≡ 0 = omega (arith, h.row.present, first_length voids (of_life l heard) (of_life l made) (h.prefix l), ap length (v.unused l (omega arith))) in
              omega (arith, h.row.begun z)

      same : l ≡ life
      same = omega (arith, not_before, not_after)

  -- what was accepted in an entry's life at its count stands in the entry's place
  heard_as : (e : Entry) (i : ℕ) → life_in e ≡ l → count_in e ≡ i → InPlace made voids e → (x : Entry) → At (of_life l heard) i x → HeardAs made voids heard e
  heard_as e i p q w x a =
      let f = first_at voids (of_life l heard) (of_life l made) i x (h.prefix l) a in
      let s : w.was ≡ f.0 = at_one w.was f.0 (of_life l made) i (rw (p, q) at w.at) f.1 in
      record { was = w.was; place = w.at; own = w.held; x = x; at = rw (p, q) a; same_place = rw s f.2 }

  -- it reaches some of them: those removed had been heard, and those left had not
  pub told_some : l ≡ life → next - held < n → n ≤ next → Told made voids heard ps (drop (n - (next - held)) ps)
  told_some el low high =
      record { removed = take k ps; split = sym (take-append-drop k ps); all_heard = heard_of; none_left = not_of }
    where
      k : ℕ
      k = n - (next - held)

      starts_at : next - length ps + k ≡ n
      starts_at = omega (arith, v.whole, v.reach)

      heard_of : (p : Entry) → Among p (take k ps) → HeardAs made voids heard p
      heard_of p m =
          let r = counted_in itself cell life (next - length ps) (take k ps) p (counted_take itself cell life (next - length ps) k ps v.counts) m in
          let i : next - length ps + r.0 < length (of_life l heard) = omega (arith, r.1, length-take k ps, starts_at, h.row.present) in
          let x = at_some (of_life l heard) (next - length ps + r.0) i in
          heard_as p (next - length ps + r.0) (ap (λ (q : Notice). q.life) r.2 ∙ sym el) (ap (λ (q : Notice). q.count) r.2) (v.placed p (among_take p k ps m)) x.0 x.1

      not_of : (p : Entry) → Among p (drop k ps) → (x : Entry) → Among x heard → notice_of x ≡ notice_of p → ⊥
      not_of p m x w e =
          let r = counted_in itself cell life (next - length ps + k) (drop k ps) p (counted_drop itself cell life (next - length ps) k ps v.counts) m in
          omega (arith, starts_at, ap (λ (q : Notice). q.count) (e ∙ r.2), below x w (ap (λ (q : Notice). q.life) (e ∙ r.2)))

  -- it reaches none: none of those held had been heard
  pub told_none : ¬ ((l ≡ life) × (next - held < n) × (n ≤ next)) → Told made voids heard ps ps
  told_none beyond =
      record { removed = []; split = refl; all_heard = λ p m. absurd m; none_left = not_of }
    where
      not_of : (p : Entry) → Among p ps → (x : Entry) → Among x heard → notice_of x ≡ notice_of p → ⊥
      not_of p m x w e =
          let r = counted_in itself cell life (next - length ps) ps p v.counts m in
          let b = below x w (ap (λ (q : Notice). q.life) (e ∙ r.2)) in
          beyond (
            b.0,
            omega (arith, v.whole, ap (λ (q : Notice). q.count) (e ∙ r.2), b.1),
            omega (arith, h.row.present, first_length voids (of_life l heard) (of_life l made) (h.prefix l), ap (λ (k : ℕ). length (of_life k made)) b.0, v.made_so_far),
          )
