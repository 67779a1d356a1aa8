-- What became of what the node made: accepted, still held, or emptied by a swap. Assumes nothing.
use Rattle.std.proofs.Common.{◌≡◌, ap, ◌∙◌, ◌⊎◌, inl, inr, List, [], ◌∷◌, ◌++◌, ℕ, ◌+◌, ◌-◌, ◌≤◌, ◌<◌, arith, length, length-append}
use Rattle.std.proofs.Math.Decide.{ℕ_discrete, dec_le}
use Rattle.cell.specs.declared.Entry.{Entry}
use Rattle.cell.specs.declared.Notice.{Notice}
use Rattle.outbox.specs.Counts.{itself, Among, counted_has}
use Rattle.link.specs.Lists.{life_in, count_in, of_life}
use Rattle.link.proofs.Lists.{among_left, among_right, life_longer, life_without}
use Rattle.link.proofs.Node.{Node}

-- a swap emptied the entry of this life and count
abbrev pub Emptied : List Entry → ℕ → ℕ → Type 0
Emptied emptied l i = (x : Entry) × Among x emptied × (life_in x ≡ l) × (count_in x ≡ i)

-- of the present life all below the oldest count were accepted; of an earlier one each was accepted or emptied by a swap
pub record Accounted (made accepted emptied : List Entry) (cell life next held : ℕ) (ps : List Entry) : Type 0 where
  pub oldest : next - length ps ≤ length (of_life life accepted)
  pub past : (l : ℕ) → l < life → (i : ℕ) → i < length (of_life l made) → (i < length (of_life l accepted)) ⊎ Emptied emptied l i

pub accounted_start : (cell : ℕ) → Accounted [] [] [] cell 0 0 0 []
accounted_start cell = record { oldest = omega arith; past = λ l h. absurd (omega arith) }

module _ {made accepted emptied : List Entry} {cell life next held : ℕ} {ps : List Entry} (v : Accounted made accepted emptied cell life next held ps) where
  -- a new entry
  pub accounted_adds : (e : Entry) → life_in e ≡ life → Accounted (made ++ (e ∷ [])) accepted emptied cell life (next + 1) (length (ps ++ (e ∷ []))) (ps ++ (e ∷ []))
  accounted_adds e q =
      record {
        oldest = omega (arith, v.oldest, length-append ps (e ∷ []));
        past = λ l h i k. v.past l h i (rw (life_without l made e (λ z. omega arith)) at k);
      }

  -- more accepted
  pub accounted_hears : (ys : List Entry) → Accounted made (accepted ++ ys) emptied cell life next held ps
  accounted_hears ys = record { oldest = omega (arith, v.oldest, life_longer life accepted ys); past = λ l h i k. go l i (v.past l h i k) }
    where
      go : (l i : ℕ) → (i < length (of_life l accepted)) ⊎ Emptied emptied l i → (i < length (of_life l (accepted ++ ys))) ⊎ Emptied emptied l i
      go l i (inl k) = inl (omega (arith, life_longer l accepted ys))
      go l i (inr x) = inr x

  -- others held, the oldest of them at a count up to which all were accepted
  pub accounted_holds : (qs : List Entry) → next - length qs ≤ length (of_life life accepted) → Accounted made accepted emptied cell life next (length qs) qs
  accounted_holds qs h = record { oldest = h; past = v.past }

  -- a higher life
  module _ {mine : ℕ} {voids : List Entry} (n : Node mine made voids cell life next held ps) (l' : ℕ) (higher : life < l') where
    abbrev after : List Entry
    after = emptied ++ ps

    taken_along : (p : Entry) (i : ℕ) → Among p ps → life_in p ≡ life → count_in p ≡ i → Emptied after life i
    taken_along p i m a b = (p, among_right p emptied ps m, a, b)

    of_this : (i : ℕ) → i < next → Dec (next - length ps ≤ i) → (i < length (of_life life accepted)) ⊎ Emptied after life i
    of_this i h (no k) = inl (omega (arith, v.oldest))
    of_this i h (yes k) =
        let r = counted_has itself cell life (next - length ps) ps n.counts (i - (next - length ps)) (omega (arith, n.reach)) in
        let c : next - length ps + (i - (next - length ps)) ≡ i = omega arith in
        inr (taken_along r.0 i r.1 (ap (λ (q : Notice). q.life) r.2) (ap (λ (q : Notice). q.count) r.2 ∙ c))

    more : (l i : ℕ) → (i < length (of_life l accepted)) ⊎ Emptied emptied l i → (i < length (of_life l accepted)) ⊎ Emptied after l i
    more l i (inl k) = inl k
    more l i (inr (x, m, a, b)) = inr (x, among_left x emptied ps m, a, b)

    of_each : (l i : ℕ) → i < length (of_life l made) → Dec (l ≡ life) → Dec (life ≤ l) → (i < length (of_life l accepted)) ⊎ Emptied after l i
    of_each l i k (yes e) d =
        let z : i < next = omega (arith, n.made_so_far, ap (λ (j : ℕ). length (of_life j made)) e) in
        rw e (of_this i z (dec_le (next - length ps) i))
    of_each l i k (no e) (yes d) = absurd (omega (arith, ap length (n.unused l (omega arith))))
    of_each l i k (no e) (no d) = more l i (v.past l (omega arith) i k)

    pub accounted_swaps : Accounted made accepted after cell l' 0 0 []
    accounted_swaps = record { oldest = omega arith; past = λ l h i k. of_each l i k (ℕ_discrete l life) (dec_le life l) }
