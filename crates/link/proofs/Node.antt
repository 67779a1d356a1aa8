-- The node's side: what is known of its outbox, of all that it made, and of the voids that it put in place. Assumes nothing.
use Rattle.std.proofs.Common.{◌≡◌, refl, ap, ◌∙◌, ◌⊎◌, inl, inr, List, [], ◌∷◌, ◌++◌, ℕ, ◌+◌, ◌-◌, ◌≤◌, ◌<◌, arith, length, drop, length-append, length-drop}
use Rattle.cell.specs.declared.Entry.{Entry}
use Rattle.cell.specs.declared.Notice.{Notice}
use Rattle.cell.specs.Ranges.{notice_of}
use Rattle.outbox.specs.Outbox.{notice, void_of}
use Rattle.outbox.specs.Counts.{itself, Among, Counted, counted_more, counted_drop}
use Rattle.link.specs.Lists.{life_in, count_in, At, of_life, Holds}
use Rattle.link.proofs.Lists.{among_right, among_either, among_drop, at_left, at_end_lem, life_append, life_with, life_without, holds_more}

-- an entry stands in the place of its life and count: it is what was made there, or the void put in its place
pub record InPlace (made voids : List Entry) (e : Entry) : Type 0 where
  pub was : Entry
  pub at : At (of_life (life_in e) made) (count_in e) was
  pub held : Holds voids was e

-- it stays there as more is made, and as more is replaced
pub stays_made : (made ys voids : List Entry) (e : Entry) → InPlace made voids e → InPlace (made ++ ys) voids e
stays_made made ys voids e p =
    record { was = p.was; at = rw (life_append (life_in e) made ys) (at_left p.was (of_life (life_in e) made) (of_life (life_in e) ys) (count_in e) p.at); held = p.held }

pub stays_voids : (made voids zs : List Entry) (e : Entry) → InPlace made voids e → InPlace made (voids ++ zs) e
stays_voids made voids zs e p = record { was = p.was; at = p.at; held = holds_more voids zs p.was e p.held }

-- a void stands in the place of the entry that it was put for
void_in_place : (made voids : List Entry) (e : Entry) → InPlace made voids e → InPlace made (voids ++ (void_of e ∷ [])) (void_of e)
void_in_place made voids e p = record { was = p.was; at = p.at; held = inr (go p.held, among_right (void_of e) voids (void_of e ∷ []) (inl refl)) }
  where
    go : Holds voids p.was e → void_of e ≡ void_of p.was
    go (inl h) = ap void_of h
    go (inr h) = ap void_of h.0

-- the outbox of `mine`: as many were made in its life as its next count, none in a higher life; it holds entries with counts up to the next one, each in its place
pub record Node (mine : ℕ) (made voids : List Entry) (cell life next held : ℕ) (ps : List Entry) : Type 0 where
  pub own : cell ≡ mine
  pub made_so_far : length (of_life life made) ≡ next
  pub unused : (l : ℕ) → life < l → of_life l made ≡ []
  pub whole : held ≡ length ps
  pub reach : length ps ≤ next
  pub counts : Counted itself cell life (next - length ps) ps
  pub placed : (p : Entry) → Among p ps → InPlace made voids p

pub node_start : (cell : ℕ) → Node cell [] [] cell 0 0 0 []
node_start cell = record { own = refl; made_so_far = refl; unused = λ l h. refl; whole = refl; reach = omega arith; counts = tt; placed = λ p m. absurd m }

module _ {mine : ℕ} {made voids : List Entry} {cell life next held : ℕ} {ps : List Entry} (v : Node mine made voids cell life next held ps) where
  -- a new entry
  pub node_adds : (e : Entry) → notice_of e ≡ notice cell life next → Node mine (made ++ (e ∷ [])) voids cell life (next + 1) (length (ps ++ (e ∷ []))) (ps ++ (e ∷ []))
  node_adds e q =
      record {
        own = v.own;
        made_so_far = ap length same_life ∙ length-append (of_life life made) (e ∷ []) ∙ ap (λ (n : ℕ). n + 1) v.made_so_far;
        unused = λ l h. life_without l made e (λ k. omega (arith, of_life_lem)) ∙ v.unused l h;
        whole = refl;
        reach = omega (arith, v.reach, longer);
        counts = let c : (next + 1) - length (ps ++ (e ∷ [])) ≡ next - length ps = omega (arith, longer, v.reach) in rw c (counted_more itself cell life (next - length ps) ps e v.counts (let k : next - length ps + length ps ≡ next = omega (arith, v.reach) in rw k q));
        placed = λ p m. either p (among_either p ps (e ∷ []) m);
      }
    where
      longer : length (ps ++ (e ∷ [])) ≡ length ps + 1
      longer = length-append ps (e ∷ [])

      of_life_lem : life_in e ≡ life
      of_life_lem = ap (λ (n : Notice). n.life) q

      same_life : of_life life (made ++ (e ∷ [])) ≡ of_life life made ++ (e ∷ [])
      same_life = life_with life made e of_life_lem

      new : InPlace (made ++ (e ∷ [])) voids e
      new =
          record {
            was = e;
            at = rw (of_life_lem, same_life, ap (λ (n : Notice). n.count) q, ← v.made_so_far) (at_end_lem e (of_life life made));
            held = inl refl;
          }

      either : (p : Entry) → Among p ps ⊎ Among p (e ∷ []) → InPlace (made ++ (e ∷ [])) voids p
      either p (inr (inr x0)) = elim x0 [ ]
      either p (inl m) = stays_made made (e ∷ []) voids p (v.placed p m)
      either p (inr (inl k)) = rw k new

  -- what it holds from place k on
  pub node_drops : (k : ℕ) → k ≤ length ps → Node mine made voids cell life next (length (drop k ps)) (drop k ps)
  node_drops k h =
      record {
        own = v.own;
        made_so_far = v.made_so_far;
        unused = v.unused;
        whole = refl;
        reach = omega (arith, v.reach, length-drop k ps);
        counts = let c : next - length (drop k ps) ≡ next - length ps + k = omega (arith, v.reach, length-drop k ps) in rw c (counted_drop itself cell life (next - length ps) k ps v.counts);
        placed = λ p m. v.placed p (among_drop p k ps m);
      }

  -- a higher life
  pub node_swaps : (l : ℕ) → life < l → Node mine made voids cell l 0 0 []
  node_swaps l h =
      record {
        own = v.own;
        made_so_far = ap length (v.unused l h);
        unused = λ j k. v.unused j (omega arith);
        whole = refl;
        reach = omega arith;
        counts = tt;
        placed = λ p m. absurd m;
      }

-- a void in place of the oldest
pub node_voids : {mine : ℕ} {made voids : List Entry} {cell life next held : ℕ} (p : Entry) (ps : List Entry) → Node mine made voids cell life next held (p ∷ ps)
    → Node mine made (voids ++ (void_of p ∷ [])) cell life next (length (p ∷ ps)) (void_of p ∷ ps)
node_voids {mine} {made} {voids} p ps v =
    record {
      own = v.own;
      made_so_far = v.made_so_far;
      unused = v.unused;
      whole = refl;
      reach = v.reach;
      counts = v.counts;
      placed = standing;
    }
  where
    standing : (q : Entry) → Among q (void_of p ∷ ps) → InPlace made (voids ++ (void_of p ∷ [])) q
    standing q (inl k) = rw k (void_in_place made voids p (v.placed p (inl refl)))
    standing q (inr m) = stays_voids made voids (void_of p ∷ []) q (v.placed q (inr m))
