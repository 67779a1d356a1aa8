-- The gateway's side: what is known of all that it accepted, from its row's life and next count. Assumes nothing.
use Rattle.std.proofs.Common.{◌≡◌, refl, ap, ◌∙◌, ◌⊎◌, inl, inr, List, [], ◌∷◌, ◌++◌, ℕ, ◌+◌, ◌≤◌, ◌<◌, arith, length, length-append}
use Rattle.std.proofs.Math.Decide.{ℕ_discrete}
use Rattle.cell.specs.declared.Entry.{Entry}
use Rattle.cell.specs.Ranges.{notice_of}
use Rattle.outbox.specs.Laws.{notice_is}
use Rattle.outbox.specs.Counts.{itself, Counted, counted_more}
use Rattle.link.specs.Lists.{life_in, count_in, of_life}
use Rattle.link.proofs.Lists.{life_with, life_without}

-- of each life the counts 0, 1, 2, ..; of the row's life as many as its next count, and none of a higher life; a row with none in its life is a cleared one
pub record Row (cell : ℕ) (accepted : List Entry) (life next : ℕ) : Type 0 where
  pub counted : (l : ℕ) → Counted itself cell l 0 (of_life l accepted)
  pub present : length (of_life life accepted) ≡ next
  pub later : (l : ℕ) → life < l → of_life l accepted ≡ []
  pub begun : next ≡ 0 → life ≡ 0

pub row_start : (cell : ℕ) → Row cell [] 0 0
row_start cell = record { counted = λ l. tt; present = refl; later = λ l h. refl; begun = λ z. refl }

module _ {cell : ℕ} {accepted : List Entry} {life next : ℕ} (v : Row cell accepted life next) (e : Entry) where
  abbrev InTurn : Type 0
  InTurn = ((life_in e ≡ life) × (count_in e ≡ next)) ⊎ ((life < life_in e) × (count_in e ≡ 0))

  -- its count is as many as were accepted of its life
  pub its_count : InTurn → length (of_life (life_in e) accepted) ≡ count_in e
  its_count (inl o) = rw (o.0, o.1) v.present
  its_count (inr o) = rw o.1 (ap length (v.later (life_in e) o.0))

  not_below : InTurn → life ≤ life_in e
  not_below (inl o) = omega arith
  not_below (inr o) = omega arith

  pub row_takes : (notice_of e).cell ≡ cell → InTurn → Row cell (accepted ++ (e ∷ [])) (life_in e) (count_in e + 1)
  row_takes own o =
      record {
        counted = λ l. run l (ℕ_discrete (life_in e) l);
        present = ap length (life_with (life_in e) accepted e refl) ∙ length-append (of_life (life_in e) accepted) (e ∷ []) ∙ ap (λ (n : ℕ). n + 1) (its_count o);
        later = λ l h. life_without l accepted e (λ k. omega arith) ∙ v.later l (omega (arith, not_below o));
        begun = λ z. absurd (omega arith);
      }
    where
      next_count : (l : ℕ) → life_in e ≡ l → count_in e ≡ 0 + length (of_life l accepted)
      next_count l h = omega (arith, its_count o, ap (λ (k : ℕ). length (of_life k accepted)) h)

      run : (l : ℕ) → Dec (life_in e ≡ l) → Counted itself cell l 0 (of_life l (accepted ++ (e ∷ [])))
      run l (yes h) = rw (life_with l accepted e h) (counted_more itself cell l 0 (of_life l accepted) e (v.counted l) (notice_is (notice_of e) own h (next_count l h)))
      run l (no h) = rw (life_without l accepted e h) (v.counted l)
