-- [6] A test of every row, chunk by chunk, is `all_rows` of it. Assumes nothing.
use Rattle.std.proofs.Common.{◌≡◌, ℕ, ◌*◌, ◌≤◌, ◌<◌, suc, Bool, true, false, List, Option, Some, length, sym, ap, ◌∙◌, inl, inr, arith}
use Rattle.std.specs.Iterator.Runs.{Run, YieldsRun, AllItems, AnyItem, IsChunksExactRun}
use Rattle.std.proofs.lemmas.Bool.{false_from_ne_true, true≢false}
use Rattle.std.proofs.lemmas.Option.{slice_get_cases}
use Rattle.std.proofs.Math.Nat.{mul_comm, mul-suc, mul-div_cancel_left, le_of_mul-le-mul_left}
use denote.Ref.{Bor}
use Rattle.site.specs.Rows.{part_at}
use Rattle.site.specs.Moves.{all_rows}
use Rattle.site.specs.MoveLaws.{all_told, all_from}

module _ {S : Type 0} {steps : S → Option (Bor (List ℕ)) → S → Type 0} (p : Run steps) (w n : ℕ) (rows : List ℕ) (run : IsChunksExactRun p w rows) (some : 0 < w) (long : length rows ≡ w * n) where
  place : (k : ℕ) → k < p.len → (x : Bor (List ℕ)) × (p.at k ≡ Some x)
  unfolding YieldsRun
  place k h = elim (slice_get_cases p.items k).1 [ inl a ↦ (a.0, p.gave.1 k ∙ a.2) | inr b ↦ absurd (omega (arith, b.0, p.long)) ]

  part : (k : ℕ) (x : Bor (List ℕ)) → p.at k ≡ Some x → (x.now ≡ part_at w k rows) × (k < n)
  unfolding part_at
  part k x e =
      let c = rw e at (run.2 k) in
      let f : k * w ≡ w * k = mul_comm k w in
      let m : w * suc k ≤ w * n = omega (arith, c.1, f, long, mul-suc w k) in
      (c.2.0 ∙ rw f, le_of_mul-le-mul_left m some)

  pub all_passed : {P : Bor (List ℕ) → Type 0} (ok : List ℕ → Bool) → ((x : Bor (List ℕ)) → P x → ok x.now ≡ true) → p.whole ≡ true → AllItems p P → all_rows ok n w rows ≡ true
  all_passed ok told whole h =
      let d : p.len ≡ n = run.1 whole ∙ rw long (mul-div_cancel_left n some) in
      all_from ok n w rows (λ k b.
      let x = place k (omega (arith, d)) in
      ap ok (sym (part k x.0 x.1).0) ∙ told x.0 (rw x.1 at (h k)))

  pub one_failed : {P : Bor (List ℕ) → Type 0} (ok : List ℕ → Bool) → ((x : Bor (List ℕ)) → P x → ok x.now ≡ false) → AnyItem p P → all_rows ok n w rows ≡ false
  one_failed ok told h =
      let x = place h.0 h.1 in
      let t = part h.0 x.0 x.1 in
      let off : ok x.0.now ≡ false = told x.0 (rw x.1 at h.2) in
      false_from_ne_true _ (λ e. true≢false (sym (all_told ok n w rows e h.0 t.1) ∙ ap ok (sym t.0) ∙ off))
