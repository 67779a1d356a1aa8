-- One row of a form that stands several times, at the place `at` of a text s or j of its values: what reading, measuring, writing and trying rows comes to there. Assumes nothing.
use Rattle.std.proofs.Common.{◌≡◌, ℕ, suc, ◌+◌, ◌-◌, ◌≤◌, ◌<◌, Some, None, Result, Ok, Err, cond, true, false, List, [], ℤ, length, drop, ap, ◌∙◌, arith, drop-drop, length-append, zero-add}
use Rattle.std.proofs.lemmas.List.Edits.{sets}
use Rattle.form.specs.Put.{sets_append}
use Rattle.form.specs.Form.{form_at, taken_of, marks, form_text, fits}
use Rattle.form.specs.Many.{Run, many_at, rows_text, stood_of, many_fit}
use Rattle.form.specs.ManyLaws.{rows_end, rows_more}
use Rattle.form.specs.RunLaws.{took, not_taken, form_length, many_end, many_more, many_stop, rows_less}

-- what rows tell that stand behind k others
abbrev pub behind : ℕ → Run → Result ℕ ℕ
behind k r = cond r.ok (Ok r.next) (Err (k + r.good))

module _ (n : ℕ) (f s : List ℕ) (at : ℕ) where
  pub behind_none : behind 0 (many_at n f s at) ≡ stood_of (many_at n f s at)
  behind_none = rw (zero-add (many_at n f s at).good)

  module _ (k : ℕ) (h : k < n) where
    rest : n - k ≡ suc (n - (k + 1))
    rest = omega arith

    module _ (next : ℕ) (t : taken_of (form_at f s at) ≡ Some next) where
      pub read_more : behind k (many_at (n - k) f s at) ≡ behind (k + 1) (many_at (n - (k + 1)) f s next)
      read_more =
          let o = took (form_at f s at) next t in
          let m = many_more (n - k) (n - (k + 1)) f s at rest o.0 in
          let g : k + suc (many_at (n - (k + 1)) f s next).good ≡ k + 1 + (many_at (n - (k + 1)) f s next).good = omega arith in
          rw (m, o.1, g)

      pub vals_more : (vals : List ℤ) (j : ℕ) → sets vals j (many_at (n - k) f s at).vals ≡ sets (sets vals j (form_at f s at).vals) (j + marks f) (many_at (n - (k + 1)) f s next).vals
      vals_more vals j =
          let o = took (form_at f s at) next t in
          let m = many_more (n - k) (n - (k + 1)) f s at rest o.0 in
          rw (m, o.1, ← form_length f s at o.0) (sets_append vals j (form_at f s at).vals (many_at (n - (k + 1)) f s next).vals)

    module _ (t : taken_of (form_at f s at) ≡ None) where
      pub read_stop : behind k (many_at (n - k) f s at) ≡ Err k
      read_stop =
          let m = many_stop (n - k) (n - (k + 1)) f s at rest (not_taken (form_at f s at) t) in
          let z : k + 0 ≡ k = omega arith in
          rw (m, z)

      pub vals_stop : (vals : List ℤ) (j : ℕ) → sets vals j (many_at (n - k) f s at).vals ≡ sets vals j (form_at f s at).vals
      vals_stop vals j = ap (λ (r : Run). sets vals j r.vals) (many_stop (n - k) (n - (k + 1)) f s at rest (not_taken (form_at f s at) t))

  module _ (k : ℕ) (h : n ≤ k) where
    pub read_end : behind k (many_at (n - k) f s at) ≡ Ok at
    read_end = rw (many_end (n - k) f s at (omega arith))

    pub vals_end : (vals : List ℤ) (j : ℕ) → sets vals j (many_at (n - k) f s at).vals ≡ vals
    vals_end vals j = rw (many_end (n - k) f s at (omega arith))

pub ruleset reading_rows = (behind_none, read_more, vals_more, read_stop, vals_stop, read_end, vals_end, rows_less)

module _ (n : ℕ) (f : List ℕ) (vals : List ℤ) where
  module _ (k : ℕ) (h : k < n) (j w : ℕ) (q : w ≡ marks f) where
    pub len_more : length (rows_text (n - k) f (drop j vals)) ≡ length (form_text f (drop j vals)) + length (rows_text (n - (k + 1)) f (drop (j + w) vals))
    len_more = ap length (rows_more n k j w f vals h q) ∙ simp length-append

    pub put_more : (b : List ℕ) (at : ℕ) → sets b at (rows_text (n - k) f (drop j vals)) ≡ sets (sets b at (form_text f (drop j vals))) (at + length (form_text f (drop j vals))) (rows_text (n - (k + 1)) f (drop (j + w) vals))
    put_more b at = ap (sets b at) (rows_more n k j w f vals h q) ∙ sets_append b at (form_text f (drop j vals)) (rows_text (n - (k + 1)) f (drop (j + w) vals))

    left : n - k ≡ suc (n - (k + 1))
    left = omega arith

    pub fit_more : fits f (drop j vals) ≡ true → many_fit (n - k) f (drop j vals) ≡ many_fit (n - (k + 1)) f (drop (j + w) vals)
    unfolding many_fit
    fit_more o = rw (left, o, q, drop-drop (marks f) j vals)

    pub fit_stop : fits f (drop j vals) ≡ false → many_fit (n - k) f (drop j vals) ≡ false
    unfolding many_fit
    fit_stop o = rw (left, o)

  module _ (k : ℕ) (h : n ≤ k) (j : ℕ) where
    pub text_end : rows_text (n - k) f (drop j vals) ≡ []
    text_end = rows_end (n - k) f (drop j vals) (omega arith)

    pub fit_end : many_fit (n - k) f (drop j vals) ≡ true
    unfolding many_fit
    fit_end = let e : n - k ≡ 0 = omega arith in rw e

pub ruleset measuring_rows = (len_more, text_end, rows_less)

pub ruleset writing_rows = (len_more, put_more, text_end, rows_less)

pub ruleset fitting_rows = (fit_more, fit_stop, fit_end, rows_less)
