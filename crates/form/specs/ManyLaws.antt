-- Laws of a form that stands several times: its text is read back, and what is read is the one text. Assumes nothing.
use Rattle.std.specs.Prelude.{◌≡◌, refl, List, [], ◌∷◌, ◌++◌, map, Bool, true, false, cond, ℕ, zero, suc, ◌+◌, ◌-◌, ◌*◌, ◌≤◌, ◌<◌, length, take, drop, ℤ}
use Rattle.std.proofs.Common.{sym, ap, ◌∙◌, append_assoc, append-nil, add-zero, add_assoc, arith, length-append, length-drop, take-append-drop, length-take-le, take_at, drop_at, drop-drop}
use Rattle.std.proofs.lemmas.List.{map-append, take-append-le, drop-append-le}
use Rattle.std.proofs.lemmas.Bool.{false≢true}
use Rattle.form.specs.Form.{Out, form_at, form_text, marks, fits}
use Rattle.form.specs.DecLaws.{stops}
use Rattle.form.specs.FormLaws.{form_one, form_back, front_only, ok_words, plain, unword, small_z, all_small, small_oks, apart, apart_stops, parted, all_bytes, and_i, and_1, and_2}
use Rattle.form.specs.Many.{Run, onto, many_at, rows_text, many_fit}
use Rattle.form.specs.RunLaws.{form_length}

pub record RowsRead (n : ℕ) (f s : List ℕ) (at : ℕ) (r : Run) : Type 0 where
  pub text : take r.next s ≡ take at s ++ rows_text n f r.vals
  pub low : at ≤ r.next
  pub room : r.next ≤ length s
  pub fits : many_fit n f r.vals ≡ true

pub many_one : (n : ℕ) (f s : List ℕ) (at : ℕ) → all_bytes f ≡ true → at ≤ length s → (many_at n f s at).ok ≡ true → RowsRead n f s at (many_at n f s at)
unfolding many_at rows_text many_fit
many_one zero f s at b l e = record { text = sym (append-nil (take at s)); low = omega arith; room = l; fits = refl }
many_one (suc n) f s at b l e = go (form_at f s at).ok refl e (many_one n f s (form_at f s at).next b)
  where
    o : Out
    o = form_at f s at

    m : Run
    m = many_at n f s o.next

    bad : Run
    bad = record { ok = false; next = 0; good = 0; vals = o.vals }

    go : (x : Bool) → o.ok ≡ x → (cond x (onto o.vals m) bad).ok ≡ true → (o.next ≤ length s → m.ok ≡ true → RowsRead n f s o.next m) → RowsRead (suc n) f s at (cond x (onto o.vals m) bad)
    go true k e ih =
        let q = form_one f s at b l k in
        let r = ih q.room e in
        let w : length o.vals ≡ marks f = form_length f s at k in
        record {
          text = rw (take_at o.vals m.vals (marks f) w, drop_at o.vals m.vals (marks f) w)
              (r.text ∙ ap (λ (x : List ℕ). x ++ rows_text n f m.vals) q.text ∙ append_assoc (take at s) (form_text f o.vals) (rows_text n f m.vals));
          low = omega (arith, q.low, r.low);
          room = r.room;
          fits = rw (← (front_only f (o.vals ++ m.vals)).0, take_at o.vals m.vals (marks f) w, drop_at o.vals m.vals (marks f) w) (and_i (fits f o.vals) (many_fit n f m.vals) q.fits r.fits);
        }
    go false k e ih = absurd (false≢true e)

abbrev pub ran : ℕ → ℕ → List ℤ → Run
ran n next vs = record { ok = true; next = next; good = n; vals = vs }

rows_parted : (f q : List ℕ) → ((vs : List ℤ) (x : List ℕ) → parted f (form_text f vs ++ x) ≡ true) → parted f q ≡ true
    → (n : ℕ) (vs : List ℤ) → parted f (rows_text n f vs ++ q) ≡ true
unfolding rows_text
rows_parted f q h g zero vs = g
rows_parted f q h g (suc n) vs =
    rw (append_assoc (form_text f (take (marks f) vs)) (rows_text n f (drop (marks f) vs)) q) (h (take (marks f) vs) (rows_text n f (drop (marks f) vs) ++ q))

-- between the rows and behind them stands no digit where the form ends in a value
pub many_back : (f : List ℕ) (q : List ℕ) → ((vs : List ℤ) (x : List ℕ) → parted f (form_text f vs ++ x) ≡ true) → parted f q ≡ true
    → (n : ℕ) (vs : List ℤ) (p : List ℕ) → length vs ≡ n * marks f → many_fit n f vs ≡ true
    → many_at n f (p ++ (rows_text n f vs ++ q)) (length p) ≡ ran n (length p + length (rows_text n f vs)) vs
unfolding many_at rows_text many_fit
many_back f q h g zero [] p l e = rw (add-zero (length p))
many_back f q h g zero (z ∷ zs) p l e = absurd (omega arith)
many_back f q h g (suc n) vs p l e =
    let w : ℕ = marks f in
    let a : List ℤ = take w vs in
    let b : List ℤ = drop w vs in
    let ea : fits f a ≡ true = (front_only f vs).0 ∙ and_1 (fits f vs) (many_fit n f b) e in
    let eb : many_fit n f b ≡ true = and_2 (fits f vs) (many_fit n f b) e in
    let la : length a ≡ marks f = length-take-le (marks f) vs (omega arith) in
    let lb : length b ≡ n * marks f = length-drop (marks f) vs ∙ omega arith in
    let r = many_back f q h g n b (p ++ form_text f a) lb eb in
    let k = form_back f a p (rows_text n f b ++ q) la ea (rows_parted f q h g n b) in
    let r1 = rw (append_assoc p (form_text f a) (rows_text n f b ++ q), length-append p (form_text f a), add_assoc (length p) (length (form_text f a)) (length (rows_text n f b))) at r in
    rw (append_assoc (form_text f a) (rows_text n f b) q, k, length-append (form_text f a) (rows_text n f b))
    (ap (onto a) r1 ∙ ap (ran (suc n) (length p + (length (form_text f a) + length (rows_text n f b)))) (take-append-drop w vs))

-- rows of a form that starts with a byte that is no digit, and what stands behind them: no digit comes first
pub rows_stops : (f : List ℕ) → ((q : List ℕ) → apart f q ≡ true) → (n : ℕ) (vs : List ℤ) (q : List ℕ) → stops q ≡ true → stops (rows_text n f vs ++ q) ≡ true
unfolding rows_text
rows_stops f h zero vs q g = g
rows_stops f h (suc n) vs q g =
    let a : List ℤ = take (marks f) vs in
    let r : List ℕ = rows_text n f (drop (marks f) vs) in
    rw (append_assoc (form_text f a) r q) (apart_stops f a (r ++ q) (h (r ++ q)))

-- ---- which values rows can carry
-- values of rows of a form with no signed value are natural numbers of 32 bits
pub rows_words : (n : ℕ) (f : List ℕ) (vs : List ℤ) → plain f ≡ true → length vs ≡ n * marks f → many_fit n f vs ≡ true → map unword vs ≡ vs
unfolding many_fit
rows_words zero f [] p l o = refl
rows_words zero f (z ∷ zs) p l o = absurd (omega arith)
rows_words (suc n) f vs p l o =
    let a : List ℤ = take (marks f) vs in
    let b : List ℤ = drop (marks f) vs in
    let la : length a ≡ marks f = length-take-le (marks f) vs (omega arith) in
    let lb : length b ≡ n * marks f = length-drop (marks f) vs ∙ omega arith in
    let x : map unword a ≡ a = ok_words f a p la ((front_only f vs).0 ∙ and_1 (fits f vs) (many_fit n f b) o) in
    let y : map unword b ≡ b = rows_words n f b p lb (and_2 (fits f vs) (many_fit n f b) o) in
    let e : a ++ b ≡ vs = take-append-drop (marks f) vs in
    ap (map unword) (sym e) ∙ map-append unword a b ∙ rw (x, y) e

-- and such rows carry any of them
small_drop : (k : ℕ) (vs : List ℤ) → all_small vs ≡ true → all_small (drop k vs) ≡ true
small_drop zero vs o = o
small_drop (suc k) [] o = refl
small_drop (suc k) (z ∷ zs) o = small_drop k zs (and_2 (small_z z) (all_small zs) o)

pub rows_small : (n : ℕ) (f : List ℕ) (vs : List ℤ) → plain f ≡ true → all_small vs ≡ true → many_fit n f vs ≡ true
unfolding many_fit
rows_small zero f vs p o = refl
rows_small (suc n) f vs p o =
    let b : List ℤ = drop (marks f) vs in
    and_i (fits f vs) (many_fit n f b) (small_oks f vs p o) (rows_small n f b p (small_drop (marks f) vs o))

-- ---- writing rows

pub rows_end : (n : ℕ) (f : List ℕ) (vs : List ℤ) → n ≡ 0 → rows_text n f vs ≡ []
unfolding rows_text
rows_end n f vs e = rw e

pub rows_more : (n k j w : ℕ) (f : List ℕ) (vs : List ℤ) → k < n → w ≡ marks f
    → rows_text (n - k) f (drop j vs) ≡ form_text f (drop j vs) ++ rows_text (n - (k + 1)) f (drop (j + w) vs)
unfolding rows_text
rows_more n k j w f vs h q =
    let e : n - k ≡ suc (n - (k + 1)) = omega arith in
    rw (e, (front_only f (drop j vs)).1, q, drop-drop (marks f) j vs)

-- rows use no more values than they have
pub rows_front : (n : ℕ) (f : List ℕ) (a b : List ℤ) → length a ≡ n * marks f → rows_text n f (a ++ b) ≡ rows_text n f a
unfolding rows_text
rows_front zero f a b h = refl
rows_front (suc n) f a b h =
    rw (
      take-append-le (marks f) a b (omega arith),
      drop-append-le (marks f) a b (omega arith),
      rows_front n f (drop (marks f) a) b (length-drop (marks f) a ∙ omega arith),
    )
