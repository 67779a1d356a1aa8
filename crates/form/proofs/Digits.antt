-- One byte at the place i of a text s: what reading a number comes to there. Assumes nothing.
use Rattle.std.proofs.Common.{◌≡◌, ℕ, zero, suc, [], ◌∷◌, ltb, slice_range, take, length-drop, add-zero, ◌+◌, ◌-◌, ◌*◌, ◌≤◌, ◌<◌, ◌^◌, ◌/◌, max, sym, ap, ◌∙◌, Some, None, Bool, true, false, List, length, get_or, drop, refl, add-one, arith, drop-cons, drop_of_length-le, lt-ltb, le-ltb, eq-eqb, ne_eqb}
use Rattle.std.proofs.lemmas.List.{get_or-take, get_or-drop}
use Rattle.form.specs.Dec.{dec, num_at, num_go, num_start, digit_of}
use Rattle.form.specs.Hex.{hex_go, hex_of, hex_at}
use Rattle.form.specs.DecLaws.{len_small, len_more, len_20, put_small, put_more}
use Rattle.form.specs.HexLaws.{pow_8, hex_none, hex_last}

module _ (s : List ℕ) (m : ℕ) where
  pub start_end : (i : ℕ) → length s ≤ i → num_at m s i ≡ None
  unfolding num_at num_start
  start_end i h = rw (drop_of_length-le s h)

  pub go_end : (v i : ℕ) → length s ≤ i → num_go m v i (drop i s) ≡ Some (v, i)
  unfolding num_go
  go_end v i h = rw (drop_of_length-le s h)

  module _ (i : ℕ) (h : i < length s) where
    pub start_stop : 9 < digit_of (get_or s i 0) → num_at m s i ≡ None
    unfolding num_at num_start
    start_stop k = rw (drop-cons s i 0 h, lt-ltb 9 (digit_of (get_or s i 0)) k)

    pub start_more : digit_of (get_or s i 0) ≤ 9 → num_at m s i ≡ num_go m (digit_of (get_or s i 0)) (i + 1) (drop (i + 1) s)
    unfolding num_at num_start
    start_more k = rw (add-one i, drop-cons s i 0 h, le-ltb 9 (digit_of (get_or s i 0)) k)

    pub go_stop : (v : ℕ) → 9 < digit_of (get_or s i 0) → num_go m v i (drop i s) ≡ Some (v, i)
    unfolding num_go
    go_stop v k = rw (drop-cons s i 0 h, lt-ltb 9 (digit_of (get_or s i 0)) k)

    module _ (v : ℕ) (k : digit_of (get_or s i 0) ≤ 9) where
      pub go_zero : v ≡ 0 → num_go m v i (drop i s) ≡ None
      unfolding num_go
      go_zero z = rw (drop-cons s i 0 h, le-ltb 9 (digit_of (get_or s i 0)) k, eq-eqb v 0 z)

      pub go_over : (v ≡ 0 → ⊥) → m < v * 10 + digit_of (get_or s i 0) → num_go m v i (drop i s) ≡ None
      unfolding num_go
      go_over z o = rw (drop-cons s i 0 h, le-ltb 9 (digit_of (get_or s i 0)) k, ne_eqb v 0 z, lt-ltb m (v * 10 + digit_of (get_or s i 0)) o)

      pub go_more : (v ≡ 0 → ⊥) → v * 10 + digit_of (get_or s i 0) ≤ m → num_go m v i (drop i s) ≡ num_go m (v * 10 + digit_of (get_or s i 0)) (i + 1) (drop (i + 1) s)
      unfolding num_go
      go_more z o = rw (add-one i, drop-cons s i 0 h, le-ltb 9 (digit_of (get_or s i 0)) k, ne_eqb v 0 z, le-ltb m (v * 10 + digit_of (get_or s i 0)) o)

pub ruleset digits = (start_end, start_stop, start_more, go_end, go_stop, go_zero, go_over, go_more)

-- fewer than k bytes are no k hex digits
hex_few : (t : List ℕ) (k v i : ℕ) → length t < k → hex_go k v i t ≡ None
unfolding hex_go
hex_few t zero v i h = absurd (omega arith)
hex_few [] (suc k) v i h = refl
hex_few (c ∷ t) (suc k) v i h = go (ltb 15 (hex_of c)) refl (hex_few t k (v * 16 + hex_of c) (suc i) (omega arith))
  where
    go : (b : Bool) → ltb 15 (hex_of c) ≡ b → hex_go k (v * 16 + hex_of c) (suc i) t ≡ None → hex_go (suc k) v i (c ∷ t) ≡ None
    go true e ih = rw e
    go false e ih = rw (e, ih)

module _ (s : List ℕ) (at : ℕ) where
  pub hex_short : length s < at + 8 → hex_at s at ≡ None
  unfolding hex_at
  hex_short h = hex_few (drop at s) 8 0 at (omega (arith, length-drop at s))

  pub hex_begin : (k : ℕ) → k ≡ 0 → hex_at s at ≡ hex_go (8 - k) 0 (at + k) (drop (at + k) s)
  unfolding hex_at
  hex_begin k e = rw e (rw (add-zero at))

  module _ (k : ℕ) (l : k < 8) (h : at + k < length s) (v : ℕ) where
    one : 8 - k ≡ suc (8 - (k + 1))
    one = omega arith

    pub hex_stop : 15 < hex_of (get_or s (at + k) 0) → hex_go (8 - k) v (at + k) (drop (at + k) s) ≡ None
    unfolding hex_go
    hex_stop o = rw (one, drop-cons s (at + k) 0 h, lt-ltb 15 (hex_of (get_or s (at + k) 0)) o)

    pub hex_more : hex_of (get_or s (at + k) 0) ≤ 15
        → hex_go (8 - k) v (at + k) (drop (at + k) s) ≡ hex_go (8 - (k + 1)) (v * 16 + hex_of (get_or s (at + k) 0)) (at + (k + 1)) (drop (at + (k + 1)) s)
    unfolding hex_go
    hex_more o =
        let e : at + (k + 1) ≡ suc (at + k) = omega arith in
        rw (one, e, drop-cons s (at + k) 0 h, le-ltb 15 (hex_of (get_or s (at + k) 0)) o)

  pub hex_done : (k v : ℕ) → k ≡ 8 → hex_go (8 - k) v (at + k) (drop (at + k) s) ≡ Some (v, at + 8)
  unfolding hex_go
  hex_done k v e = rw e

-- the bytes that are looked at
pub range_at : (s a b : List ℕ) (at k : ℕ) → a ≡ slice_range s at (length s) → b ≡ slice_range a 0 8 → at + 8 ≤ length s → k < 8 → get_or b k 0 ≡ get_or s (at + k) 0
range_at s a b at k e f h l =
    let r : k < length s - at = omega arith in
    rw (f, e) (rw (get_or-take 8 (take (length s - at) (drop at s)) k 0 l, get_or-take (length s - at) (drop at s) k 0 r) (get_or-drop at s k 0))

pub ruleset hex_digits = (hex_short, hex_begin, hex_stop, hex_more, hex_done, pow_8)

-- the count of digits by the logarithm
ten_pos : (k : ℕ) → 0 < 10 ^ k
ten_pos zero = omega arith
ten_pos (suc k) = omega (arith, ten_pos k)

len_step : (k n : ℕ) → 10 ^ k ≤ n → n < 10 * 10 ^ k → length (dec n) ≡ k + 1
len_step zero n l h = len_small n (omega arith)
len_step (suc k) n l h =
    let m : 10 ≤ n = omega (arith, ten_pos k) in
    len_more n m ∙ ap (λ (x : ℕ). x + 1) (len_step k (n / 10) (omega arith) (omega arith)) ∙ rw (add-one k)

pub len_log : (n k : ℕ) → 10 ^ k ≤ max n 1 → max n 1 < 10 * 10 ^ k → length (dec n) ≡ k + 1
len_log zero k l h = len_small 0 (omega arith) ∙ sym (len_small 1 (omega arith)) ∙ len_step k 1 l h
len_log (suc n) k l h = len_step k (suc n) (omega arith) (omega arith)

pub ruleset digit_count = (len_small, len_log)

-- writing: the last digit behind the others
pub ruleset last_digit = (len_small, len_more, len_20, put_small, put_more)

pub ruleset last_hex_digit = (hex_none, hex_last)
