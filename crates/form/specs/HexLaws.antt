-- Laws of hex text: a number's text is read back, and what is read is the number's one text. Assumes nothing.
use Rattle.std.specs.Prelude.{Option, Some, None, ◌≡◌, refl, List, [], ◌∷◌, ◌++◌, Bool, true, false, ℕ, zero, suc, ◌+◌, ◌-◌, ◌*◌, ◌/◌, ◌%◌, ◌^◌, ◌≤◌, ◌<◌, length, take, set, ltb}
use Rattle.std.proofs.Common.{sym, ◌∙◌, append_assoc, append-nil, div-add-mod', add-zero, add-suc, suc-add, zero-add, add-one, arith, length-append, lt-ltb, le-ltb, ltb-true, ltb-false}
use Rattle.std.proofs.Math.Seq.{append_snoc}
use Rattle.std.proofs.lemmas.List.Edits.{sets}
use Rattle.form.specs.Put.{sets_append}
use Rattle.form.specs.DecLaws.{some_pair}
use Rattle.form.specs.Hex.{hex, hex_go, hex_of, hex_byte}

pub hex_len : (k n : ℕ) → length (hex k n) ≡ k
unfolding hex
hex_len zero n = refl
hex_len (suc k) n = rw (length-append, hex_len k (n / 16), add-one k)

pub hex_of_lem : (d : ℕ) → d < 16 → hex_of (hex_byte d) ≡ d
hex_of_lem d h = go (ltb d 10) refl
  where
    go : (b : Bool) → ltb d 10 ≡ b → hex_of (hex_byte d) ≡ d
    go true e =
        let l : d < 10 = ltb-true d 10 e in
        rw (e, le-ltb (48 + d) 48 (omega arith), lt-ltb (48 + d) 58 (omega arith)) (omega arith)
    go false e =
        let l : 10 ≤ d = ltb-false d 10 e in
        rw (e, le-ltb (87 + d) 48 (omega arith), le-ltb (87 + d) 58 (omega arith), le-ltb (87 + d) 97 (omega arith), lt-ltb (87 + d) 103 (omega arith)) (omega arith)

pub of_hex : (c : ℕ) → hex_of c ≤ 15 → hex_byte (hex_of c) ≡ c
of_hex c h = go (ltb c 48) refl (ltb c 58) refl (ltb c 97) refl (ltb c 103) refl
  where
    go : (x : Bool) → ltb c 48 ≡ x → (y : Bool) → ltb c 58 ≡ y → (z : Bool) → ltb c 97 ≡ z → (w : Bool) → ltb c 103 ≡ w → hex_byte (hex_of c) ≡ c
    go true p y q z r w s = absurd (let k : 16 ≤ 15 = rw p at h in omega arith)
    go false p true q z r w s =
        let k : 48 ≤ c = ltb-false c 48 p in
        let l : c < 58 = ltb-true c 58 q in
        rw (p, q, lt-ltb (c - 48) 10 (omega arith)) (omega arith)
    go false p false q true r w s = absurd (let k : 16 ≤ 15 = rw (p, q, r) at h in omega arith)
    go false p false q false r true s =
        let k : 97 ≤ c = ltb-false c 97 r in
        rw (p, q, r, s, le-ltb (c - 87) 10 (omega arith)) (omega arith)
    go false p false q false r false s = absurd (let k : 16 ≤ 15 = rw (p, q, r, s) at h in omega arith)

-- reading the k digits of n comes to n, with what is behind them left
pub hex_read : (k j n i : ℕ) (t : List ℕ) → n < 16 ^ k → hex_go (k + j) 0 i (hex k n ++ t) ≡ hex_go j n (i + k) t
unfolding hex hex_go
hex_read zero j n i t h =
    let z : n ≡ 0 = omega arith in
    rw (z, zero-add j, add-zero i)
hex_read (suc k) j n i t h =
    rw (
      append_assoc,
      suc-add k j,
      ← add-suc k j,
      hex_read k (suc j) (n / 16) i (hex_byte (n % 16) ∷ t) (omega arith),
      hex_of_lem (n % 16) (omega arith),
      le-ltb 15 (n % 16) (omega arith),
      div-add-mod' n 16,
      add-suc i k,
    )

pub hex_back : (k n i : ℕ) (t : List ℕ) → n < 16 ^ k → hex_go k 0 i (hex k n ++ t) ≡ Some (n, i + k)
unfolding hex_go
hex_back k n i t h = rw (add-zero k) at (hex_read k 0 n i t h)

-- what is read is the one text: p digits of v stood before, k are read
pub record Hexed (k w n i q : ℕ) (front t : List ℕ) : Type 0 where
  pub text : front ++ take k t ≡ hex q w
  pub next : n ≡ i + k
  pub room : k ≤ length t
  pub small : w < 16 ^ q

hex_snoc : (p v d : ℕ) → d ≤ 15 → hex (suc p) (v * 16 + d) ≡ hex p v ++ (hex_byte d ∷ [])
unfolding hex
hex_snoc p v d h =
    let a : (v * 16 + d) / 16 ≡ v = omega arith in
    let b : (v * 16 + d) % 16 ≡ d = omega arith in
    rw (a, b)

pub hex_one : (t : List ℕ) (k p v i w n : ℕ) → v < 16 ^ p → hex_go k v i t ≡ Some (w, n) → Hexed k w n i (p + k) (hex p v) t
unfolding hex_go
hex_one t zero p v i w n h e =
    let g = some_pair e in
    record { text = rw (add-zero p, g.0) (append-nil (hex p w)); next = rw (add-zero i) (sym g.1); room = omega arith; small = rw (add-zero p, ← g.0) h }
hex_one [] (suc k) p v i w n h e = cc
hex_one (c ∷ t) (suc k) p v i w n h e = go (ltb 15 (hex_of c)) refl (hex_one t k (suc p) (v * 16 + hex_of c) (suc i) w n)
  where
    go : (b : Bool) → ltb 15 (hex_of c) ≡ b
        → (v * 16 + hex_of c < 16 ^ suc p → hex_go k (v * 16 + hex_of c) (suc i) t ≡ Some (w, n) → Hexed k w n (suc i) (suc p + k) (hex (suc p) (v * 16 + hex_of c)) t)
        → Hexed (suc k) w n i (p + suc k) (hex p v) (c ∷ t)
    go true f ih = let g : ◌≡◌ {A = Option (ℕ × ℕ)} None (Some (w, n)) = rw f at e in cc
    go false f ih =
        let d : hex_of c ≤ 15 = ltb-false 15 (hex_of c) f in
        let r = ih (omega arith) (rw f at e) in
        let s : suc p + k ≡ p + suc k = omega arith in
        record {
          text = sym (append_snoc (hex p v) c (take k t)) ∙ (rw (hex_snoc p v (hex_of c) d, of_hex c d, s) at r.text);
          next = omega (arith, r.next);
          room = omega (arith, r.room);
          small = rw s at r.small;
        }

-- writing: the last digit behind the others
pub hex_none : (l : List ℕ) (at k n : ℕ) → k ≡ 0 → l ≡ sets l at (hex k n)
unfolding hex
hex_none l at k n e = rw e

pub hex_last : (l r : List ℕ) (at i k n : ℕ) {b : ℕ} → (k ≡ 0 → ⊥) → r ≡ sets l at (hex (k - 1) (n / 16)) → i ≡ at + (k - 1) → b ≡ hex_byte (n % 16) → set r i b ≡ sets l at (hex k n)
unfolding hex
hex_last l r at i zero n z p q e = absurd (z refl)
hex_last l r at i (suc k) n {b} z p q e =
    let f : suc k - 1 ≡ k = omega arith in
    rw (sets_append, hex_len k (n / 16), e, p, q, f)

pow_up : (k j : ℕ) → 16 ^ k ≤ 16 ^ (k + j)
pow_up k zero = rw (add-zero k) (omega arith)
pow_up k (suc j) = rw (add-suc k j) (omega (arith, pow_up k j))

pub pow_8 : (k : ℕ) → k ≤ 8 → 16 ^ k ≤ 2 ^ 32
pow_8 k h = let e : k + (8 - k) ≡ 8 = omega arith in rw e at (pow_up k (8 - k))
