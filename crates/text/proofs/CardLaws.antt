-- What `card::read` finds, part by part: the laws that its proof cites. Assumes nothing.
use Rattle.std.proofs.Math.Seq.{append_snoc}
use Rattle.std.proofs.lemmas.List.{set_at}
use Rattle.std.specs.Prelude.{◌≡◌, refl, List, ◌++◌, map, Bool, cond, ℕ, ◌+◌, ◌*◌, ◌≤◌, ◌<◌, length, drop, get_or, replicate, ℤ, pos, Option, Some, None, Result, Ok, Err, ok_or, true, false}
use Rattle.std.specs.Result.{MatchResult, result_ok}
use Rattle.std.proofs.Common.{ap, ◌∙◌, arith, sym, add-one, lt-ltb, le-ltb, eq-eqb, ne_eqb, set, take, drop-cons, suc, take-suc, length-take-le}
use Rattle.std.proofs.lemmas.List.Edits.{sets, sets-eq}
use Rattle.cell.specs.declared.Refusal.TheVariants.{BadLengths}
use Rattle.cell.specs.Ranges.{counts_ok}
use Rattle.cell.specs.RangeLaws.{counts_in_lem}
use Rattle.cell.specs.Refusals.{refusal_number, malformed}
use Rattle.text.specs.Reads.{CardRead}
use Rattle.form.specs.Keys.{key_at, said_of}
use Rattle.form.specs.KeyLaws.{said_key, ill_said}
use Rattle.form.specs.Put.{sets_all}
use Rattle.form.specs.Form.{Out, form_at, taken_of, byte_at}
use Rattle.form.specs.Many.{Run, many_at, stood_of}
use Rattle.form.specs.RunLaws.{form_length, many_length, took, not_taken, stood_all, stood_some}
use Rattle.form.specs.Words.{word_of}
use Rattle.cell.specs.declared.Card.{Card}
use Rattle.text.specs.declared.Read.{Read}
use Rattle.text.specs.declared.Unread.{Unread}
use Rattle.text.specs.declared.Unread.TheVariants.{Malformed}
use Rattle.text.specs.Lines.{card_form, depth_form, share_form, soil_form}
use Rattle.text.specs.Cards.{Counts, Tail, no_counts, range_counts, counts_of, counts_of_out, unsaid_share, no_tail, tail_at, Depths, depths_at, card_with, refused_card, card_given, bad_line, parse, card_result, soil_result}

-- of what stood several times only the place after it is kept
ok_some : (r : Result ℕ ℕ) (n : ℕ) → result_ok r ≡ Some n → r ≡ Ok n
ok_some (Ok m) n e = let k : m ≡ n = cc in ap (λ (i : ℕ). Ok i) k
ok_some (Err m) n e = absurd cc

not_ok : (r : Run) → result_ok (stood_of r) ≡ None → r.ok ≡ false
not_ok r e = go r.ok refl
  where
    go : (b : Bool) → r.ok ≡ b → b ≡ false
    go false k = refl
    go true k = absurd (let z : ◌≡◌ {A = Option ℕ} (Some r.next) None = rw k at e in cc)

-- a copy's turn
pub copy_suc : (s d : List ℤ) (k : ℕ) → k < length s → k < length d → set (take k s ++ drop k d) k (get_or s k (pos 0)) ≡ take (suc k) s ++ drop (suc k) d
copy_suc s d k h g =
    rw (drop-cons d k (pos 0) g, take-suc s k (pos 0) h)
    (set_at (take k s) (get_or d k (pos 0)) (drop (suc k) d) (get_or s k (pos 0)) k (length-take-le k s (omega arith)) ∙ sym (append_snoc (take k s) (get_or s k (pos 0)) (drop (suc k) d)))

-- a turn of taking values as 32 bits
pub words_turn : (d : List ℕ) (v : List ℤ) (k w : ℕ) → k < length v → w ≡ word_of (get_or v k (pos 0))
    → sets d k (map word_of (drop k v)) ≡ sets (set d k w) (k + 1) (map word_of (drop (k + 1) v))
words_turn d v k w h e = rw (add-one k, drop-cons v k (pos 0) h, e)

-- ---- the first line
module _ (s : List ℕ) where
  pub head_good : (n : ℕ) (z v : List ℤ) (a b : ℕ) (h : Counts) → Some n ≡ taken_of (form_at card_form s 0) → v ≡ sets z 0 (form_at card_form s 0).vals → length z ≡ 2
      → h ≡ range_counts n a b → a ≡ word_of (get_or v 0 (pos 0)) → b ≡ word_of (get_or v 1 (pos 0)) → h ≡ counts_of s
  unfolding counts_of
  head_good n z v a b h e f l r p q =
      let k = took (form_at card_form s 0) n (sym e) in
      let g : v ≡ (form_at card_form s 0).vals = f ∙ sets_all z (form_at card_form s 0).vals (form_length card_form s 0 k.0 ∙ sym l) in
      rw (k.0, r, p, q, g, k.1)

  pub head_bad : None ≡ taken_of (form_at card_form s 0) → no_counts ≡ counts_of s
  unfolding counts_of
  head_bad e =
      let k = not_taken (form_at card_form s 0) (sym e) in
      rw k

-- [5] its rest
module _ (s : List ℕ) (at : ℕ) where
  abbrev said : Option (ℕ × ℕ)
  said = said_of (key_at share_form unsaid_share s at)

  pub tail_bad : None ≡ said → no_tail ≡ tail_at s at
  unfolding tail_at
  tail_bad e =
      let k = ill_said (key_at share_form unsaid_share s at) (sym e) in
      rw k

  pub tail_other : (w n : ℕ) → Some (w, n) ≡ said → (byte_at s n ≡ 10 → ⊥) → no_tail ≡ tail_at s at
  unfolding tail_at
  tail_other w n e h =
      let k = said_key (key_at share_form unsaid_share s at) w n (sym e) in
      rw (k.0, k.2, ne_eqb _ _ h)

  pub tail_good : (w n : ℕ) → Some (w, n) ≡ said → byte_at s n ≡ 10 → record { ok = true; next = n + 1; share = w } ≡ tail_at s at
  unfolding tail_at
  tail_good w n e h =
      let k = said_key (key_at share_form unsaid_share s at) w n (sym e) in
      rw (k.0, k.2, k.1, eq-eqb _ _ h, add-one n)

module _ (n : ℕ) (s : List ℕ) (from : ℕ) (m : Result ℕ ℕ) (z v : List ℤ) (f : v ≡ sets z 0 (many_at n depth_form s from).vals) where
  abbrev Ends : Tail → Type 0
  Ends r = (r ≡ (depths_at n s from).tail) × (v ≡ sets z 0 (depths_at n s from).vals)

  pub ends_good : (next : ℕ) (r : Tail) → m ≡ stood_of (many_at n depth_form s from) → Some next ≡ result_ok m → r ≡ tail_at s next → Ends r
  unfolding depths_at
  ends_good next r e w g =
      let k = stood_all (many_at n depth_form s from) next (sym e ∙ ok_some m next (sym w)) in
      (rw (k.0, k.1, g), f)

  pub ends_bad : (r : Tail) → m ≡ stood_of (many_at n depth_form s from) → None ≡ result_ok m → r ≡ no_tail → Ends r
  unfolding depths_at
  ends_bad r e w g =
      let k = not_ok (many_at n depth_form s from) (sym (rw e at w)) in
      (rw (k, g), f)

pub head_range : (s : List ℕ) (h : Counts) → h ≡ counts_of s → (h.delays ≤ 30) × (h.cells ≤ 256)
unfolding counts_of range_counts
head_range s h e = rw e (first (form_at card_form s 0))
  where
    by_range : (b : Bool) (n c d : ℕ) → counts_ok c d ≡ b → ((cond b (record { ok = true; next = n; cells = c; delays = d }) no_counts).delays ≤ 30) × ((cond b (record { ok = true; next = n; cells = c; delays = d }) no_counts).cells ≤ 256)
    by_range true n c d p = let (_, m, f) = counts_in_lem c d p in (f, m)
    by_range false n c d p = (omega arith, omega arith)

    first : (o : Out) → ((counts_of_out o).delays ≤ 30) × ((counts_of_out o).cells ≤ 256)
    first o = go o.ok
      where
        go : (b : Bool) → ((cond b (range_counts o.next (word_of (get_or o.vals 0 (pos 0))) (word_of (get_or o.vals 1 (pos 0)))) no_counts).delays ≤ 30) × ((cond b (range_counts o.next (word_of (get_or o.vals 0 (pos 0))) (word_of (get_or o.vals 1 (pos 0)))) no_counts).cells ≤ 256)
        go true = by_range (counts_ok (word_of (get_or o.vals 0 (pos 0))) (word_of (get_or o.vals 1 (pos 0)))) o.next (word_of (get_or o.vals 0 (pos 0))) (word_of (get_or o.vals 1 (pos 0))) refl
        go false = (omega arith, omega arith)

-- what a malformed line comes to
pub given_line : (r : Result (Read Card) Unread) (x e : Unread) (n : ℕ) → r ≡ Err x → x ≡ e → e ≡ Malformed n → card_given r ≡ refused_card malformed n
given_line r x e n p q f = rw (p, q, f)

-- a first line that is not there: line 1 is malformed
pub given_first : {T : Type 0} (o : Option T) (r : Result (Read Card) Unread) (x e : Unread) → r ≡ Err x → x ≡ e → o ≡ None → ◌≡◌ {A = Result T Unread} (Err e) (ok_or o (Malformed 1)) → card_given r ≡ refused_card malformed 1
given_first o r x e p q n v =
    let m : ◌≡◌ {A = Result _ Unread} (Err e) (Err (Malformed 1)) = rw n at v in
    given_line r x e 1 p q cc

-- of the cells' lines: all stand, or the malformed one is told by how many do
pub rows_stand : (r : Result ℕ ℕ) (next : ℕ) → MatchResult r (λ n. ◌≡◌ {A = Result ℕ Unread} (Ok next) (Ok n)) (λ good. ⊥) → r ≡ Ok next
rows_stand (Ok n) next k = let z : next ≡ n = cc in ap (λ (i : ℕ). Ok i) (sym z)
rows_stand (Err good) next k = absurd k

pub rows_stop : (r : Result ℕ ℕ) (e : Unread) {Q : ℕ → Type 0} → MatchResult r (λ n. ◌≡◌ {A = Result ℕ Unread} (Err e) (Ok n)) Q → ((good : ℕ) → Q good → e ≡ Malformed (good + 2)) → (good : ℕ) × (r ≡ Err good) × (e ≡ Malformed (good + 2))
rows_stop (Ok n) e k q = absurd cc
rows_stop (Err good) e k q = (good, refl, q good k)

-- ---- the whole card
abbrev DD : List ℕ → Depths
DD s = depths_at (counts_of s).delays s (counts_of s).next

abbrev MM : List ℕ → Run
MM s = many_at (counts_of s).cells soil_form s (DD s).tail.next

abbrev pub CardEnd : List ℕ → List ℤ → CardRead → List ℤ → Type 0
CardEnd s b r l = (r ≡ card_result (parse s) (length b)) × (l ≡ soil_result (parse s) b)

end_bad : (s : List ℕ) (b : List ℤ) (n : ℕ) (r : CardRead) → parse s ≡ bad_line n → (n ≡ 0 → ⊥) → r ≡ refused_card malformed n → CardEnd s b r b
end_bad s b n r p z e = (rw (p, ne_eqb n 0 z, e), rw (p, ne_eqb n 0 z))

module _ (s : List ℕ) (b : List ℤ) (h : Counts) (eh : h ≡ counts_of s) (r : CardRead) where
  pub end_head : h.ok ≡ false → r ≡ refused_card malformed 1 → CardEnd s b r b
  end_head o e = end_bad s b 1 r p (omega arith) e
    where
      k : (counts_of s).ok ≡ false
      k = sym (ap (λ (x : Counts). x.ok) eh) ∙ o

      p : parse s ≡ bad_line 1
      p = unfold parse in rw k

  module _ (t : Tail) (et : t ≡ (depths_at h.delays s h.next).tail) (o1 : h.ok ≡ true) where
    k1 : (counts_of s).ok ≡ true
    k1 = sym (ap (λ (x : Counts). x.ok) eh) ∙ o1

    t' : t ≡ (DD s).tail
    t' = rw eh at et

    pub end_depths : t.ok ≡ false → r ≡ refused_card malformed 1 → CardEnd s b r b
    end_depths o e = end_bad s b 1 r p (omega arith) e
      where
        k : (DD s).tail.ok ≡ false
        k = sym (ap (λ (x : Tail). x.ok) t') ∙ o

        p : parse s ≡ bad_line 1
        p = unfold parse in rw (k1, k)

    module _ (o2 : t.ok ≡ true) where
      k2 : (DD s).tail.ok ≡ true
      k2 = sym (ap (λ (x : Tail). x.ok) t') ∙ o2

      abbrev Stands : Result ℕ ℕ → Type 0
      Stands m = m ≡ stood_of (many_at h.cells soil_form s t.next)

      pub end_soil : (good : ℕ) → Stands (Err good) → r ≡ refused_card malformed (good + 2) → CardEnd s b r b
      end_soil good em e = end_bad s b (good + 2) r p (omega arith) e
        where
          k : ((MM s).ok ≡ false) × ((MM s).good ≡ good)
          k = stood_some (MM s) good (sym (rw (eh, t') at em))

          p : parse s ≡ bad_line (good + 2)
          p = unfold parse in rw (k1, k2, k.0, k.1)

      stood : (next : ℕ) → Stands (Ok next) → ((MM s).ok ≡ true) × ((MM s).next ≡ next)
      stood next em = stood_all (MM s) next (sym (rw (eh, t') at em))

      fine : (next : ℕ) → Stands (Ok next) → parse s ≡ record { line = 0; next = next; card = card_with h (DD s); soil = (MM s).vals }
      unfolding parse
      fine next em =
          let k = stood next em in
          rw (k1, k2, k.0, eh, k.1)

      pub end_short : (next : ℕ) → Stands (Ok next) → length b < h.cells * 5 → r ≡ refused_card (refusal_number BadLengths) 0 → CardEnd s b r b
      end_short next em l e = (rw (fine next em, lt-ltb _ _ l, e), rw (fine next em, lt-ltb _ _ l))

      pub end_good : (next : ℕ) (ds : List ℕ) (v l : List ℤ) → Stands (Ok next) → h.cells * 5 ≤ length b → v ≡ sets (replicate 30 (pos 0)) 0 (depths_at h.delays s h.next).vals
          → ds ≡ map word_of v → l ≡ sets b 0 (many_at h.cells soil_form s t.next).vals
          → CardEnd s b (record { number = 0; taken = next; line = 0; card = record { cells = h.cells; delays = h.delays; depths = ds; share = t.share } }) l
      end_good next ds v l em q ev ed el =
          let k = (stood next em).0 in
          let el' : l ≡ sets b 0 (MM s).vals = rw (eh, t') at el in
          let hc : h.cells ≡ (counts_of s).cells = ap (λ (x : Counts). x.cells) eh in
          let ln : length (MM s).vals ≡ h.cells * 5 = many_length (counts_of s).cells soil_form s (DD s).tail.next k ∙ omega arith in
          let lz : 0 + length (MM s).vals ≡ h.cells * 5 = omega arith in
          (rw (fine next em, le-ltb _ _ q, ed, ev, eh, t'), rw (fine next em, le-ltb _ _ q) (el' ∙ sets-eq (MM s).vals b 0 (omega arith) ∙ ap (λ (n : ℕ). (MM s).vals ++ drop n b) lz))
