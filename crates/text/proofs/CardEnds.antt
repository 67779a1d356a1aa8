-- The line ends of a card's text: one for each of its lines, and so up to a malformed one. Assumes nothing.
use Rattle.std.specs.Prelude.{◌≡◌, refl, List, [], ◌∷◌, ◌++◌, Bool, true, false, ◌&&◌, ℕ, zero, suc, ◌+◌, ◌≤◌, ◌<◌, length, take, drop, ℤ, pos}
use Rattle.std.proofs.Common.{sym, ap, ◌∙◌, append_assoc, arith, take-append-drop, length-take-le}
use Rattle.std.proofs.lemmas.Bool.{false≢true}
use Rattle.form.specs.Form.{Out, form_at, form_text}
use Rattle.form.specs.FormLaws.{form_one, form_back}
use Rattle.form.specs.Many.{Run, many_at, rows_text, many_fit}
use Rattle.form.specs.RunLaws.{form_length, many_end, many_more, many_stop}
use Rattle.form.specs.ManyLaws.{many_one}
use Rattle.form.specs.Ends.{line_ends}
use Rattle.form.specs.EndLaws.{ends_append, ends_form, ends_rows, ends_key}
use Rattle.form.specs.Keys.{key_text}
use Rattle.text.specs.Lines.{card_form, depth_form, share_form, soil_form}
use Rattle.text.specs.Cards.{Counts, counts_of, unsaid_share, Depths, depths_at, parse, tail_text, card_text, card_parts}
use Rattle.text.proofs.CardTexts.{head_one, depths_one, card_one}

-- line 1 and n soil lines
tail_ends : (share : ℕ) → line_ends (tail_text share) ≡ 1
unfolding tail_text
tail_ends share = let k : List ℕ = key_text share_form unsaid_share share in omega (arith, ends_append k (10 ∷ []), ends_key share_form unsaid_share share refl)

parts_ends : (h : List ℤ) (m : ℕ) (ds : List ℤ) (share n : ℕ) (soil : List ℤ) → line_ends (card_parts h m ds share n soil) ≡ n + 1
unfolding card_parts
parts_ends h m ds share n soil =
    let c : List ℕ = rows_text n soil_form soil in
    let b : List ℕ = rows_text m depth_form ds in
    let t : List ℕ = tail_text share in
    omega (arith, ends_append (form_text card_form h) (b ++ (t ++ c)), ends_append b (t ++ c), ends_append t c, ends_form card_form h, ends_rows m depth_form ds, tail_ends share, ends_rows n soil_form soil)

-- a card that was read has taken as many line ends as it has lines
pub card_ends : (s : List ℕ) → (parse s).line ≡ 0 → line_ends (take (parse s).next s) ≡ (parse s).card.cells + 1
unfolding card_text card_parts
card_ends s e =
    let c = (parse s).card in
    rw (card_one s e) (parts_ends (pos c.cells ∷ pos c.delays ∷ []) c.delays _ c.share c.cells (parse s).soil)

-- ---- a card that is malformed
-- rows that stop: as many as are good stand there, and behind them none
rows_stop : (n : ℕ) (f s : List ℕ) (at : ℕ) → (many_at n f s at).ok ≡ false
    → ((many_at n f s at).good < n) × ((many_at (many_at n f s at).good f s at).ok ≡ true) × ((form_at f s (many_at (many_at n f s at).good f s at).next).ok ≡ false)
rows_stop zero f s at e = absurd (false≢true (sym e ∙ ap (λ (r : Run). r.ok) (many_end 0 f s at refl)))
rows_stop (suc n) f s at e = go (form_at f s at).ok refl (rows_stop n f s (form_at f s at).next)
  where
    later : Run
    later = many_at n f s (form_at f s at).next

    go : (b : Bool) → (form_at f s at).ok ≡ b
        → (later.ok ≡ false → (later.good < n) × ((many_at later.good f s (form_at f s at).next).ok ≡ true) × ((form_at f s (many_at later.good f s (form_at f s at).next).next).ok ≡ false))
        → ((many_at (suc n) f s at).good < suc n) × ((many_at (many_at (suc n) f s at).good f s at).ok ≡ true) × ((form_at f s (many_at (many_at (suc n) f s at).good f s at).next).ok ≡ false)
    go true k ih =
        let m = many_more (suc n) n f s at refl k in
        let r = ih (rw m at e) in
        rw (m, many_more (suc later.good) later.good f s at refl k) (omega (arith, r.0), r.1, r.2)
    go false k ih = rw (many_stop (suc n) n f s at refl k, many_end 0 f s at refl) (omega arith, refl, k)

-- a soil line that does not stand at a place does not stand at the start of what is there
none_there : (s : List ℕ) (at : ℕ) → at ≤ length s → (form_at soil_form s at).ok ≡ false → (form_at soil_form (drop at s) 0).ok ≡ false
none_there s at l e = go o.ok refl
  where
    o : Out
    o = form_at soil_form (drop at s) 0

    after : List ℕ
    after = drop o.next (drop at s)

    go : (b : Bool) → o.ok ≡ b → o.ok ≡ false
    go false k = k
    go true k =
        let q = form_one soil_form (drop at s) 0 refl (omega arith) k in
        let t : take at s ++ (form_text soil_form o.vals ++ after) ≡ s = ap (λ (x : List ℕ). take at s ++ (x ++ after)) (sym q.text) ∙ ap (λ (x : List ℕ). take at s ++ x) (take-append-drop o.next (drop at s)) ∙ take-append-drop at s in
        let b = rw (t, length-take-le at s l) at (form_back soil_form o.vals (take at s) after (form_length soil_form (drop at s) 0 k) q.fits refl) in
        absurd (false≢true (sym e ∙ ap (λ (x : Out). x.ok) b))

-- line 1: the counts in range, a depth for each delay, the share where it is said, and the line's end
abbrev pub first_line_ok : List ℕ → Bool
first_line_ok s = (counts_of s).ok && (depths_at (counts_of s).delays s (counts_of s).next).tail.ok

-- before the malformed line stands nothing, and s has no line 1; or line 1 and k of the cells' lines, and no further one
pub data Malformed (s before rest : List ℕ) : Type 0 where
  at_first : before ≡ [] → first_line_ok s ≡ false → Malformed s before rest
  at_soil : (k : ℕ) (depths : List ℤ) (share : ℕ) (soil : List ℤ) → first_line_ok s ≡ true → k < (counts_of s).cells → many_fit k soil_form soil ≡ true
      → before ≡ card_parts (pos (counts_of s).cells ∷ pos (counts_of s).delays ∷ []) (counts_of s).delays depths share k soil → (form_at soil_form rest 0).ok ≡ false
      → Malformed s before rest

-- the number of the malformed line is one more than the line ends before it
pub record CardStops (s : List ℕ) : Type 0 where
  pub before : List ℕ
  pub rest : List ℕ
  pub parts : s ≡ before ++ rest
  pub number : (parse s).line ≡ line_ends before + 1
  pub lines : Malformed s before rest

pub card_stops : (s : List ℕ) → ¬ ((parse s).line ≡ 0) → CardStops s
unfolding parse card_parts
card_stops s e = go h.ok refl d.tail.ok refl m.ok refl
  where
    h : Counts
    h = counts_of s

    d : Depths
    d = depths_at h.delays s h.next

    m : Run
    m = many_at h.cells soil_form s d.tail.next

    go : (x : Bool) → h.ok ≡ x → (y : Bool) → d.tail.ok ≡ y → (z : Bool) → m.ok ≡ z → CardStops s
    go false k y l z n = record { before = []; rest = s; parts = refl; number = rw k; lines = at_first refl (rw k) }
    go true k false l z n = record { before = []; rest = s; parts = refl; number = rw (k, l); lines = at_first refl (rw (k, l)) }
    go true k true l true n = absurd (e (rw (k, l, n)))
    go true k true l false n =
        let r = rows_stop h.cells soil_form s d.tail.next n in
        let hr = head_one s k in
        let dr = depths_one h.delays s h.next hr.room l in
        let j : Run = many_at m.good soil_form s d.tail.next in
        let q = many_one m.good soil_form s d.tail.next refl dr.room r.1 in
        let vs : List ℤ = pos h.cells ∷ pos h.delays ∷ [] in
        let a : List ℕ = form_text card_form vs in
        let b : List ℕ = rows_text h.delays depth_form d.vals in
        let c : List ℕ = rows_text m.good soil_form j.vals in
        let share : ℕ = d.tail.share in
        let v : List ℕ = tail_text share in
        let t : take j.next s ≡ card_parts vs h.delays d.vals share m.good j.vals =
        q.text ∙ ap (λ (x : List ℕ). x ++ c) (dr.text ∙ ap (λ (x : List ℕ). x ++ (b ++ v)) hr.text)
        ∙ append_assoc a (b ++ v) c ∙ ap (λ (x : List ℕ). a ++ x) (append_assoc b v c) in
        record {
          before = take j.next s;
          rest = drop j.next s;
          parts = sym (take-append-drop j.next s);
          number = rw (k, l, n) (omega (arith, ap line_ends t, parts_ends vs h.delays d.vals share m.good j.vals));
          lines = at_soil m.good d.vals share j.vals (rw (k, l)) r.0 q.fits t (none_there s j.next q.room r.2);
        }
