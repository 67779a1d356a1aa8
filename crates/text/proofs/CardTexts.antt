-- Each card has one text, and what was written is read back. Assumes nothing.
use Rattle.std.specs.Prelude.{◌≡◌, Bool, take, drop, get_or, set, replicate, ltb, eqb, ℤ, refl, List, [], ◌∷◌, ◌++◌, map, true, false, ℕ, zero, suc, ◌+◌, ◌-◌, ◌*◌, ◌≤◌, ◌<◌, length, pos}
use Rattle.std.proofs.Common.{ap, ◌∙◌, zero-add, length-drop, take-append-drop, take_at, drop_at, take_all, drop-cons, length-take-le, add-one, sym, append_assoc, arith, length-append, le-leb, lt-ltb, le-ltb, eq-eqb, ne_eqb, eqb-true}
use mathlib.Core.List.{map-append}
use Rattle.std.proofs.lemmas.Bool.{false≢true}
use Rattle.std.proofs.Math.Nat.{sub-zero}
use Rattle.std.proofs.lemmas.List.{length-map, length-replicate}
use Rattle.std.proofs.lemmas.List.Edits.{sets, sets-eq}
use Rattle.std.proofs.Math.Seq.{length-sets}
use Rattle.text.specs.Reads.{CardRead}
use Rattle.form.specs.Keys.{Key, key_of, key_at, key_text}
use Rattle.form.specs.KeyLaws.{key_one, key_back, key_default, key_elsewhere, key_then, text_none}
use Rattle.cell.specs.declared.Card.{Card}
use Rattle.cell.specs.declared.Refusal.TheVariants.{BadLengths}
use Rattle.cell.specs.Ranges.{counts_ok, none_of}
use Rattle.cell.specs.RangeLaws.{counts_in_lem, counts_ok_lem, none_ends, none_more}
use Rattle.cell.specs.Refusals.{refusal_number, malformed}
use Rattle.form.specs.Form.{Out, form_at, form_text, byte_at}
use Rattle.form.specs.FormLaws.{form_one, form_back, ok_words, apart_stops, parted, unword, cells_take, take_byte, byte_is, byte_seam, small_oks, all_small, and_i, and_1, and_2}
use Rattle.form.specs.Many.{Run, many_at, rows_text, many_fit}
use Rattle.form.specs.RunLaws.{form_length, many_length, good_most}
use Rattle.form.specs.DecLaws.{stops}
use Rattle.form.specs.ManyLaws.{many_one, many_back, ran, rows_front, rows_stops, rows_words, rows_small}
use Rattle.form.specs.Words.{word_of}
use Rattle.text.specs.Lines.{card_form, depth_form, share_form, soil_form}
use Rattle.text.specs.Cards.{Counts, Tail, range_counts, counts_of, unsaid_share, tail_at, Depths, depths_at, bad_line, parse, card_result, soil_result, tail_text, card_text, card_parts, has_text, card_checks}
use Rattle.text.specs.Written.{Written, fits_in, Writes}
use Rattle.text.proofs.WrittenLaws.{no_room, has_room, writes_none, writes_all, writes_text}
use Rattle.form.specs.Put.{sets_step}

map_two : (vs : List ℤ) → map pos (map word_of vs) ≡ map unword vs
map_two [] = refl
map_two (z ∷ vs) = rw (map_two vs)

-- ---- the first line
range_ok : (n a b : ℕ) → (range_counts n a b).ok ≡ true → (range_counts n a b ≡ record { ok = true; next = n; cells = a; delays = b }) × (1 ≤ a) × (a ≤ 256) × (b ≤ 30)
unfolding range_counts
range_ok n a b e = go (counts_ok a b) refl
  where
    go : (x : Bool) → counts_ok a b ≡ x → (range_counts n a b ≡ record { ok = true; next = n; cells = a; delays = b }) × (1 ≤ a) × (a ≤ 256) × (b ≤ 30)
    go true p = let (l, m, d) = counts_in_lem a b p in (rw p, l, m, d)
    go false p = absurd (false≢true (rw p at e))

pub record CountsRead (s : List ℕ) (h : Counts) : Type 0 where
  pub text : take h.next s ≡ form_text card_form (pos h.cells ∷ pos h.delays ∷ [])
  pub room : h.next ≤ length s
  pub some : 1 ≤ h.cells
  pub most : h.cells ≤ 256
  pub few : h.delays ≤ 30

pub head_one : (s : List ℕ) → (counts_of s).ok ≡ true → CountsRead s (counts_of s)
unfolding counts_of
head_one s e = go (form_at card_form s 0).ok refl
  where
    o : Out
    o = form_at card_form s 0

    a : ℕ
    a = word_of (get_or o.vals 0 (pos 0))

    b : ℕ
    b = word_of (get_or o.vals 1 (pos 0))

    go : (x : Bool) → o.ok ≡ x → CountsRead s (counts_of s)
    go false k = absurd (false≢true (rw k at e))
    go true k =
        let r = form_one card_form s 0 refl (omega arith) k in
        let (g, l, m, d) = range_ok o.next a b (rw k at e) in
        let n : length o.vals ≡ 2 = form_length card_form s 0 k in
        let v : ◌≡◌ {A = List ℤ} (pos a ∷ pos b ∷ []) o.vals =
        ap (map unword) (cells_take 2 0 o.vals (omega arith) ∙ take_all 2 o.vals (omega arith)) ∙ ok_words card_form o.vals refl n r.fits in
        rw (k, g) (record { text = rw v r.text; room = r.room; some = l; most = m; few = d })

-- ---- [5] the rest of the line, and the depths before it
pub record TailRead (s : List ℕ) (at : ℕ) (t : Tail) : Type 0 where
  pub text : take t.next s ≡ take at s ++ tail_text t.share
  pub room : t.next ≤ length s

tail_one : (s : List ℕ) (at : ℕ) → at ≤ length s → (tail_at s at).ok ≡ true → TailRead s at (tail_at s at)
unfolding tail_at tail_text
tail_one s at l e = go k.ok refl (eqb (byte_at s k.next) 10) refl
  where
    k : Key
    k = key_at share_form unsaid_share s at

    go : (x : Bool) → k.ok ≡ x → (y : Bool) → eqb (byte_at s k.next) 10 ≡ y → TailRead s at (tail_at s at)
    go false o y g = absurd (false≢true (rw o at e))
    go true o false g = absurd (false≢true (rw (o, g) at e))
    go true o true g =
        let r = key_one share_form unsaid_share refl refl s at refl l o in
        let b : byte_at s k.next ≡ 10 = eqb-true (byte_at s k.next) 10 g in
        rw (o, g) (record {
          text = take_byte s k.next 10 (omega arith) b ∙ ap (λ (x : List ℕ). x ++ (10 ∷ [])) r.text ∙ append_assoc (take at s) (key_text share_form unsaid_share k.word) (10 ∷ []);
          room = (byte_is s k.next 10 (omega arith) b).0;
        })

pub record EndRead (n : ℕ) (s : List ℕ) (at : ℕ) (d : Depths) : Type 0 where
  pub text : take d.tail.next s ≡ take at s ++ (rows_text n depth_form d.vals ++ tail_text d.tail.share)
  pub room : d.tail.next ≤ length s
  pub fits : many_fit n depth_form d.vals ≡ true
  pub count : length d.vals ≡ n

pub depths_one : (n : ℕ) (s : List ℕ) (at : ℕ) → at ≤ length s → (depths_at n s at).tail.ok ≡ true → EndRead n s at (depths_at n s at)
unfolding depths_at
depths_one n s at l e = go (many_at n depth_form s at).ok refl
  where
    d : Run
    d = many_at n depth_form s at

    t : Tail
    t = tail_at s d.next

    go : (x : Bool) → d.ok ≡ x → EndRead n s at (depths_at n s at)
    go false k = absurd (false≢true (rw k at e))
    go true k =
        let r = many_one n depth_form s at refl l k in
        let q = tail_one s d.next r.room (rw k at e) in
        let c : length d.vals ≡ n * 1 = many_length n depth_form s at k in
        rw k (record {
          text = q.text ∙ ap (λ (x : List ℕ). x ++ tail_text t.share) r.text ∙ append_assoc (take at s) (rows_text n depth_form d.vals) (tail_text t.share);
          room = q.room;
          fits = r.fits;
          count = omega arith;
        })

-- the depths of a card come back from it
kept_depths : (n : ℕ) (vs : List ℤ) → many_fit n depth_form vs ≡ true → length vs ≡ n → n ≤ 30
    → map pos (take n (map word_of (sets (replicate 30 (pos 0)) 0 vs))) ≡ vs
kept_depths n vs o c l =
    let z : List ℤ = replicate 30 (pos 0) in
    let e : sets z 0 vs ≡ vs ++ drop (0 + length vs) z = sets-eq vs z 0 (omega arith) in
    rw (e, map-append word_of vs (drop (0 + length vs) z), take_at (map word_of vs) (map word_of (drop (0 + length vs) z)) n (length-map vs word_of ∙ c))
    (map_two vs ∙ rows_words n depth_form vs refl (c ∙ omega arith) o)

-- a card that is read has a good first line, good depths and good soil lines
module _ (s : List ℕ) where
  abbrev counts_in : Counts
  counts_in = counts_of s

  abbrev depths_in : Depths
  depths_in = depths_at counts_in.delays s counts_in.next

  abbrev soil_in : Run
  soil_in = many_at counts_in.cells soil_form s depths_in.tail.next

  all_good : (parse s).line ≡ 0 → (counts_in.ok ≡ true) × (depths_in.tail.ok ≡ true) × (soil_in.ok ≡ true)
  unfolding parse
  all_good e = go counts_in.ok refl depths_in.tail.ok refl soil_in.ok refl
    where
      go : (x : Bool) → counts_in.ok ≡ x → (y : Bool) → depths_in.tail.ok ≡ y → (z : Bool) → soil_in.ok ≡ z → (counts_in.ok ≡ true) × (depths_in.tail.ok ≡ true) × (soil_in.ok ≡ true)
      go false k y l z n = absurd (let q : 1 ≡ 0 = rw k at e in omega arith)
      go true k false l z n = absurd (let q : 1 ≡ 0 = rw (k, l) at e in omega arith)
      go true k true l false n = absurd (let q : soil_in.good + 2 ≡ 0 = rw (k, l, n) at e in omega arith)
      go true k true l true n = (k, l, n)

  -- a malformed line is one of the first 258
  pub line_most : (parse s).line ≤ 258
  unfolding parse
  line_most = go counts_in.ok refl depths_in.tail.ok refl soil_in.ok refl
    where
      go : (x : Bool) → counts_in.ok ≡ x → (y : Bool) → depths_in.tail.ok ≡ y → (z : Bool) → soil_in.ok ≡ z → (parse s).line ≤ 258
      go false k y l z n = rw k (omega arith)
      go true k false l z n = rw (k, l) (omega arith)
      go true k true l false n = rw (k, l, n) (omega (arith, good_most counts_in.cells soil_form s depths_in.tail.next, (head_one s k).most))
      go true k true l true n = rw (k, l, n) (omega arith)

  -- a card that is read has 256 cells at the most
  pub cells_most : (parse s).line ≡ 0 → (parse s).card.cells ≤ 256
  unfolding parse
  cells_most e = let g = all_good e in rw (g.0, g.1, g.2) (head_one s g.0).most

-- what is read as a card is the card's one text
pub card_one : (s : List ℕ) → (parse s).line ≡ 0 → take (parse s).next s ≡ card_text (parse s).card (parse s).soil
unfolding parse card_text card_parts
card_one s e =
    let g = all_good s e in
    let h = counts_in s in
    let d = depths_in s in
    let m = soil_in s in
    let hr = head_one s g.0 in
    let dr = depths_one h.delays s h.next hr.room g.1 in
    let mr = many_one h.cells soil_form s d.tail.next refl dr.room g.2 in
    let a : List ℕ = form_text card_form (pos h.cells ∷ pos h.delays ∷ []) in
    let b : List ℕ = rows_text h.delays depth_form d.vals in
    let t : List ℕ = tail_text d.tail.share in
    let c : List ℕ = rows_text h.cells soil_form m.vals in
    rw (g.0, g.1, g.2, kept_depths h.delays d.vals dr.fits dr.count hr.few)
    (mr.text ∙ ap (λ (x : List ℕ). x ++ c) (dr.text ∙ ap (λ (x : List ℕ). x ++ (b ++ t)) hr.text)
    ∙ append_assoc a (b ++ t) c ∙ ap (λ (x : List ℕ). a ++ x) (append_assoc b t c))

-- ---- what was written is read back
-- a card that a text gives, with its soil numbers
pub record CardFits (c : Card) (soil : List ℤ) : Type 0 where
  pub some : 1 ≤ c.cells
  pub most : c.cells ≤ 256
  pub few : c.delays ≤ 30
  pub depths : many_fit c.delays depth_form (map pos (take c.delays c.depths)) ≡ true
  pub unused : map word_of (sets (replicate 30 (pos 0)) 0 (map pos (take c.delays c.depths))) ≡ c.depths
  pub share : c.share < 4294967296
  pub long : length soil ≡ c.cells * 5
  pub rows : many_fit c.cells soil_form soil ≡ true

depth_parted : (vs : List ℤ) (x : List ℕ) → parted depth_form (form_text depth_form vs ++ x) ≡ true
depth_parted vs x = and_i (stops (form_text depth_form vs ++ x)) true (apart_stops depth_form vs x refl) refl

-- [5] the rest of the line is read back, whatever stands behind it: no line's end can be taken for a share
module _ (share : ℕ) (x : List ℕ) where
  abbrev tk : List ℕ
  tk = key_text share_form unsaid_share share

  tail_as : tail_text share ++ x ≡ tk ++ (10 ∷ x)
  unfolding tail_text
  tail_as = append_assoc tk (10 ∷ []) x

  tail_stops : stops (tail_text share ++ x) ≡ true
  tail_stops = rw tail_as (key_then stops share_form unsaid_share share (10 ∷ x) refl (apart_stops share_form (pos share ∷ []) (10 ∷ x) refl))

  tail_back : (p : List ℕ) → share < 4294967296
      → tail_at (p ++ (tail_text share ++ x)) (length p) ≡ record { ok = true; next = length p + length (tail_text share); share = share }
  unfolding tail_at
  tail_back p l =
      let s : List ℕ = p ++ (tk ++ (10 ∷ x)) in
      let e : length (p ++ tk) ≡ length p + length tk = length-append p tk in
      let a : s ≡ (p ++ tk) ++ (10 ∷ x) = sym (append_assoc p tk (10 ∷ x)) in
      let k : key_at share_form unsaid_share s (length p) ≡ key_of (length p + length tk) share = key_back share_form unsaid_share refl refl share p (10 ∷ x) l refl refl in
      let b : byte_at s (length p + length tk) ≡ 10 = rw (a, ← e) (byte_seam (p ++ tk) 10 x) in
      let z : suc (length p + length tk) ≡ length p + length (tail_text share) = unfold tail_text in simp length-append (omega arith) in
      rw (tail_as, k, b) (ap (λ (n : ℕ). record { ok = true; next = n; share = share }) z)

-- [5] a line that ends right behind its depths has the share that is not said
pub tail_unsaid : (s : List ℕ) (at : ℕ) → byte_at s at ≡ 10 → tail_at s at ≡ record { ok = true; next = suc at; share = unsaid_share }
unfolding tail_at
tail_unsaid s at e =
    let k : key_at share_form unsaid_share s at ≡ key_of at unsaid_share = key_elsewhere 32 (drop 1 share_form) unsaid_share s at refl (λ z. omega (arith, e, z)) in
    rw (k, e)

module _ (c : Card) (soil : List ℤ) (ok : CardFits c soil) where
  abbrev ta : List ℕ
  ta = form_text card_form (pos c.cells ∷ pos c.delays ∷ [])

  abbrev vd : List ℤ
  vd = map pos (take c.delays c.depths)

  abbrev tb : List ℕ
  tb = rows_text c.delays depth_form vd

  depths_count : length vd ≡ c.delays * 1
  depths_count =
      let l : length c.depths ≡ 30 = sym (ap length ok.unused) ∙ length-map (sets (replicate 30 (pos 0)) 0 vd) word_of ∙ length-sets (replicate 30 (pos 0)) 0 vd in
      length-map (take c.delays c.depths) pos ∙ length-take-le c.delays c.depths (omega (arith, ok.few)) ∙ omega arith

  -- the counts and the depths of a card, whatever stands behind them that goes on with no digit
  module _ (x : List ℕ) (st : stops x ≡ true) where
    read_head : counts_of (ta ++ (tb ++ x)) ≡ record { ok = true; next = length ta; cells = c.cells; delays = c.delays }
    unfolding counts_of range_counts
    read_head =
        let p : c.cells < 4294967296 = omega (arith, ok.most) in
        let r : c.delays < 4294967296 = omega (arith, ok.few) in
        let f = form_back card_form (pos c.cells ∷ pos c.delays ∷ []) [] (tb ++ x) refl
        (small_oks card_form (pos c.cells ∷ pos c.delays ∷ []) refl (and_i _ _ (lt-ltb _ _ p) (and_i _ _ (lt-ltb _ _ r) refl)))
        (and_i (stops (tb ++ x)) true (rows_stops depth_form (λ y. refl) c.delays vd x st) refl) in
        let z : 0 + length ta ≡ length ta = omega arith in
        rw (f, z, lt-ltb c.cells 4294967296 p, lt-ltb c.delays 4294967296 r, counts_ok_lem c.cells c.delays ok.some ok.most ok.few)

    read_depths : depths_at c.delays (ta ++ (tb ++ x)) (length ta) ≡ record { tail = tail_at (ta ++ (tb ++ x)) (length ta + length tb); vals = vd }
    unfolding depths_at
    read_depths =
        rw (many_back depth_form x depth_parted (and_i (stops x) true st refl) c.delays vd ta depths_count ok.depths)

  -- [5] the share that a card has unsaid, written out: line 1 is malformed
  pub share_said : (x : List ℕ) → stops x ≡ true → parse ((ta ++ tb) ++ (form_text share_form (pos unsaid_share ∷ []) ++ x)) ≡ bad_line 1
  unfolding parse tail_at
  share_said x st =
      let y : List ℕ = form_text share_form (pos unsaid_share ∷ []) ++ x in
      let sy : stops y ≡ true = apart_stops share_form (pos unsaid_share ∷ []) x refl in
      let k = key_default share_form unsaid_share refl refl (ta ++ tb) x (omega arith) (and_i (stops x) true st refl) in
      let k' = rw (append_assoc ta tb y, length-append ta tb) at k in
      rw (append_assoc ta tb y, read_head y sy, read_depths y sy, k')

  abbrev te : List ℕ
  te = tail_text c.share

  abbrev tc : List ℕ
  tc = rows_text c.cells soil_form soil

  module _ (q : List ℕ) where
    abbrev whole : List ℕ
    whole = ta ++ (tb ++ (te ++ (tc ++ q)))

    as_parts : (ta ++ (tb ++ (te ++ tc))) ++ q ≡ whole
    as_parts = append_assoc ta (tb ++ (te ++ tc)) q ∙ ap (λ (x : List ℕ). ta ++ x) (append_assoc tb (te ++ tc) q ∙ ap (λ (x : List ℕ). tb ++ x) (append_assoc te tc q))

    as_end : whole ≡ (ta ++ tb) ++ (te ++ (tc ++ q))
    as_end = sym (append_assoc ta tb (te ++ (tc ++ q)))

    as_soil : whole ≡ ((ta ++ tb) ++ te) ++ (tc ++ q)
    as_soil = as_end ∙ sym (append_assoc (ta ++ tb) te (tc ++ q))

    read_tail : tail_at whole (length ta + length tb) ≡ record { ok = true; next = length ta + length tb + length te; share = c.share }
    read_tail =
        let l : length (ta ++ tb) ≡ length ta + length tb = length-append ta tb in
        rw (as_end, ← l) (tail_back c.share (tc ++ q) (ta ++ tb) ok.share)

    read_soil : many_at c.cells soil_form whole (length ta + length tb + length te) ≡ ran c.cells (length ta + length tb + length te + length tc) soil
    read_soil =
        let l : length ((ta ++ tb) ++ te) ≡ length ta + length tb + length te = simp length-append (omega arith) in
        rw (as_soil, ← l) (many_back soil_form q (λ vs x. refl) refl c.cells soil ((ta ++ tb) ++ te) ok.long ok.rows)

    whole_length : length ta + length tb + length te + length tc ≡ length (ta ++ (tb ++ (te ++ tc)))
    whole_length = simp length-append (omega arith)

-- the text of a card is read back, whatever bytes stand behind it
pub card_back : (c : Card) (soil : List ℤ) (q : List ℕ) → CardFits c soil
    → parse (card_text c soil ++ q) ≡ record { line = 0; next = length (card_text c soil); card = c; soil = soil }
unfolding parse card_text card_parts
card_back c soil q ok =
    let x : List ℕ = tail_text c.share ++ (rows_text c.cells soil_form soil ++ q) in
    let st : stops x ≡ true = tail_stops c.share (rows_text c.cells soil_form soil ++ q) in
    rw (as_parts c soil ok q, read_head c soil ok x st, read_depths c soil ok x st, read_tail c soil ok q, read_soil c soil ok q, ok.unused)
    (ap (λ (n : ℕ). record { line = 0; next = n; card = c; soil = soil }) (whole_length c soil ok q))

-- [5] a card with the share that is not said has the text that cards had before there was a share
pub text_unsaid : (c : Card) (soil : List ℤ) → c.share ≡ unsaid_share
    → card_text c soil
    ≡ form_text card_form (pos c.cells ∷ pos c.delays ∷ []) ++ (rows_text c.delays depth_form (map pos (take c.delays c.depths)) ++ (10 ∷ rows_text c.cells soil_form soil))
unfolding card_text card_parts tail_text
text_unsaid c soil e = rw (text_none share_form unsaid_share c.share e)

-- ---- writing
pub tail_length : (share : ℕ) → length (tail_text share) ≡ length (key_text share_form unsaid_share share) + 1
unfolding tail_text
tail_length share = length-append (key_text share_form unsaid_share share) (10 ∷ [])

pub tail_put : (share : ℕ) (b0 b1 : List ℕ) (at i : ℕ) → b1 ≡ sets b0 at (key_text share_form unsaid_share share) → i ≡ at + length (key_text share_form unsaid_share share)
    → set b1 i 10 ≡ sets b0 at (tail_text share)
unfolding tail_text
tail_put share b0 b1 at i e1 ei = sets_step b0 at (key_text share_form unsaid_share share) (10 ∷ []) e1 ei refl

module _ (h : List ℤ) (m : ℕ) (ds : List ℤ) (share n : ℕ) (soil : List ℤ) where
  pub parts_length : length (card_parts h m ds share n soil)
      ≡ length (form_text card_form h) + (length (rows_text m depth_form ds) + (length (tail_text share) + length (rows_text n soil_form soil)))
  unfolding card_parts
  parts_length = simp length-append

  pub parts_put : (b0 b1 b2 b3 b4 : List ℕ) (a i j : ℕ)
      → b1 ≡ sets b0 0 (form_text card_form h) → a ≡ 0 + length (form_text card_form h)
      → b2 ≡ sets b1 a (rows_text m depth_form ds) → i ≡ a + length (rows_text m depth_form ds)
      → b3 ≡ sets b2 i (tail_text share) → j ≡ i + length (tail_text share)
      → b4 ≡ sets b3 j (rows_text n soil_form soil)
      → b4 ≡ sets b0 0 (card_parts h m ds share n soil)
  unfolding card_parts
  parts_put b0 b1 b2 b3 b4 a i j e1 ea e2 ei e3 ej e4 =
      let r : List ℕ = rows_text n soil_form soil in
      e4 ∙ sets_step b2 i (tail_text share) r e3 ej refl
      ∙ sets_step b1 a (rows_text m depth_form ds) (tail_text share ++ r) e2 ei refl
      ∙ sets_step b0 0 (form_text card_form h) (rows_text m depth_form ds ++ (tail_text share ++ r)) e1 ea refl

pub vals_turn : (v : List ℤ) (d : List ℕ) (k : ℕ) (z : ℤ) → k < length d → z ≡ pos (get_or d k 0)
    → sets v k (map pos (drop k d)) ≡ sets (set v k z) (k + 1) (map pos (drop (k + 1) d))
vals_turn v d k z h e = rw (add-one k, drop-cons d k 0 h, e)

-- a card that some text gives has its counts in range, and its unused places hold 0
pub text_counts : (c : Card) → has_text c ≡ true → (1 ≤ c.cells) × (c.cells ≤ 256) × (c.delays ≤ 30)
unfolding has_text
text_counts c e = counts_in_lem c.cells c.delays (and_1 (counts_ok c.cells c.delays) (none_of (drop c.delays c.depths)) e)

text_unused : (c : Card) → has_text c ≡ true → none_of (drop c.delays c.depths) ≡ true
unfolding has_text
text_unused c e = and_2 (counts_ok c.cells c.delays) (none_of (drop c.delays c.depths)) e

parts_text : (c : Card) (soil : List ℤ) → c.delays ≤ length c.depths
    → card_parts (pos c.cells ∷ pos c.delays ∷ []) c.delays (map pos c.depths) c.share c.cells soil ≡ card_text c soil
unfolding card_parts card_text
parts_text c soil h =
    let m : ℕ = c.delays in
    let a : List ℕ = take m c.depths in
    let b : List ℕ = drop m c.depths in
    let l : length (map pos a) ≡ m * 1 = length-map a pos ∙ length-take-le m c.depths h ∙ omega arith in
    let e : map pos c.depths ≡ map pos a ++ map pos b = ap (map pos) (sym (take-append-drop m c.depths)) ∙ map-append pos a b in
    ap (λ (x : List ℕ). form_text card_form (pos c.cells ∷ pos c.delays ∷ []) ++ (x ++ (tail_text c.share ++ rows_text c.cells soil_form soil)))
    (ap (rows_text m depth_form) e ∙ rows_front m depth_form (map pos a) (map pos b) l)

-- the text of a card that some text gives, by its values: its length, and what writing its parts gives
module _ (c : Card) (soil : List ℤ) (g : has_text c ≡ true) (l : length c.depths ≡ 30) (h ds : List ℤ) (eh : h ≡ pos c.cells ∷ pos c.delays ∷ []) (ed : ds ≡ map pos c.depths) where
  as_parts_text : card_parts h c.delays ds c.share c.cells soil ≡ card_text c soil
  as_parts_text = rw (eh, ed) (parts_text c soil (omega (arith, l, text_counts c g)))

  pub text_length : length (card_text c soil)
      ≡ length (form_text card_form h) + (length (rows_text c.delays depth_form ds) + (length (tail_text c.share) + length (rows_text c.cells soil_form soil)))
  text_length = ap length (sym as_parts_text) ∙ parts_length h c.delays ds c.share c.cells soil

  pub text_put : (b0 b1 b2 b3 b4 : List ℕ) (a i j : ℕ)
      → b1 ≡ sets b0 0 (form_text card_form h) → a ≡ 0 + length (form_text card_form h)
      → b2 ≡ sets b1 a (rows_text c.delays depth_form ds) → i ≡ a + length (rows_text c.delays depth_form ds)
      → b3 ≡ sets b2 i (tail_text c.share) → j ≡ i + length (tail_text c.share)
      → b4 ≡ sets b3 j (rows_text c.cells soil_form soil)
      → b4 ≡ sets b0 0 (card_text c soil)
  text_put b0 b1 b2 b3 b4 a i j e1 ea e2 ei e3 ej e4 =
      parts_put h c.delays ds c.share c.cells soil b0 b1 b2 b3 b4 a i j e1 ea e2 ei e3 ej e4 ∙ ap (sets b0 0) as_parts_text

-- what the functions that write cite
pub ruleset writing_tails = (tail_length, tail_put)

pub ruleset writing_cards = (text_counts, text_length)

module _ (c : Card) (soil : List ℤ) (b : List ℕ) where
  abbrev Gives : Written → List ℕ → Type 0
  Gives = Writes (card_checks c soil b) (card_text c soil) b

  abbrev Refuses : ℕ → Type 0
  Refuses number = Gives (record { number = number; len = 0 }) b

  pub wrote_none : has_text c ≡ false → Refuses malformed
  wrote_none g = writes_none _ _ _ malformed (omega arith) (rw g)

  module _ (g : has_text c ≡ true) where
    pub wrote_long : (length soil ≡ c.cells * 5 → ⊥) → Refuses (refusal_number BadLengths)
    wrote_long h = writes_none _ _ _ (refusal_number BadLengths) (omega arith) (rw (g, ne_eqb _ _ h))

    module _ (h : length soil ≡ c.cells * 5) where
      pub wrote_odd : many_fit c.cells soil_form soil ≡ false → Refuses malformed
      wrote_odd f = writes_none _ _ _ malformed (omega arith) (rw (g, eq-eqb _ _ h, f))

      module _ (f : many_fit c.cells soil_form soil ≡ true) (n : ℕ) (e : n ≡ length (card_text c soil)) where
        pub wrote_short : length b < n → Refuses malformed
        wrote_short k = writes_none _ _ _ malformed (omega arith) (rw (g, eq-eqb _ _ h, f, no_room (card_text c soil) b n e k))

        pub wrote_all : (l : List ℕ) → n ≤ length b → l ≡ sets b 0 (card_text c soil) → Gives (record { number = 0; len = n }) l
        wrote_all l k p = writes_all _ _ _ l n (rw (g, eq-eqb _ _ h, f, has_room (card_text c soil) b n e k)) e k p

-- ---- what `card::write` accepts is read back
zeros_zero : (n : ℕ) → none_of (map word_of (replicate n (pos 0))) ≡ true
zeros_zero zero = none_ends
zeros_zero (suc n) = none_more 0 (map word_of (replicate n (pos 0))) ∙ zeros_zero n

zero_drop : (m : ℕ) (l : List ℕ) → none_of l ≡ true → none_of (drop m l) ≡ true
zero_drop zero l e = e
zero_drop (suc m) [] e = e
zero_drop (suc m) (x ∷ l) e = zero_drop m l (and_2 (eqb x 0) (none_of l) (sym (none_more x l) ∙ e))

zero_same : (a b : List ℕ) → none_of a ≡ true → none_of b ≡ true → length a ≡ length b → a ≡ b
zero_same [] [] p q l = refl
zero_same [] (y ∷ b) p q l = absurd (omega arith)
zero_same (x ∷ a) [] p q l = absurd (omega arith)
zero_same (x ∷ a) (y ∷ b) p q l =
    let p' = sym (none_more x a) ∙ p in
    let q' = sym (none_more y b) ∙ q in
    let e : x ≡ 0 = eqb-true x 0 (and_1 (eqb x 0) (none_of a) p') in
    let g : y ≡ 0 = eqb-true y 0 (and_1 (eqb y 0) (none_of b) q') in
    rw (e, g, zero_same a b (and_2 (eqb x 0) (none_of a) p') (and_2 (eqb y 0) (none_of b) q') (omega arith))

map_drop : (m : ℕ) (vs : List ℤ) → map word_of (drop m vs) ≡ drop m (map word_of vs)
map_drop zero vs = refl
map_drop (suc m) [] = refl
map_drop (suc m) (z ∷ vs) = map_drop m vs

small_take : (m : ℕ) (ds : List ℕ) → all_small (map pos ds) ≡ true → all_small (map pos (take m ds)) ≡ true
small_take zero ds e = refl
small_take (suc m) [] e = refl
small_take (suc m) (x ∷ ds) e =
    and_i (ltb x 4294967296) (all_small (map pos (take m ds))) (and_1 (ltb x 4294967296) (all_small (map pos ds)) e) (small_take m ds (and_2 (ltb x 4294967296) (all_small (map pos ds)) e))

small_back : (ds : List ℕ) → all_small (map pos ds) ≡ true → map word_of (map pos ds) ≡ ds
small_back [] e = refl
small_back (x ∷ ds) e =
    rw (and_1 (ltb x 4294967296) (all_small (map pos ds)) e, small_back ds (and_2 (ltb x 4294967296) (all_small (map pos ds)) e))

pub card_fits : (c : Card) (soil : List ℤ) → has_text c ≡ true → length soil ≡ c.cells * 5 → many_fit c.cells soil_form soil ≡ true → length c.depths ≡ 30 → all_small (map pos c.depths) ≡ true → c.share < 4294967296 → CardFits c soil
card_fits c soil g n o l a sh =
    let (so, mo, fe) = text_counts c g in
    let m : ℕ = c.delays in
    let t : List ℕ = take m c.depths in
    let at : all_small (map pos t) ≡ true = small_take m c.depths a in
    let lt : length t ≡ m = length-take-le m c.depths (omega arith) in
    let lv : length (map pos t) ≡ m = length-map t pos ∙ lt in
    let z : List ℤ = replicate 30 (pos 0) in
    let r : List ℤ = drop (0 + length (map pos t)) z in
    let e : sets z 0 (map pos t) ≡ map pos t ++ r = sets-eq (map pos t) z 0 (omega arith) in
    let k : map word_of r ≡ drop m c.depths =
    zero_same (map word_of r) (drop m c.depths) (rw (map_drop (0 + length (map pos t)) z) (zero_drop (0 + length (map pos t)) (map word_of z) (zeros_zero 30))) (text_unused c g)
    (length-map r word_of ∙ length-drop (0 + length (map pos t)) z ∙ (omega arith) ∙ sym (length-drop m c.depths)) in
    record {
      some = so;
      most = mo;
      few = fe;
      depths = rows_small m depth_form (map pos t) refl at;
      unused = rw (e, map-append word_of (map pos t) r, small_back t at, k) (take-append-drop m c.depths);
      share = sh;
      long = n;
      rows = o;
    }

-- ---- what a reader accepts can be written again, and gives the very bytes it took
later_zeros : (k n : ℕ) → drop k (replicate n (pos 0)) ≡ replicate (n - k) (pos 0)
later_zeros zero n = ap (λ (j : ℕ). replicate j (pos 0)) (sym (sub-zero n))
later_zeros (suc k) zero = let e : 0 - suc k ≡ 0 = omega arith in rw e
later_zeros (suc k) (suc n) = let e : suc n - suc k ≡ n - k = omega arith in rw e (later_zeros k n)

-- the places of a card that a text leaves unused hold 0
unused_zero : (vs : List ℤ) → length vs ≤ 30 → none_of (drop (length vs) (map word_of (sets (replicate 30 (pos 0)) 0 vs))) ≡ true
unused_zero vs l =
    let z : List ℤ = replicate 30 (pos 0) in
    let e : sets z 0 vs ≡ vs ++ drop (length vs) z = sets-eq vs z 0 (omega (arith, length-replicate 30 (pos 0))) ∙ rw (zero-add (length vs)) in
    rw (e, ← map_drop (length vs) (vs ++ drop (length vs) z), drop_at vs (drop (length vs) z) (length vs) refl, later_zeros (length vs) 30) (zeros_zero (30 - length vs))

pub card_has_text : (s : List ℕ) → (parse s).line ≡ 0
    → (has_text (parse s).card ≡ true) × (length (parse s).soil ≡ (parse s).card.cells * 5) × (many_fit (parse s).card.cells soil_form (parse s).soil ≡ true)
unfolding parse has_text
card_has_text s e =
    let g = all_good s e in
    let h = counts_in s in
    let d = depths_in s in
    let hr = head_one s g.0 in
    let dr = depths_one h.delays s h.next hr.room g.1 in
    let mr = many_one h.cells soil_form s d.tail.next refl dr.room g.2 in
    let u : none_of (drop h.delays (map word_of (sets (replicate 30 (pos 0)) 0 d.vals))) ≡ true = rw dr.count at (unused_zero d.vals (omega (arith, dr.count, hr.few))) in
    rw (g.0, g.1, g.2) (
      rw (counts_ok_lem h.cells h.delays hr.some hr.most hr.few) u,
      many_length h.cells soil_form s d.tail.next g.2,
      mr.fits,
    )

-- a card that is read ends within its text
pub card_next : (s : List ℕ) → (parse s).line ≡ 0 → (parse s).next ≤ length s
unfolding parse
card_next s e =
    let g = all_good s e in
    let h = counts_in s in
    let hr = head_one s g.0 in
    let dr = depths_one h.delays s h.next hr.room g.1 in
    rw (g.0, g.1, g.2) (many_one h.cells soil_form s (depths_in s).tail.next refl dr.room g.2).room

-- ---- a card read with room for 256 cells: its line is the text's, and a good one comes with all of its soil numbers
module _ (s : List ℕ) (b : List ℤ) (room : 1280 ≤ length b) where
  pub result_line : (r : CardRead) → r ≡ card_result (parse s) (length b) → r.line ≡ (parse s).line
  result_line r e = ap (λ (x : CardRead). x.line) e ∙ go (eqb (parse s).line 0) refl
    where
      go : (k : Bool) → eqb (parse s).line 0 ≡ k → (card_result (parse s) (length b)).line ≡ (parse s).line
      go true k = let l = eqb-true (parse s).line 0 k in rw (k, le-ltb (length b) ((parse s).card.cells * 5) (omega (arith, cells_most s l))) (sym l)
      go false k = rw k

  pub result_card : (r : CardRead) → r ≡ card_result (parse s) (length b) → (parse s).line ≡ 0 → r ≡ record { number = 0; taken = (parse s).next; line = 0; card = (parse s).card }
  result_card r e l = e ∙ rw (eq-eqb (parse s).line 0 l, le-ltb (length b) ((parse s).card.cells * 5) (omega (arith, cells_most s l)))

  pub result_soil : (v : List ℤ) → v ≡ soil_result (parse s) b → (parse s).line ≡ 0 → take (5 * (parse s).card.cells) v ≡ (parse s).soil
  result_soil v e l =
      let n = (card_has_text s l).1 in
      rw (e, eq-eqb (parse s).line 0 l, le-ltb (length b) ((parse s).card.cells * 5) (omega (arith, cells_most s l)))
      (take_at (parse s).soil (drop ((parse s).card.cells * 5) b) (5 * (parse s).card.cells) (omega (arith, n)))

-- the card and soil numbers that were read, written into a buffer with room, stand there as the very bytes that were taken
pub card_again : (s b : List ℕ) → (parse s).line ≡ 0 → length (take (parse s).next s) ≤ length b → (w : Written) (after : List ℕ)
    → Writes (card_checks (parse s).card (parse s).soil b) (card_text (parse s).card (parse s).soil) b w after
    → (w ≡ record { number = 0; len = length (take (parse s).next s) }) × (after ≡ take (parse s).next s ++ drop (length (take (parse s).next s)) b)
card_again s b e l w after g =
    let (p, n, f) = card_has_text s e in
    let t = card_one s e in
    let k : fits_in (card_text (parse s).card (parse s).soil) b ≡ true = rw (← t) (le-leb _ _ l) in
    rw t (writes_text (card_checks (parse s).card (parse s).soil b) (card_text (parse s).card (parse s).soil) b w after g (rw (p, eq-eqb _ _ n, f, k)))
