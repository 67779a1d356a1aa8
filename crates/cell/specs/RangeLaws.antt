-- What a card, soil numbers, a row and a reading that are in range tell, part by part. Assumes nothing.
use Rattle.std.specs.Prelude.{◌≡◌, refl, true, false, ◌&&◌, List, [], ◌∷◌, ℕ, zero, suc, ◌+◌, ◌-◌, ◌≤◌, ◌<◌, min, leb, ltb, eqb, ℤ, pos, negsuc, nat_abs, length, get_or, take, drop, replicate}
use Rattle.std.proofs.Math.Bool.{and-false, and-eq-true_iff}
use Rattle.std.proofs.Common.{suc-le-suc, zero-le, leb-true, ltb-true, eqb-true, le-leb, eq-eqb, take_all, length-take-le, get_or-take, arith}
use Rattle.std.proofs.lemmas.Bool.{lt-leb}
use Rattle.std.specs.Int.Signed.{le_z}
use Rattle.std.proofs.lemmas.List.{length-replicate}
use Rattle.std.proofs.Math.Seq.{take-nil}
use Rattle.std.proofs.Math.Decide.{dec_le}
use Rattle.cell.specs.declared.Card.{Card}
use Rattle.cell.specs.declared.Notice.{Notice}
use Rattle.cell.specs.declared.Reading.{Reading}
use Rattle.cell.specs.Ranges.{counts_ok, none_of, rising_from, share_ok, card_ok, depths_ok, within, soil_ok, soil_of, life_of, next_of, slots_of, queue_of, slots_ok, row_width, form_ok, row_ok, notice_ok, fields_ok}
use Rattle.cell.specs.Sums.{front_width, runoff_at, drain_at, sum_limit, sum_of}
use Rattle.cell.specs.Conj.{told}
use Rattle.cell.specs.QueueLaws.{SlotsIn, slots_in, slots_ok_lem, first_zeros}

-- ---- the card
pub record CardIn (card : Card) : Type 0 where
  pub cells_low : 1 ≤ card.cells
  pub cells_high : card.cells ≤ 256
  pub delays : card.delays ≤ 30
  pub depths : depths_ok card.delays card.depths ≡ true
  pub share_low : 5 ≤ card.share
  pub share_high : card.share ≤ 20

pub card_in : (card : Card) → card_ok card ≡ true → CardIn card
unfolding counts_ok share_ok card_ok
card_in card e =
    let p = told (leb 1 card.cells) (leb card.cells 256 ∷ leb card.delays 30 ∷ depths_ok card.delays card.depths ∷ share_ok card.share ∷ []) e in
    let s = told (leb 5 card.share) (leb card.share 20 ∷ []) (p 4) in
    record { cells_low = leb-true _ _ (p 0); cells_high = leb-true _ _ (p 1); delays = leb-true _ _ (p 2); depths = p 3; share_low = leb-true _ _ (s 0); share_high = leb-true _ _ (s 1) }

-- each depth in use is at least 1, so that none is <= d where d <= 0
above_before : (before : ℕ) (ds : List ℕ) → rising_from before ds ≡ true → (k : ℕ) → k < length ds → before < get_or ds k 0
unfolding rising_from
above_before before [] e k h = absurd (omega arith)
above_before before (d ∷ ds) e zero h = ltb-true _ _ ((and-eq-true_iff _ _).0 ((and-eq-true_iff _ _).0 e).0).0
above_before before (d ∷ ds) e (suc k) h =
    let p = (and-eq-true_iff (ltb before d && leb d 1000000000) (rising_from d ds)).0 e in
    omega (arith, ltb-true before d ((and-eq-true_iff _ _).0 p.0).0, above_before d ds p.1 k (omega arith))

pub depth_least : (card : Card) → card_ok card ≡ true → (k : ℕ) → k < card.delays → 1 ≤ get_or card.depths k 0
unfolding depths_ok
depth_least card e k h =
    let c = card_in card e in
    let p = told (eqb (length card.depths) 30) ((rising_from 0 (take card.delays card.depths) && none_of (drop card.delays card.depths)) ∷ []) c.depths in
    let r = ((and-eq-true_iff _ _).0 (p 1)).0 in
    let l = length-take-le card.delays card.depths (omega (arith, c.delays, eqb-true (length card.depths) 30 (p 0))) in
    rw (get_or-take card.delays card.depths k 0 h) at (above_before 0 (take card.delays card.depths) r k (omega (arith, l)))

-- its counts by themselves: in range, or the first that is not
pub counts_in_lem : (cells delays : ℕ) → counts_ok cells delays ≡ true → (1 ≤ cells) × (cells ≤ 256) × (delays ≤ 30)
unfolding counts_ok
counts_in_lem cells delays e =
    let p = told (leb 1 cells) (leb cells 256 ∷ leb delays 30 ∷ []) e in
    (leb-true _ _ (p 0), leb-true _ _ (p 1), leb-true _ _ (p 2))

pub counts_ok_lem : (cells delays : ℕ) → 1 ≤ cells → cells ≤ 256 → delays ≤ 30 → counts_ok cells delays ≡ true
unfolding counts_ok
counts_ok_lem cells delays a b c = rw (le-leb _ _ a, le-leb _ _ b, le-leb _ _ c)

pub no_cells : (cells delays : ℕ) → cells < 1 → counts_ok cells delays ≡ false
unfolding counts_ok
no_cells cells delays h = rw (lt-leb 1 cells h)

pub many_cells : (cells delays : ℕ) → 256 < cells → counts_ok cells delays ≡ false
unfolding counts_ok
many_cells cells delays h = rw (lt-leb cells 256 h, and-false (leb 1 cells))

pub many_delays : (cells delays : ℕ) → 30 < delays → counts_ok cells delays ≡ false
unfolding counts_ok
many_delays cells delays h = rw (lt-leb delays 30 h, and-false (leb 1 cells && leb cells 256))

-- places that hold 0
pub none_ends : none_of [] ≡ true
unfolding none_of
none_ends = refl

pub none_more : (n : ℕ) (ns : List ℕ) → none_of (n ∷ ns) ≡ (eqb n 0 && none_of ns)
unfolding none_of
none_more n ns = refl

-- ---- the soil numbers
pub record SoilIn (s : List ℤ) : Type 0 where
  pub long : length s ≡ 5
  pub top : nat_abs (get_or s 0 (pos 0)) ≤ 10000000000
  pub etdepth_plain : le_z (pos 0) (get_or s 1 (pos 0)) ≡ true
  pub vadpor_plain : le_z (pos 0) (get_or s 2 (pos 0)) ≡ true
  pub leak_plain : le_z (pos 0) (get_or s 3 (pos 0)) ≡ true
  pub cn_plain : le_z (pos 0) (get_or s 4 (pos 0)) ≡ true
  pub etdepth_low : 1 ≤ (soil_of s).etdepth
  pub etdepth : (soil_of s).etdepth ≤ 100000000
  pub vadpor_low : 1 ≤ (soil_of s).vadpor
  pub vadpor : (soil_of s).vadpor ≤ 1000
  pub leak : (soil_of s).leak ≤ 1000000
  pub cn_low : 1 ≤ (soil_of s).cn
  pub cn : (soil_of s).cn ≤ 100

size_in : (n : ℕ) (z : ℤ) → within (negsuc n) (pos (suc n)) z ≡ true → nat_abs z ≤ suc n
unfolding within
size_in n (pos a) e = leb-true a (suc n) e
size_in n (negsuc a) e = suc-le-suc (leb-true a n ((and-eq-true_iff (leb a n) true).0 e).0)

-- a number between two that are not negative
pub record Plain (low high : ℕ) (z : ℤ) : Type 0 where
  pub sign : le_z (pos 0) z ≡ true
  pub least : low ≤ nat_abs z
  pub most : nat_abs z ≤ high

plain_in : (low high : ℕ) (z : ℤ) → within (pos low) (pos high) z ≡ true → Plain low high z
unfolding within
plain_in low high (pos a) e =
    let p = (and-eq-true_iff (leb low a) (leb a high)).0 e in
    record { sign = le-leb 0 a zero-le; least = leb-true low a p.0; most = leb-true a high p.1 }
plain_in low high (negsuc a) e = let z : ◌≡◌ {A = ℕ} 0 1 = cc in absurd (omega arith)

pub soil_in_lem : (s : List ℤ) → soil_ok s ≡ true → SoilIn s
unfolding soil_ok soil_of
soil_in_lem s e =
    let at : ℕ → ℤ = λ i. get_or s i (pos 0) in
    let p =
    told (eqb (length s) 5)
    (within (negsuc 9999999999) (pos 10000000000) (at 0) ∷ within (pos 1) (pos 100000000) (at 1) ∷ within (pos 1) (pos 1000) (at 2)
    ∷ within (pos 0) (pos 1000000) (at 3) ∷ within (pos 1) (pos 100) (at 4) ∷ []) e in
    let a = plain_in 1 100000000 (at 1) (p 2) in
    let b = plain_in 1 1000 (at 2) (p 3) in
    let c = plain_in 0 1000000 (at 3) (p 4) in
    let d = plain_in 1 100 (at 4) (p 5) in
    record {
      long = eqb-true _ _ (p 0);
      top = size_in 9999999999 (at 0) (p 1);
      etdepth_plain = a.sign;
      vadpor_plain = b.sign;
      leak_plain = c.sign;
      cn_plain = d.sign;
      etdepth_low = a.least;
      etdepth = a.most;
      vadpor_low = b.least;
      vadpor = b.most;
      leak = c.most;
      cn_low = d.least;
      cn = d.most;
    }

-- ---- the row, in any of its forms
pub record FormIn (m : ℕ) (row : List ℕ) : Type 0 where
  pub least : front_width ≤ length row
  pub life : life_of row ≤ 65535
  pub next : next_of row ≤ 1000000
  pub slots : SlotsIn m (slots_of row)
  pub runoff : sum_of runoff_at row ≤ sum_limit
  pub drain : sum_of drain_at row ≤ sum_limit

pub form_in : (m : ℕ) (row : List ℕ) → form_ok m row ≡ true → FormIn m row
unfolding form_ok
form_in m row e =
    let p =
    told (leb front_width (length row))
    (leb (life_of row) 65535 ∷ leb (next_of row) 1000000 ∷ slots_ok m (slots_of row) ∷ leb (sum_of runoff_at row) sum_limit ∷ leb (sum_of drain_at row) sum_limit ∷ []) e in
    record { least = leb-true _ _ (p 0); life = leb-true _ _ (p 1); next = leb-true _ _ (p 2); slots = slots_in m (slots_of row) (p 3); runoff = leb-true _ _ (p 4); drain = leb-true _ _ (p 5) }

pub form_ok_lem : (m : ℕ) (row : List ℕ) → FormIn m row → form_ok m row ≡ true
unfolding form_ok
form_ok_lem m row h =
    simp (le-leb _ _ h.least, le-leb _ _ h.life, le-leb _ _ h.next, slots_ok_lem m (slots_of row) h.slots, le-leb _ _ h.runoff, le-leb _ _ h.drain)

-- and of as many numbers as the card says
pub record RowIn (card : Card) (row : List ℕ) : Type 0 where
  pub long : length row ≡ row_width card
  pub form : FormIn card.delays row

pub row_in : (card : Card) (row : List ℕ) → row_ok card row ≡ true → RowIn card row
unfolding row_ok
row_in card row e =
    let p = (and-eq-true_iff (eqb (length row) (row_width card)) (form_ok card.delays row)).0 e in
    record { long = eqb-true _ _ p.0; form = form_in card.delays row p.1 }

pub row_ok_lem : (card : Card) (row : List ℕ) → RowIn card row → row_ok card row ≡ true
unfolding row_ok
row_ok_lem card row h = simp (eq-eqb _ _ h.long, form_ok_lem card.delays row h.form)

-- ---- a cleared row of w numbers: life 0, next count 0, a cleared queue, and nothing in its sums
get_d_zeros : (w i : ℕ) → ◌≡◌ {A = ℕ} (get_or (replicate w 0) i 0) 0
get_d_zeros zero i = refl
get_d_zeros (suc w) zero = refl
get_d_zeros (suc w) (suc i) = get_d_zeros w i

pub cleared_life : (w : ℕ) → life_of (replicate w 0) ≡ 0
unfolding life_of
cleared_life w = get_d_zeros w 0

pub cleared_next : (w : ℕ) → next_of (replicate w 0) ≡ 0
unfolding next_of
cleared_next w = get_d_zeros w 1

pub cleared_sum : (w at : ℕ) → sum_of at (replicate w 0) ≡ 0
unfolding sum_of
cleared_sum w at = rw (get_d_zeros w at, get_d_zeros w (at + 1))

pub cleared_queue : (w m : ℕ) → queue_of m (replicate w 0) ≡ replicate (min m (w - 2)) 0
unfolding queue_of
cleared_queue zero m = let e : min m (0 - 2) ≡ 0 = omega arith in rw e (take-nil m)
cleared_queue (suc zero) m = let e : min m (1 - 2) ≡ 0 = omega arith in rw e (take-nil m)
cleared_queue (suc (suc w)) m = go (dec_le m w)
  where
    go : Dec (m ≤ w) → ◌≡◌ {A = List ℕ} (take m (replicate w 0)) (replicate (min m (suc (suc w) - 2)) 0)
    go (yes h) = let e : min m (suc (suc w) - 2) ≡ m = omega arith in rw e (first_zeros m w h)
    go (no h) = let e : min m (suc (suc w) - 2) ≡ w = omega arith in rw e (take_all m (replicate w 0) (omega (arith, length-replicate {A = ℕ} w 0)))

-- ---- the reading
pub record FieldsIn (r : Reading) : Type 0 where
  pub life : r.life ≤ 65535
  pub count : r.count ≤ 999999
  pub rain : r.rain ≤ 1000000
  pub irrig : r.irrig ≤ 1000000
  pub septic : r.septic ≤ 1000000
  pub pet : r.pet ≤ 1000000
  pub etmin : r.etmin ≤ r.pet
  pub amc_low : 1 ≤ r.amc
  pub amc : r.amc ≤ 3

pub fields_in : (r : Reading) → fields_ok r ≡ true → FieldsIn r
unfolding fields_ok notice_ok
fields_in r e =
    let p =
    told (leb r.life 65535)
    (leb r.count 999999 ∷ leb r.rain 1000000 ∷ leb r.irrig 1000000 ∷ leb r.septic 1000000 ∷ leb r.etmin 1000000
    ∷ leb r.pet 1000000 ∷ leb r.etmin r.pet ∷ leb 1 r.amc ∷ leb r.amc 3 ∷ []) e in
    record {
      life = leb-true _ _ (p 0);
      count = leb-true _ _ (p 1);
      rain = leb-true _ _ (p 2);
      irrig = leb-true _ _ (p 3);
      septic = leb-true _ _ (p 4);
      pet = leb-true _ _ (p 6);
      etmin = leb-true _ _ (p 7);
      amc_low = leb-true _ _ (p 8);
      amc = leb-true _ _ (p 9);
    }

-- [4] a notice whose life and count are in range
pub notice_ok_lem : (n : Notice) → n.life ≤ 65535 → n.count ≤ 999999 → notice_ok n ≡ true
unfolding notice_ok
notice_ok_lem n l c = rw (le-leb n.life 65535 l, le-leb n.count 999999 c)
