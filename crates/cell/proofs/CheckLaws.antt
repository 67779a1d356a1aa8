-- What is known where every check has passed, and what the order of lives and counts lets through. Assumes nothing.
use Rattle.std.proofs.Math.Path.{◌≡◌, refl, sym}
use Rattle.std.proofs.Common.{ap, ◌∙◌, inl, inr, arith, lt-ltb, le-ltb, ltb-false, eq-eqb, ne_eqb, eqb-true}
use Rattle.std.specs.Prelude.{Bool, true, false, cond, not, ◌&&◌, ◌||◌, ◌⊎◌, List, [], ◌∷◌, ◌++◌, ℕ, ◌≤◌, ◌<◌, ltb, eqb, ℤ, pos, nat_abs, get_or, Ok, Err}
use Rattle.std.proofs.Math.Bool.{and-false}
use Rattle.std.proofs.Math.Decide.{ℕ_discrete}
use Rattle.std.proofs.lemmas.Bool.{not-true, not-false}
use Rattle.head.specs.declared.Head.{Head}
use Rattle.head.specs.declared.Head.TheVariants.{Level, Dry, Inactive, Unusable}
use Rattle.head.specs.Class.{class_of}
use Rattle.head.specs.Level.{level_um}
use Rattle.head.specs.LevelLaws.{level_small}
use Rattle.cell.specs.Answers.{Answer, Verdict}
use Rattle.cell.specs.declared.Card.{Card}
use Rattle.cell.specs.declared.Depth.{Depth}
use Rattle.cell.specs.declared.Entry.{Entry}
use Rattle.cell.specs.declared.Notice.{Notice}
use Rattle.cell.specs.declared.Reading.{Reading}
use Rattle.cell.specs.declared.Refusal.{Refusal}
use Rattle.cell.specs.declared.Refusal.TheVariants.{BadCard, BadLengths, BadCell, BadSoil, BadRow, Old, Gap, BadReading, JammedBucket, UnusableHead, InactiveHead, FullSums}
use Rattle.cell.specs.Parts.{Checked}
use Rattle.cell.specs.Depth.{distance, depth_of}
use Rattle.cell.specs.Ranges.{card_ok, soil_ok, soil_of, row_ok, notice_ok, fields_ok, notice_of, life_of, next_of, queue_of}
use Rattle.cell.specs.RangeLaws.{card_in, soil_in_lem, fields_in}
use Rattle.cell.specs.Refusals.{refusal_number, first_failing, number_of, is_old, is_gap, is_jammed, is_unusable, is_inactive, depth_at, sounded, field_checks, unless, fields_verdict, verdict_of}
use Rattle.cell.specs.Step.{amounts_by, sums_take, judged, final_of, sum_checks, answer_of}
use Rattle.cell.specs.RuleLaws.{depth_le}
use Rattle.cell.specs.Still.{reading_of}
use Rattle.cell.proofs.StillLaws.{fields_as}

-- ---- the checks that an entry has passed where the table stands at d
pub record Passed (card : Card) (soil : List ℤ) (row : List ℕ) (e : Entry) (d : Depth) : Type 0 where
  pub card_ok_lem : card_ok card ≡ true
  pub soil_ok_lem : soil_ok soil ≡ true
  pub row_ok_lem : row_ok card row ≡ true
  pub not_old : is_old (life_of row) (next_of row) (notice_of e) ≡ false
  pub not_gap : is_gap (life_of row) (next_of row) (notice_of e) ≡ false
  pub fields_fine : fields_verdict (get_or soil 0 (pos 0)) e ≡ Ok d

unless_fine : (b : Bool) (why : Refusal) (v : Verdict) (d : Depth) → unless b why v ≡ Ok d → (b ≡ true) × (v ≡ Ok d)
unfolding unless
unless_fine true why v d e = (refl, e)
unless_fine false why v d e = cc

pub passed : (card : Card) (soil : List ℤ) (row : List ℕ) (e : Entry) (d : Depth) → verdict_of card soil row e ≡ Ok d → Passed card soil row e d
unfolding verdict_of
passed card soil row e d f =
    let p1 = unless_fine _ _ _ d f in
    let p2 = unless_fine _ _ _ d p1.1 in
    let p3 = unless_fine _ _ _ d p2.1 in
    let p4 = unless_fine _ _ _ d p3.1 in
    let p5 = unless_fine _ _ _ d p4.1 in
    record { card_ok_lem = p1.0; soil_ok_lem = p2.0; row_ok_lem = p3.0; not_old = not-true _ p4.0; not_gap = not-true _ p5.0; fields_fine = p5.1 }

-- and where all are passed, the verdict is that depth
pub verdict_fine : (card : Card) (soil : List ℤ) (row : List ℕ) (e : Entry) (d : Depth) → Passed card soil row e d → verdict_of card soil row e ≡ Ok d
unfolding verdict_of unless
verdict_fine card soil row e d p = rw (p.card_ok_lem, p.soil_ok_lem, p.row_ok_lem, p.not_old, p.not_gap) p.fields_fine

-- [6] all checks: those up to 10, and then 15
module _ (card : Card) (soil : List ℤ) (row : List ℕ) (e : Entry) (d : Depth) where
  pub final_passed : final_of card soil row e ≡ Ok d → (verdict_of card soil row e ≡ Ok d) × (sums_take card (soil_of soil) e d row ≡ true)
  unfolding final_of judged
  final_passed f = go (verdict_of card soil row e) refl
    where
      go : (v : Verdict) → verdict_of card soil row e ≡ v → (verdict_of card soil row e ≡ Ok d) × (sums_take card (soil_of soil) e d row ≡ true)
      go (Err why) g =
          let s : Err why ≡ Ok d = rw g at f in
          cc
      go (Ok b) g =
          let s : unless (sums_take card (soil_of soil) e b row) FullSums (Ok b) ≡ Ok d = rw g at f in
          let u = unless_fine _ _ _ d s in
          let k : b ≡ d = cc in
          (rw k at g, rw k at u.0)

  pub final_fine : Passed card soil row e d → sums_take card (soil_of soil) e d row ≡ true → final_of card soil row e ≡ Ok d
  unfolding final_of judged unless
  final_fine p taken = rw (verdict_fine card soil row e d p, taken)

-- none of the checks up to 10 refuses with 15
unless_other : (b : Bool) (why : Refusal) (v : Verdict) → ¬ (why ≡ FullSums) → ¬ (v ≡ Err FullSums) → ¬ (unless b why v ≡ Err FullSums)
unfolding unless
unless_other true why v n m e = m e
unless_other false why v n m e = n (cc)

sounded_other : (top : ℤ) (h : Head) → ¬ (sounded top h ≡ Err FullSums)
unfolding sounded
sounded_other top Unusable e = cc
sounded_other top Inactive e = cc
sounded_other top Dry e = cc
sounded_other top (Level x) e = cc

fields_other : (top : ℤ) (e : Entry) → ¬ (fields_verdict top e ≡ Err FullSums)
unfolding fields_verdict
fields_other top (Entry.Reading r) =
    unless_other (fields_ok r) BadReading _ (λ f. cc)
    (unless_other (not (is_jammed r)) JammedBucket _ (λ f. cc)
    (sounded_other top (class_of r.head)))
fields_other top (Entry.Void n) =
    unless_other (notice_ok n) BadReading _ (λ f. cc) (λ f. cc)

pub verdict_other : (card : Card) (soil : List ℤ) (row : List ℕ) (e : Entry) → ¬ (verdict_of card soil row e ≡ Err FullSums)
unfolding verdict_of
verdict_other card soil row e =
    unless_other _ BadCard _ (λ f. cc)
    (unless_other _ BadSoil _ (λ f. cc)
    (unless_other _ BadRow _ (λ f. cc)
    (unless_other _ Old _ (λ f. cc)
    (unless_other _ Gap _ (λ f. cc)
    (fields_other (get_or soil 0 (pos 0)) e)))))

-- check 1 comes first
pub verdict_card : (card : Card) (soil : List ℤ) (row : List ℕ) (e : Entry) → card_ok card ≡ false → verdict_of card soil row e ≡ Err BadCard
unfolding verdict_of unless
verdict_card card soil row e f = rw f

-- a head that passes lies within 20,000,000,000 of a top in range
sounded_le : (top : ℤ) (h : Head) (d : Depth) → nat_abs top ≤ 10000000000 → sounded top h ≡ Ok d → distance d ≤ 20000000000
unfolding sounded distance
sounded_le top (Level x) d t e = let f : depth_of top (level_um x) ≡ d = cc in rw (← f) (depth_le top (level_um x) t (level_small x))
sounded_le top Dry d t e = let f : Depth.Under 20000000000 ≡ d = cc in rw (← f) (omega arith)
sounded_le top Inactive d t e = cc
sounded_le top Unusable d t e = cc

-- where 8, 17 [7], 9 and 10 are passed, so is each
module _ (top : ℤ) (r : Reading) (d : Depth) (f : fields_verdict top (Entry.Reading r) ≡ Ok d) where
  fields_were : (fields_ok r ≡ true) × (not (is_jammed r) ≡ true) × (sounded top (class_of r.head) ≡ Ok d)
  unfolding fields_verdict
  fields_were =
      let p = unless_fine (fields_ok r) BadReading _ d f in
      let q = unless_fine (not (is_jammed r)) JammedBucket _ d p.1 in
      (p.0, q.0, q.1)

  pub rain_passed : r.rain ≤ 600000
  rain_passed = ltb-false 600000 r.rain (not-true _ fields_were.1)

-- the ranges, of the reading that the entry is stepped as
pub checked : (card : Card) (soil : List ℤ) (row : List ℕ) (e : Entry) (d : Depth) → Passed card soil row e d → Checked card (soil_of soil) (reading_of e) d
checked card soil row e d p =
    let c = card_in card p.card_ok_lem in
    let s = soil_in_lem soil p.soil_ok_lem in
    let r = reading_of e in
    let g = fields_were (get_or soil 0 (pos 0)) r d (fields_as (get_or soil 0 (pos 0)) e ∙ p.fields_fine) in
    let f = fields_in r g.0 in
    record {
      delays = c.delays;
      share = c.share_high;
      etdepth = s.etdepth;
      vadpor = s.vadpor;
      leak = s.leak;
      cn_low = s.cn_low;
      cn_high = s.cn;
      life = f.life;
      count = f.count;
      rain = f.rain;
      irrig = f.irrig;
      septic = f.septic;
      pet = f.pet;
      etmin = f.etmin;
      depth = sounded_le (get_or soil 0 (pos 0)) (class_of r.head) d s.top g.2;
    }

-- ---- an entry is in order if it goes on with the row's life at its next count, or starts a higher life at 0
abbrev pub InOrder : ℕ → ℕ → Notice → Type 0
InOrder life next n = ((n.life ≡ life) × (n.count ≡ next)) ⊎ ((life < n.life) × (n.count ≡ 0))

or_off : (a b : Bool) → (a || b) ≡ false → (a ≡ false) × (b ≡ false)
or_off true b e = cc
or_off false b e = (refl, e)

and_off : (a b : Bool) → a ≡ true → (a && b) ≡ false → b ≡ false
and_off true b p e = e
and_off false b p e = cc

-- neither old nor a gap: in order, and the other way round
pub order_is : (life next : ℕ) (n : Notice) → is_old life next n ≡ false → is_gap life next n ≡ false → InOrder life next n
unfolding is_old is_gap
order_is life next n o g = go (ℕ_discrete n.life life)
  where
    p : (ltb n.life life ≡ false) × ((eqb n.life life && ltb n.count next) ≡ false)
    p = or_off (ltb n.life life) (eqb n.life life && ltb n.count next) o

    q : ((eqb n.life life && ltb next n.count) ≡ false) × ((ltb life n.life && not (eqb n.count 0)) ≡ false)
    q = or_off (eqb n.life life && ltb next n.count) (ltb life n.life && not (eqb n.count 0)) g

    go : Dec (n.life ≡ life) → InOrder life next n
    go (yes e) =
        let a : next ≤ n.count = ltb-false _ _ (and_off (eqb n.life life) (ltb n.count next) (eq-eqb _ _ e) p.1) in
        let b : n.count ≤ next = ltb-false _ _ (and_off (eqb n.life life) (ltb next n.count) (eq-eqb _ _ e) q.0) in
        inl (e, omega arith)
    go (no ne) =
        let l : life < n.life = omega (arith, ltb-false n.life life p.0) in
        inr (l, eqb-true _ _ (not-false _ (and_off (ltb life n.life) (not (eqb n.count 0)) (lt-ltb _ _ l) q.1)))

pub order_old : (life next : ℕ) (n : Notice) → InOrder life next n → is_old life next n ≡ false
unfolding is_old
order_old life next n (inl e) = simp (le-ltb n.life life (omega arith), le-ltb n.count next (omega arith), and-false)
order_old life next n (inr e) = simp (le-ltb n.life life (omega arith), ne_eqb n.life life (λ i. omega arith))

pub order_gap : (life next : ℕ) (n : Notice) → InOrder life next n → is_gap life next n ≡ false
unfolding is_gap
order_gap life next n (inl e) = simp (le-ltb next n.count (omega arith), le-ltb life n.life (omega arith), and-false)
order_gap life next n (inr e) = simp (ne_eqb n.life life (λ i. omega arith), eq-eqb n.count 0 e.1, and-false)

-- ---- the number of a verdict is that of the first check that fails
abbrev verdict_number : Verdict → ℕ
verdict_number (Ok d) = 0
verdict_number (Err why) = refusal_number why

unless_number : (b : Bool) (why : Refusal) (v : Verdict) → verdict_number (unless b why v) ≡ cond b (verdict_number v) (refusal_number why)
unfolding unless
unless_number true why v = refl
unless_number false why v = refl

sounded_number : (top : ℤ) (h : Head) → verdict_number (sounded top h) ≡ first_failing ((9, not (is_unusable h)) ∷ (10, not (is_inactive h)) ∷ [])
unfolding sounded
sounded_number top Unusable = refl
sounded_number top Inactive = refl
sounded_number top Dry = refl
sounded_number top (Level x) = refl

fields_number : (top : ℤ) (e : Entry) → verdict_number (fields_verdict top e) ≡ first_failing (field_checks e)
unfolding fields_verdict
fields_number top (Entry.Reading r) = simp (unless_number, sounded_number)
fields_number top (Entry.Void n) = unless_number (notice_ok n) BadReading _

-- ---- a refusal's number is in 1..17
pub refusal_in : (why : Refusal) → (1 ≤ refusal_number why) × (refusal_number why ≤ 17)
refusal_in BadCard = omega arith
refusal_in BadLengths = omega arith
refusal_in BadCell = omega arith
refusal_in BadSoil = omega arith
refusal_in BadRow = omega arith
refusal_in Old = omega arith
refusal_in Gap = omega arith
refusal_in BadReading = omega arith
refusal_in JammedBucket = omega arith
refusal_in UnusableHead = omega arith
refusal_in InactiveHead = omega arith
refusal_in FullSums = omega arith

-- a check that fails is the first that does, whatever comes after it
first_stays : (checks others : List (ℕ × Bool)) → 1 ≤ first_failing checks → first_failing (checks ++ others) ≡ first_failing checks
first_stays [] others h = absurd (omega arith)
first_stays (check ∷ more) others h = go check.1 refl (first_stays more others)
  where
    go : (t : Bool) → check.1 ≡ t → (1 ≤ first_failing more → first_failing (more ++ others) ≡ first_failing more)
        → cond check.1 (first_failing (more ++ others)) check.0 ≡ cond check.1 (first_failing more) check.0
    go true p ih = rw p (ih (rw p at h))
    go false p ih = rw p

-- where 9 and 10 are passed, the depth that 15 is asked at is the verdict's
sounded_at : (top : ℤ) (h : Head) (d : Depth) → sounded top h ≡ Ok d → (is_unusable h ≡ false) × (is_inactive h ≡ false) × (depth_at top h ≡ d)
unfolding sounded depth_at
sounded_at top (Level x) d e = (refl, refl, cc)
sounded_at top Dry d e = (refl, refl, cc)
sounded_at top Inactive d e = cc
sounded_at top Unusable d e = cc

module _ (card : Card) (soil : List ℤ) (row : List ℕ) where
  -- of a void 15 is not asked
  void_takes : (n : Notice) (d : Depth) → ◌≡◌ {A = ℕ} 0 (cond (sums_take card (soil_of soil) (Entry.Void n) d row) 0 15)
  unfolding sums_take
  void_takes n d = refl

  after_fields : (e : Entry) (d : Depth) → fields_verdict (get_or soil 0 (pos 0)) e ≡ Ok d
      → first_failing (field_checks e ++ sum_checks card soil row e) ≡ cond (sums_take card (soil_of soil) e d row) 0 15
  unfolding fields_verdict
  after_fields (Entry.Reading r) d f =
      let u = fields_were (get_or soil 0 (pos 0)) r d f in
      let t = sounded_at (get_or soil 0 (pos 0)) (class_of r.head) d u.2 in
      rw (u.0, u.1, t.0, t.1, t.2)
  after_fields (Entry.Void n) d f = let u = unless_fine (notice_ok n) BadReading _ d f in rw u.0 (void_takes n d)

module _ (card : Card) (soil : List ℤ) (row : List ℕ) (e : Entry) where
  -- 2 and 3 are the site's
  abbrev first_checks : List (ℕ × Bool)
  first_checks =
      (1, card_ok card) ∷ (4, soil_ok soil) ∷ (5, row_ok card row)
      ∷ (6, not (is_old (life_of row) (next_of row) (notice_of e))) ∷ (7, not (is_gap (life_of row) (next_of row) (notice_of e))) ∷ field_checks e

  abbrev pub row_checks : List (ℕ × Bool)
  row_checks = first_checks ++ sum_checks card soil row e

  verdict_number_lem : verdict_number (verdict_of card soil row e) ≡ first_failing first_checks
  unfolding verdict_of
  verdict_number_lem = simp (unless_number, fields_number)

  final_number : verdict_number (final_of card soil row e) ≡ first_failing row_checks
  unfolding final_of judged
  final_number = go (verdict_of card soil row e) refl
    where
      go : (v : Verdict) → verdict_of card soil row e ≡ v
          → verdict_number (judged v (λ d. unless (sums_take card (soil_of soil) e d row) FullSums (Ok d)) (λ why. Err why)) ≡ first_failing row_checks
      go (Ok d) f =
          let p = passed card soil row e d f in
          rw (p.card_ok_lem, p.soil_ok_lem, p.row_ok_lem, p.not_old, p.not_gap) (unless_number (sums_take card (soil_of soil) e d row) FullSums (Ok d) ∙ sym (after_fields card soil row e d p.fields_fine))
      go (Err why) f =
          let n : refusal_number why ≡ first_failing first_checks = sym (ap verdict_number f) ∙ verdict_number_lem in
          n ∙ sym (first_stays first_checks (sum_checks card soil row e) (omega (arith, n, (refusal_in why).0)))

  pub row_number : number_of (answer_of card soil row e) ≡ first_failing row_checks
  unfolding answer_of judged
  row_number = go (final_of card soil row e) ∙ final_number
    where
      go : (v : Verdict) → number_of (judged v (λ d. Ok (amounts_by card (soil_of soil) e d (queue_of card.delays row))) (λ why. Err why)) ≡ verdict_number v
      go (Ok d) = refl
      go (Err why) = refl

pub number_most : (answer : Answer) → number_of answer ≤ 17
number_most (Ok a) = omega arith
number_most (Err why) = (refusal_in why).1
