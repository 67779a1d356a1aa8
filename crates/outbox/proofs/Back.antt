-- The list of those held and the 30 places, there and back: an outbox in its form is the one made of what it holds. Assumes nothing.
-- `Laws.held_is` is the other way round, with nothing asked.
use Rattle.std.specs.Prelude.{◌≡◌, refl, true, ◌&&◌, List, [], ◌∷◌, ℕ, ◌-◌, ◌^◌, ◌<◌, eqb, length, take, drop, replicate}
use Rattle.std.proofs.Common.{sym, ap, ◌∙◌, inl, inr, arith, eqb-true, take-append-drop, length-drop, length-take-le}
use Rattle.std.proofs.Math.Bool.{and-eq-true_iff}
use Rattle.head.specs.declared.Carried.{Carried}
use Rattle.head.specs.Pattern.{pattern_of, carried_of}
use Rattle.head.specs.PatternLaws.{there_and_back}
use Rattle.cell.specs.declared.Entry.{Entry}
use Rattle.cell.specs.declared.Reading.{Reading}
use Rattle.cell.specs.Conj.{told}
use Rattle.outbox.specs.declared.Outbox.{Outbox}
use Rattle.outbox.specs.Outbox.{zeros, spare, is_zero, is_spare, padded, held_of, box_of, all_spare}
use Rattle.outbox.specs.Counts.{Among}
use Rattle.outbox.proofs.Kept.{InForm}
use Rattle.outbox.specs.Laws.{form_in}

-- the head of a reading as it is carried, and that it is what 32 bits stand for, as each that a host hands over is
abbrev pub carried : Reading → Carried
carried r = record { value = r.head; nan = r.nan }

abbrev pub Plain : Entry → Type 0
Plain (Entry.Reading r) = (bits : ℕ) × (bits < 2 ^ 32) × (carried r ≡ carried_of bits)
Plain (Entry.Void n) = Unit {0}

-- a reading whose numbers and head bits are zero is the reading of zeros
of_fields : ℕ → ℕ → ℕ → ℕ → ℕ → ℕ → ℕ → ℕ → ℕ → Carried → Reading
of_fields cell life count rain irrig septic etmin pet amc h =
    record { cell = cell; life = life; count = count; rain = rain; irrig = irrig; septic = septic; etmin = etmin; pet = pet; amc = amc; head = h.value; nan = h.nan }

same_fields : {a b c d e f g h i a' b' c' d' e' f' g' h' i' : ℕ} {k k' : Carried} → a ≡ a' → b ≡ b' → c ≡ c' → d ≡ d' → e ≡ e' → f ≡ f' → g ≡ g' → h ≡ h' → i ≡ i' → k ≡ k'
    → of_fields a b c d e f g h i k ≡ of_fields a' b' c' d' e' f' g' h' i' k'
same_fields p q r s t u v w x y = cc

zero_is : (r : Reading) → is_zero r ≡ true → Plain (Entry.Reading r) → r ≡ zeros
unfolding is_zero of_fields
zero_is r e (bits, small, same) =
    let own = eqb r.cell 0 && eqb r.life 0 && eqb r.count 0 in
    let water = eqb r.rain 0 && eqb r.irrig 0 && eqb r.septic 0 in
    let plants = eqb r.etmin 0 && eqb r.pet 0 && eqb r.amc 0 in
    let t = told own (water ∷ plants ∷ eqb (pattern_of (carried r)) 0 ∷ []) e in
    let a = told (eqb r.cell 0) (eqb r.life 0 ∷ eqb r.count 0 ∷ []) (t 0) in
    let b = told (eqb r.rain 0) (eqb r.irrig 0 ∷ eqb r.septic 0 ∷ []) (t 1) in
    let c = told (eqb r.etmin 0) (eqb r.pet 0 ∷ eqb r.amc 0 ∷ []) (t 2) in
    let z : bits ≡ 0 = sym (there_and_back bits small) ∙ sym (ap pattern_of same) ∙ eqb-true _ _ (t 3) in
    same_fields (eqb-true _ _ (a 0)) (eqb-true _ _ (a 1)) (eqb-true _ _ (a 2)) (eqb-true _ _ (b 0)) (eqb-true _ _ (b 1)) (eqb-true _ _ (b 2)) (eqb-true _ _ (c 0)) (eqb-true _ _ (c 1)) (eqb-true _ _ (c 2))
    (same ∙ ap carried_of z)

spare_is : (p : Entry) → is_spare p ≡ true → Plain p → p ≡ spare
spare_is (Entry.Reading r) e h = ap Entry.Reading (zero_is r e h)
spare_is (Entry.Void n) e h = cc

rest_is : (ps : List Entry) → all_spare ps ≡ true → ((p : Entry) → Among p ps → Plain p) → ps ≡ replicate (length ps) spare
unfolding all_spare
rest_is [] e h = refl
rest_is (p ∷ ps) e h =
    let t = (and-eq-true_iff (is_spare p) (all_spare ps)).0 e in
    let a : p ≡ spare = spare_is p t.0 (h p (inl refl)) in
    let b : ps ≡ replicate (length ps) spare = rest_is ps t.1 (λ q m. h q (inr m)) in
    cc

pub box_is : (b : Outbox) → InForm b → ((p : Entry) → Among p (drop b.held b.places) → Plain p) → box_of b.cell b.life b.next (held_of b) ≡ b
unfolding box_of held_of padded
box_is b v h =
    let f = form_in b v.form in
    let n : length (take b.held b.places) ≡ b.held = length-take-le b.held b.places (omega (arith, f.numbers, v.places)) in
    let d : length (drop b.held b.places) ≡ 30 - b.held = omega (arith, length-drop b.held b.places, v.places) in
    let r : replicate (30 - b.held) spare ≡ drop b.held b.places = sym (rest_is (drop b.held b.places) f.rest h ∙ ap (λ (k : ℕ). replicate k spare) d) in
    rw (n, r, take-append-drop)
