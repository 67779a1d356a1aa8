-- Laws of the outbox: of its form, and of the 30 places seen as the list of those held. Assumes nothing.
use Rattle.std.specs.Prelude.{◌≡◌, refl, Bool, true, false, not, ◌&&◌, leb, ltb, eqb, List, [], ◌∷◌, ◌++◌, ℕ, zero, suc, ◌+◌, ◌-◌, ◌≤◌, ◌<◌, drop, replicate}
use Rattle.std.specs.List.{list_all}
use Rattle.std.proofs.Math.Path.{sym, ap}
use Rattle.std.proofs.Common.{◌∙◌, add-one, append_assoc, arith, leb-true, ltb-true, eqb-true, eq-eqb, drop_of_length-le, get_or-take, take_at, take-suc, drop-cons}
use Rattle.std.proofs.Math.Nat.{sub-zero}
use Rattle.std.proofs.Math.ListN.{length, get_or, take, set, length-append}
use Rattle.std.proofs.Math.Seq.{length-take-le}
use Rattle.std.proofs.lemmas.Bool.{not-true, not-false}
use Rattle.std.proofs.lemmas.List.{set_at}
use Rattle.cell.specs.declared.Entry.{Entry}
use Rattle.cell.specs.declared.Notice.{Notice}
use Rattle.cell.specs.Conj.{told}
use Rattle.cell.specs.Ranges.{notice_of}
use Rattle.outbox.specs.Outbox.{Oldest}
use Rattle.outbox.specs.declared.Outbox.{Outbox}
use Rattle.outbox.specs.Outbox.{bad_form, notice, same, spare, is_spare, padded, held_of, box_of, oldest_of, numbers_ok, in_turn, all_spare, form_ok, given, unless, oldest, with_entry, is_heard, without, acknowledged_of}

-- ---- notices
pub notice_is : (n : Notice) {cell life count : ℕ} → n.cell ≡ cell → n.life ≡ life → n.count ≡ count → n ≡ notice cell life count
notice_is n {cell} {life} {count} p q r =
    ap (λ (x : ℕ). notice x n.life n.count) p ∙ ap (λ (x : ℕ). notice cell x n.count) q ∙ ap (λ (x : ℕ). notice cell life x) r

pub same_is : (a b : Notice) → same a b ≡ true → a ≡ b
unfolding same
same_is a b e =
    let t = told (eqb a.cell b.cell) (eqb a.life b.life ∷ eqb a.count b.count ∷ []) e in
    notice_is a (eqb-true _ _ (t 0)) (eqb-true _ _ (t 1)) (eqb-true _ _ (t 2))

pub same_self : (n : Notice) → same n n ≡ true
unfolding same
same_self n = rw (eq-eqb n.cell n.cell refl, eq-eqb n.life n.life refl, eq-eqb n.count n.count refl)

-- ---- a reader that goes over places: where it stops, a turn, and its end
module _ (due : Notice) (i : ℕ) (ps : List Entry) where
  turn_at : (d : Entry) → i < length ps → in_turn due.cell due.life due.count (drop i ps) ≡ (same (notice_of (get_or ps i d)) due && in_turn due.cell due.life (due.count + 1) (drop (i + 1) ps))
  unfolding in_turn
  turn_at d h = rw (add-one i, drop-cons ps i d h)

  pub turn_stops : {n : Notice} (d : Entry) → i < length ps → n ≡ notice_of (get_or ps i d) → same n due ≡ false → false ≡ in_turn due.cell due.life due.count (drop i ps)
  turn_stops d h e f = sym (turn_at d h ∙ rw (← e, f))

  pub turn_goes : {n : Notice} (d : Entry) → i < length ps → n ≡ notice_of (get_or ps i d) → same n due ≡ true
      → in_turn due.cell due.life (due.count + 1) (drop (i + 1) ps) ≡ in_turn due.cell due.life due.count (drop i ps)
  turn_goes d h e t = sym (turn_at d h ∙ rw (← e, t))

  pub turn_end : length ps ≤ i → in_turn due.cell due.life due.count (drop i ps) ≡ true
  unfolding in_turn
  turn_end h = rw (drop_of_length-le ps h)

-- the same of a reader that counts its places and keeps whether all so far were right
pub turn_on : (cell life count i h : ℕ) (ps : List Entry) (d : Entry) (n : Notice) (ok here : Bool) → i < h → h ≤ length ps
    → here ≡ same n (notice cell life count) → n ≡ notice_of (get_or ps i d)
    → (ok && here && in_turn cell life (count + 1) (drop (i + 1) (take h ps))) ≡ (ok && in_turn cell life count (drop i (take h ps)))
unfolding in_turn
turn_on cell life count i h ps d n true here k l e f =
    let m : length (take h ps) ≡ h = length-take-le h ps l in
    rw (add-one i, drop-cons (take h ps) i d (omega arith), get_or-take h ps i d k, e, f)
turn_on cell life count i h ps d n false here k l e f = refl

pub spare_on : (i : ℕ) (ps : List Entry) (d : Entry) (ok here : Bool) → i < length ps → here ≡ is_spare (get_or ps i d)
    → (ok && here && all_spare (drop (i + 1) ps)) ≡ (ok && all_spare (drop i ps))
unfolding all_spare
spare_on i ps d true here h e = rw (add-one i, drop-cons ps i d h, e)
spare_on i ps d false here h e = refl

pub spare_end : (i : ℕ) (ps : List Entry) → length ps ≤ i → all_spare (drop i ps) ≡ true
unfolding all_spare
spare_end i ps h = rw (drop_of_length-le ps h)

pub spares_all : (ps : List Entry) → list_all is_spare ps ≡ all_spare ps
unfolding all_spare
spares_all [] = refl
spares_all (p ∷ ps) = ap (λ (r : Bool). is_spare p && r) (spares_all ps)

-- ---- what the form says
pub record NumbersIn (b : Outbox) : Type 0 where
  pub cell : b.cell ≤ 255
  pub life : b.life ≤ 65535
  pub next : b.next ≤ 1000000
  pub room : b.held ≤ 30
  pub counts : b.held ≤ b.next

pub numbers_in : (b : Outbox) → numbers_ok b ≡ true → NumbersIn b
unfolding numbers_ok
numbers_in b e =
    let t = told (leb b.cell 255) (leb b.life 65535 ∷ leb b.next 1000000 ∷ leb b.held 30 ∷ leb b.held b.next ∷ []) e in
    record { cell = leb-true _ _ (t 0); life = leb-true _ _ (t 1); next = leb-true _ _ (t 2); room = leb-true _ _ (t 3); counts = leb-true _ _ (t 4) }

pub record FormIn (b : Outbox) : Type 0 where
  pub numbers : NumbersIn b
  pub turn : in_turn b.cell b.life (oldest_of b) (held_of b) ≡ true
  pub rest : all_spare (drop b.held b.places) ≡ true

pub form_in : (b : Outbox) → form_ok b ≡ true → FormIn b
unfolding form_ok
form_in b e =
    let t = told (numbers_ok b) (in_turn b.cell b.life (oldest_of b) (held_of b) ∷ all_spare (drop b.held b.places) ∷ []) e in
    record { numbers = numbers_in b (t 0); turn = t 1; rest = t 2 }

-- the form by its numbers first
pub form_bad : (b : Outbox) → numbers_ok b ≡ false → form_ok b ≡ false
unfolding form_ok
form_bad b e = rw e

pub form_by : (b : Outbox) {turn rest : Bool} → numbers_ok b ≡ true → turn ≡ in_turn b.cell b.life (oldest_of b) (held_of b) → rest ≡ all_spare (drop b.held b.places) → (turn && rest) ≡ form_ok b
unfolding form_ok
form_by b e p q = rw (e, p, q)

-- a check that a call made, and the test of its answer
pub passed : {answer check : Bool} → answer ≡ check → not answer ≡ false → check ≡ true
passed {answer} e t = sym e ∙ not-false answer t

pub failed : {answer check : Bool} → answer ≡ check → not answer ≡ true → check ≡ false
failed {answer} e t = sym e ∙ not-true answer t

-- one turn of a writer that moves the places of a list into spare ones
pub move_turn : (n i : ℕ) (from : List Entry) (d : Entry) → i < length from → i < n → set (take i from ++ replicate (n - i) spare) i (get_or from i d) ≡ take (i + 1) from ++ replicate (n - (i + 1)) spare
move_turn n i from d h k =
    let e : n - i ≡ suc (n - (i + 1)) = omega arith in
    let l : length (take i from) ≡ i = length-take-le i from (omega arith) in
    rw (e, add-one i, take-suc from i d h, append_assoc) (set_at (take i from) spare (replicate (n - suc i) spare) (get_or from i d) i l)

-- ---- the places as lists
-- dropping of a first part
pub drop_take : (k h : ℕ) (ps : List Entry) → drop k (take h ps) ≡ take (h - k) (drop k ps)
drop_take zero h ps = rw (sub-zero h)
drop_take (suc k) zero ps = let z : 0 - suc k ≡ 0 = omega arith in rw z
drop_take (suc k) (suc h) [] = none (suc h - suc k)
  where
    none : (n : ℕ) → [] ≡ take {A = Entry} n []
    none zero = refl
    none (suc n) = refl
drop_take (suc k) (suc h) (p ∷ ps) = let z : suc h - suc k ≡ h - k = omega arith in rw z (drop_take k h ps)

-- one more behind those held
pub padded_more : (ps : List Entry) (p : Entry) → length ps < 30 → set (padded ps) (length ps) p ≡ padded (ps ++ (p ∷ []))
unfolding padded
padded_more ps p h =
    let l : length (ps ++ (p ∷ [])) ≡ length ps + 1 = length-append ps (p ∷ []) in
    let n : 30 - length ps ≡ suc (30 - (length ps + 1)) = omega arith in
    rw (l, n, append_assoc) (set_at ps spare (replicate (30 - (length ps + 1)) spare) p (length ps) refl)

-- another in place of the first
pub padded_first : (p q : Entry) (ps : List Entry) → set (padded (p ∷ ps)) 0 q ≡ padded (q ∷ ps)
unfolding padded
padded_first p q ps = refl

pub first_of : (p : Entry) (ps : List Entry) (d : Entry) → get_or (padded (p ∷ ps)) 0 d ≡ p
unfolding padded
first_of p ps d = refl

-- what an outbox made of a list holds
pub held_is : (cell life next : ℕ) (ps : List Entry) → held_of (box_of cell life next ps) ≡ ps
unfolding box_of held_of padded
held_is cell life next ps = take_at ps (replicate (30 - length ps) spare) (length ps) refl

pub holds_none : (b : Outbox) → b.held ≡ 0 → held_of b ≡ []
unfolding held_of
holds_none b e = rw e

-- ---- what the code makes of an outbox
first_held : (h : ℕ) (ps : List Entry) (d : Entry) → (h ≡ 0 → ⊥) → 0 < length ps → take h ps ≡ get_or ps 0 d ∷ take (h - 1) (drop 1 ps)
first_held zero ps d n k = absurd (n refl)
first_held (suc h) [] d n k = absurd (omega arith)
first_held (suc h) (p ∷ ps) d n k = let e : suc h - 1 ≡ h = omega arith in rw e

module _ (b : Outbox) (len : length b.places ≡ 30) where
  pub first_is : (d : Entry) → (b.held ≡ 0 → ⊥) → held_of b ≡ get_or b.places 0 d ∷ take (b.held - 1) (drop 1 b.places)
  unfolding held_of
  first_is d n = first_held b.held b.places d n (omega arith)

  pub oldest_is : (d : Entry) → (b.held ≡ 0 → ⊥) → Oldest (get_or b.places 0 d) ≡ oldest (held_of b)
  unfolding oldest
  oldest_is d n = rw (first_is d n)

  pub held_length : b.held ≤ 30 → length (held_of b) ≡ b.held
  unfolding held_of
  held_length h = length-take-le b.held b.places (omega arith)

  -- the outbox with one entry more
  pub with_is : (e : Entry) (ps : List Entry) → b.held < 30 → ps ≡ padded (drop 0 (take b.held b.places))
      → record { cell = b.cell; life = b.life; next = b.next + 1; held = b.held + 1; places = set ps b.held e } ≡ with_entry b e
  unfolding with_entry box_of held_of
  with_is e ps h k =
      let l : length (take b.held b.places) ≡ b.held = held_length (omega arith) in
      let m : length (take b.held b.places ++ (e ∷ [])) ≡ b.held + 1 = omega (arith, length-append (take b.held b.places) (e ∷ [])) in
      let s : set ps b.held e ≡ padded (take b.held b.places ++ (e ∷ [])) =
      rw k (rw l at (padded_more (take b.held b.places) e (omega arith))) in
      rw (m, s)

-- ---- an acknowledgement by its tests
pub heard_in : (b : Outbox) (life n : ℕ) → is_heard b life n ≡ true → (life ≡ b.life) × (oldest_of b < n) × (n ≤ b.next)
unfolding is_heard
heard_in b life n e =
    let t = told (eqb life b.life) (ltb (oldest_of b) n ∷ leb n b.next ∷ []) e in
    (eqb-true _ _ (t 0), ltb-true _ _ (t 1), leb-true _ _ (t 2))

pub heard_is : (b : Outbox) (life n : ℕ) (after : Outbox) → form_ok b ≡ true → is_heard b life n ≡ true → after ≡ without b n → given after 0 ≡ acknowledged_of b life n
unfolding acknowledged_of unless
heard_is b life n after f h e = rw (f, h, e)

pub bad_heard : (b : Outbox) (life n : ℕ) → form_ok b ≡ false → given b bad_form ≡ acknowledged_of b life n
unfolding acknowledged_of unless
bad_heard b life n f = rw f

pub not_heard : (b : Outbox) (life n : ℕ) → form_ok b ≡ true → is_heard b life n ≡ false → given b 0 ≡ acknowledged_of b life n
unfolding acknowledged_of unless
not_heard b life n f h = rw (f, h)
