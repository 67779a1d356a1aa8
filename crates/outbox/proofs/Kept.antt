-- Every call leaves an outbox that came in its form in its form, so that one that starts fresh never meets number 23. Assumes nothing.
use Rattle.std.specs.Prelude.{◌≡◌, refl, true, ◌⊎◌, List, [], ◌∷◌, ◌++◌, ℕ, suc, ◌+◌, ◌-◌, ◌≤◌, length, drop, replicate}
use Rattle.std.proofs.Common.{sym, ap, ◌∙◌, inl, inr, arith, lt-ltb, length-append, length-drop}
use Rattle.std.proofs.Math.Path.{subst⁻¹}
use Rattle.std.proofs.lemmas.List.{length-replicate}
use Rattle.std.proofs.Math.Seq.{length-take-le}
use Rattle.cell.specs.declared.Entry.{Entry}
use Rattle.cell.specs.Ranges.{notice_of}
use Rattle.outbox.specs.Outbox.{Oldest}
use Rattle.outbox.specs.declared.Outbox.{Outbox}
use Rattle.outbox.specs.Outbox.{notice, void_of, spare, padded, held_of, box_of, oldest_of, form_ok, fresh_of, is_next, offer_of, added_of, replaced_of, acknowledged_of, swapped_of}
use Rattle.outbox.specs.Laws.{NumbersIn, form_in, held_is}
use Rattle.outbox.specs.Counts.{itself, Counted, counted_more, counted_drop, turn_counts, form_of}
use Rattle.outbox.specs.Brought.{brought}
use Rattle.outbox.proofs.CallLaws.{fresh_is, Adds, adds, Offers, offers, offer_is, Reaches, Removes, removes, Swaps, swaps, next_number}

-- ---- parts of an outbox that was made of a list
box_held : (cell life next : ℕ) (ps : List Entry) → (box_of cell life next ps).held ≡ length ps
unfolding box_of
box_held cell life next ps = refl

box_next : (b : Outbox) (ps : List Entry) (e : Entry) → is_next (box_of b.cell b.life b.next ps) e ≡ is_next b e
unfolding is_next box_of
box_next b ps e = refl

void_stays : (cell life next : ℕ) (e : Entry) (ps : List Entry) → (replaced_of (box_of cell life next (void_of e ∷ ps))).outbox ≡ box_of cell life next (void_of e ∷ ps)
unfolding box_of
void_stays cell life next e ps = go (offers b)
  where
    b : Outbox
    b = box_of cell life next (void_of e ∷ ps)

    go : ((q : Entry) × (qs : List Entry) × Offers b q qs) ⊎ ((brought (offer_of b) ≡ []) × ((replaced_of b).outbox ≡ b)) → (replaced_of b).outbox ≡ b
    go (inl (q, qs, o)) =
        let h : (void_of e) ∷ ps ≡ q ∷ qs = sym (held_is cell life next (void_of e ∷ ps)) ∙ o.holds in
        let p : (void_of e) ≡ q = cc in
        let r : ps ≡ qs = cc in
        o.replaces ∙ rw (← p, ← r)
    go (inr t) = t.1

-- in its form, with its 30 places
pub record InForm (b : Outbox) : Type 0 where
  pub form : form_ok b ≡ true
  pub places : length b.places ≡ 30

box_places : (cell life next : ℕ) (ps : List Entry) → length ps ≤ 30 → length (box_of cell life next ps).places ≡ 30
unfolding box_of padded
box_places cell life next ps h = omega (arith, length-append ps (replicate (30 - length ps) spare), length-replicate (30 - length ps) spare)

of_counts : (cell life next : ℕ) (ps : List Entry) → cell ≤ 255 → life ≤ 65535 → next ≤ 1000000 → length ps ≤ 30 → length ps ≤ next → Counted itself cell life (next - length ps) ps → InForm (box_of cell life next ps)
of_counts cell life next ps c l n k w h = record { form = form_of cell life next ps c l n k w h; places = box_places cell life next ps k }

pub fresh_form : (cell : ℕ) → cell ≤ 255 → InForm (fresh_of cell).outbox
fresh_form cell c = rw (fresh_is cell) (of_counts cell 0 0 [] c (omega arith) (omega arith) (omega arith) (omega arith) tt)

module _ (b : Outbox) (v : InForm b) where
  numbers : NumbersIn b
  numbers = (form_in b v.form).numbers

  long : length (held_of b) ≡ b.held
  unfolding held_of
  long = length-take-le b.held b.places (omega (arith, numbers, v.places))

  counts : Counted itself b.cell b.life (b.next - length (held_of b)) (held_of b)
  counts = subst⁻¹ (λ (n : ℕ). Counted itself b.cell b.life (b.next - n) (held_of b)) long (turn_counts b.cell b.life (oldest_of b) (held_of b) (form_in b v.form).turn)

  pub add_form : (e : Entry) → InForm (added_of b e).outbox
  add_form e = go (adds b e)
    where
      more : length (held_of b ++ (e ∷ [])) ≡ length (held_of b) + 1
      more = length-append (held_of b) (e ∷ [])

      go : Adds b e (added_of b e) → InForm (added_of b e).outbox
      go (inr t) = rw t.1 v
      go (inl t) =
          let c : b.next + 1 - length (held_of b ++ (e ∷ [])) ≡ b.next - length (held_of b) = omega (arith, more, long, numbers) in
          let k : b.next - length (held_of b) + length (held_of b) ≡ b.next = omega (arith, long, numbers) in
          rw t.2 (of_counts b.cell b.life (b.next + 1) (held_of b ++ (e ∷ [])) numbers.cell numbers.life (omega (arith, t.3)) (omega (arith, more, long, t.4)) (omega (arith, more, long, numbers))
          (rw c (counted_more itself b.cell b.life (b.next - length (held_of b)) (held_of b) e counts (rw k t.1))))

  pub replace_form : InForm (replaced_of b).outbox
  replace_form = go (offers b)
    where
      go : ((p : Entry) × (ps : List Entry) × Offers b p ps) ⊎ ((brought (offer_of b) ≡ []) × ((replaced_of b).outbox ≡ b)) → InForm (replaced_of b).outbox
      go (inr t) = rw t.1 v
      go (inl (p, ps, o)) =
          let l : suc (length ps) ≡ b.held = sym (ap length o.holds) ∙ long in
          rw o.replaces (of_counts b.cell b.life b.next (void_of p ∷ ps) numbers.cell numbers.life numbers.next (omega (arith, l, numbers)) (omega (arith, l, numbers)) (rw o.holds at counts))

  pub acknowledge_form : (life n : ℕ) → InForm (acknowledged_of b life n).outbox
  acknowledge_form life n = go (removes b life n)
    where
      go : Removes b life n (acknowledged_of b life n).outbox → InForm (acknowledged_of b life n).outbox
      go (inl t) = rw t.0 v
      go (inr t) =
          let k = n - oldest_of b in
          let d = length-drop k (held_of b) in
          let c : b.next - length (drop k (held_of b)) ≡ b.next - length (held_of b) + k = omega (arith, d, long, numbers, t.0) in
          rw t.1 (of_counts b.cell b.life b.next (drop k (held_of b)) numbers.cell numbers.life numbers.next (omega (arith, d, long, numbers)) (omega (arith, d, long, numbers))
          (rw c (counted_drop itself b.cell b.life (b.next - length (held_of b)) k (held_of b) counts)))

  pub swap_form : (life : ℕ) → InForm (swapped_of b life).outbox
  swap_form life = go (swaps b life)
    where
      go : Swaps b life (swapped_of b life) → InForm (swapped_of b life).outbox
      go (inl t) = rw t.1 v
      go (inr t) = rw t.2 (of_counts b.cell life 0 [] numbers.cell t.3 (omega arith) (omega arith) (omega arith) tt)

  -- ---- the oldest: its life and count are the outbox's, and in range
  module _ (p : Entry) (ps : List Entry) (holds : held_of b ≡ p ∷ ps) where
    pub oldest_is : notice_of p ≡ notice b.cell b.life (oldest_of b)
    oldest_is =
        let c : b.next - length (p ∷ ps) ≡ oldest_of b = omega (arith, sym (ap length holds) ∙ long) in
        (rw holds at counts).0 ∙ ap (notice b.cell b.life) c

    pub oldest_in : ((notice_of p).life ≤ 65535) × ((notice_of p).count ≤ 999999)
    oldest_in =
        let l : suc (length ps) ≡ b.held = sym (ap length holds) ∙ long in
        (rw oldest_is numbers.life, rw oldest_is (omega (arith, l, numbers)))

    -- what is offered after it was replaced
    pub void_offered : offer_of (replaced_of b).outbox ≡ Oldest (void_of p)
    void_offered = go (offers b)
      where
        go : ((q : Entry) × (qs : List Entry) × Offers b q qs) ⊎ ((brought (offer_of b) ≡ []) × ((replaced_of b).outbox ≡ b)) → offer_of (replaced_of b).outbox ≡ Oldest (void_of p)
        go (inl (q, qs, o)) =
            let e : q ≡ p = let h : q ∷ qs ≡ p ∷ ps = sym o.holds ∙ holds in cc in
            offer_is (replaced_of b).outbox replace_form.form (void_of q) qs (ap held_of o.replaces ∙ held_is b.cell b.life b.next (void_of q ∷ qs))
            ∙ ap (λ (x : Entry). Oldest (void_of x)) e
        go (inr t) = let z : p ∷ [] ≡ [] = sym (ap brought (offer_is b v.form p ps holds)) ∙ t.0 in let y : ◌≡◌ {A = ℕ} 0 1 = cc in absurd (omega arith)

  -- replacing a void leaves that void
  pub replaced_again : (replaced_of (replaced_of b).outbox).outbox ≡ (replaced_of b).outbox
  replaced_again = go (offers b)
    where
      go : ((q : Entry) × (qs : List Entry) × Offers b q qs) ⊎ ((brought (offer_of b) ≡ []) × ((replaced_of b).outbox ≡ b)) → (replaced_of (replaced_of b).outbox).outbox ≡ (replaced_of b).outbox
      go (inl (q, qs, o)) = rw o.replaces (void_stays b.cell b.life b.next q qs)
      go (inr t) = ap (λ (x : Outbox). (replaced_of x).outbox) t.1

  -- room that an acknowledgement gave back is used again: the next entry is taken
  pub room_again : (life n : ℕ) (e : Entry) → Reaches b life n → is_next b e ≡ true → (added_of (acknowledged_of b life n).outbox e).number ≡ 0
  room_again life n e h k = go (removes b life n)
    where
      qs : List Entry
      qs = drop (n - oldest_of b) (held_of b)

      go : Removes b life n (acknowledged_of b life n).outbox → (added_of (acknowledged_of b life n).outbox e).number ≡ 0
      go (inl t) = absurd (t.1 v.form h)
      go (inr t) =
          next_number (acknowledged_of b life n).outbox (acknowledge_form life n).form e (rw (t.1, box_next b qs e) k)
          ∙ rw (t.1, box_held b.cell b.life b.next qs, lt-ltb (length qs) 30 (omega (arith, length-drop (n - oldest_of b) (held_of b), long, numbers, h)))
