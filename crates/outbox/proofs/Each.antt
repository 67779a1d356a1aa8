-- What holds of each place of an outbox, of spare room and of what comes in holds of each place that a call gives, and there are 30 of them. Assumes nothing.
use Rattle.std.specs.Prelude.{◌≡◌, ◌⊎◌, List, [], ◌∷◌, ◌++◌, ℕ, zero, suc, ◌+◌, ◌-◌, ◌≤◌, take, drop, replicate}
use Rattle.std.proofs.Common.{ap, inl, inr, arith, length-take, length-drop}
use Rattle.std.proofs.Math.ListN.{length, length-append, length-replicate}
use Rattle.cell.specs.declared.Entry.{Entry}
use Rattle.outbox.specs.declared.Outbox.{Outbox}
use Rattle.outbox.specs.Outbox.{void_of, spare, padded, held_of, box_of, oldest_of, fresh_of, offer_of, added_of, replaced_of, acknowledged_of, swapped_of}
use Rattle.outbox.specs.Counts.{Among}
use Rattle.outbox.specs.Brought.{brought}
use Rattle.outbox.proofs.CallLaws.{fresh_is, Adds, adds, Offers, offers, Removes, removes, Swaps, swaps}

module _ (P : Entry → Type 0) where
  abbrev pub Each : List Entry → Type 0
  Each ps = (p : Entry) → Among p ps → P p

  pub record Sound (b : Outbox) : Type 0 where
    pub each : Each b.places
    pub places : length b.places ≡ 30

  each_append : (ps qs : List Entry) → Each ps → Each qs → Each (ps ++ qs)
  each_append [] qs h k x m = k x m
  each_append (p ∷ ps) qs h k x (inl e) = h x (inl e)
  each_append (p ∷ ps) qs h k x (inr m) = each_append ps qs (λ y n. h y (inr n)) k x m

  each_take : (n : ℕ) (ps : List Entry) → Each ps → Each (take n ps)
  each_take zero ps h x m = absurd m
  each_take (suc n) [] h x m = absurd m
  each_take (suc n) (p ∷ ps) h x (inl e) = h x (inl e)
  each_take (suc n) (p ∷ ps) h x (inr m) = each_take n ps (λ y k. h y (inr k)) x m

  each_drop : (n : ℕ) (ps : List Entry) → Each ps → Each (drop n ps)
  each_drop zero ps h x m = h x m
  each_drop (suc n) [] h x m = absurd m
  each_drop (suc n) (p ∷ ps) h x m = each_drop n ps (λ y k. h y (inr k)) x m

  each_one : (p : Entry) → P p → Each (p ∷ [])
  each_one p h x (inl e) = rw e h
  each_one p h x (inr m) = absurd m

  module _ (none : P spare) where
    each_spare : (n : ℕ) → Each (replicate n spare)
    each_spare zero x m = absurd m
    each_spare (suc n) x (inl e) = rw e none
    each_spare (suc n) x (inr m) = each_spare n x m

    box_sound : (cell life next : ℕ) (ps : List Entry) → length ps ≤ 30 → Each ps → Sound (box_of cell life next ps)
    unfolding box_of padded
    box_sound cell life next ps l h =
        record {
          each = each_append ps (replicate (30 - length ps) spare) h (each_spare (30 - length ps));
          places = omega (arith, length-append ps (replicate (30 - length ps) spare), length-replicate (30 - length ps) spare);
        }

    pub fresh_sound : (cell : ℕ) → Sound (fresh_of cell).outbox
    fresh_sound cell = rw (fresh_is cell) (box_sound cell 0 0 [] (omega arith) (λ x m. absurd m))

    module _ (b : Outbox) (s : Sound b) where
      held_each : Each (held_of b)
      unfolding held_of
      held_each = each_take b.held b.places s.each

      held_few : (length (held_of b) ≤ 30) × (length (held_of b) ≤ b.held)
      unfolding held_of
      held_few = rw (length-take b.held b.places) (omega (arith, s.places), omega (arith, s.places))

      pub add_sound : (e : Entry) → P e → Sound (added_of b e).outbox
      add_sound e h = go (adds b e)
        where
          go : Adds b e (added_of b e) → Sound (added_of b e).outbox
          go (inr t) = rw t.1 s
          go (inl t) =
              rw t.2
              (box_sound b.cell b.life (b.next + 1) (held_of b ++ (e ∷ [])) (omega (arith, length-append (held_of b) (e ∷ []), held_few.1, t.4))
              (each_append (held_of b) (e ∷ []) held_each (each_one e h)))

      pub replace_sound : ((e : Entry) → P (void_of e)) → Sound (replaced_of b).outbox
      replace_sound v = go (offers b)
        where
          go : ((p : Entry) × (ps : List Entry) × Offers b p ps) ⊎ ((brought (offer_of b) ≡ []) × ((replaced_of b).outbox ≡ b)) → Sound (replaced_of b).outbox
          go (inr t) = rw t.1 s
          go (inl (p, ps, o)) =
              rw o.replaces
              (box_sound b.cell b.life b.next (void_of p ∷ ps) (omega (arith, ap length o.holds, held_few.0))
              (each_append (void_of p ∷ []) ps (each_one (void_of p) (v p)) (λ x m. (rw o.holds at held_each) x (inr m))))

      pub acknowledge_sound : (life n : ℕ) → Sound (acknowledged_of b life n).outbox
      acknowledge_sound life n = go (removes b life n)
        where
          go : Removes b life n (acknowledged_of b life n).outbox → Sound (acknowledged_of b life n).outbox
          go (inl t) = rw t.0 s
          go (inr t) =
              rw t.1
              (box_sound b.cell b.life b.next (drop (n - oldest_of b) (held_of b)) (omega (arith, length-drop (n - oldest_of b) (held_of b), held_few.0)) (each_drop (n - oldest_of b) (held_of b) held_each))

      pub swap_sound : (life : ℕ) → Sound (swapped_of b life).outbox
      swap_sound life = go (swaps b life)
        where
          go : Swaps b life (swapped_of b life) → Sound (swapped_of b life).outbox
          go (inl t) = rw t.1 s
          go (inr t) = rw t.2 (box_sound b.cell life 0 [] (omega arith) (λ x m. absurd m))
