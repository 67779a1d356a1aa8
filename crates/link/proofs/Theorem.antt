-- THE LINK. From a fresh outbox and a cleared row, however the link loses, repeats and reorders. Assumes of the gateway what `Orderly` says.
use Rattle.std.proofs.Common.{◌≡◌, refl, sym, ap, ◌∙◌, Bool, true, false, cond, ◌⊎◌, inl, inr, List, [], ◌∷◌, ◌++◌, append-nil, ℕ, ◌+◌, ◌-◌, ◌≤◌, ◌<◌, arith, eq-eqb, length, drop, length-drop}
use Rattle.std.proofs.Math.Path.{subst⁻¹}
use Rattle.std.proofs.lemmas.Bool.{ne_eqb}
use Rattle.std.specs.Prelude.{ltb}
use Rattle.std.proofs.Math.Decide.{ℕ_discrete, dec_le}
use Rattle.cell.specs.declared.Entry.{Entry}
use Rattle.cell.specs.declared.Notice.{Notice}
use Rattle.cell.proofs.CheckLaws.{InOrder}
use Rattle.cell.specs.Ranges.{notice_of, cell_of}
use Rattle.outbox.specs.Outbox.{Oldest}
use Rattle.outbox.specs.declared.Outbox.{Outbox}
use Rattle.outbox.specs.Outbox.{full, notice, void_of, held_of, oldest_of, box_of, is_next, offer_of, added_of, replaced_of, acknowledged_of, swapped_of}
use Rattle.outbox.specs.Brought.{brought}
use Rattle.outbox.proofs.CallLaws.{Has, box_has, fresh_is, fresh_cell, Adds, adds, Offers, offers, Reaches, Removes, removes, Swaps, next_number}
use Rattle.outbox.proofs.CallLaws as calls
use Rattle.outbox.proofs.Kept.{InForm, fresh_form, add_form, replace_form, acknowledge_form, swap_form}
use Rattle.outbox.specs.Laws.{held_is}
use Rattle.outbox.specs.Counts.{itself, Among, counted_has}
use Rattle.link.specs.Lists.{life_in, count_in, At, of_life, Holds, FirstPart}
use Rattle.link.specs.Run.{Gateway, Orderly, Ack, Moment, when, entries_in, first, making, voiding, sending, hearing, answering, learning, swapping, Told, Fate, Run, starts, makes, puts_void, sends, hears, answers, learns, swaps}
use Rattle.link.proofs.Lists.{among_either, among_right, at_below, at_one, at_some, life_longer, life_with, life_without, first_at, first_length, first_next}
use Rattle.link.proofs.Node.{InPlace, stays_made, stays_voids, Node, node_start, node_adds, node_drops, node_swaps, node_voids}
use Rattle.link.proofs.Row.{row_start, row_takes, its_count}
use Rattle.link.proofs.Told.{Heard, heard_made, heard_voids, told_some, told_none}
use Rattle.link.proofs.Fates.{Emptied, Accounted, accounted_start, accounted_adds, accounted_hears, accounted_holds, accounted_swaps}

module _ (cell : ℕ) (G : Gateway) (O : Orderly cell G) where
  -- ---- the invariant of a run
  record Inv (box : Outbox) (row : G.State) (made voids emptied sent accepted : List Entry) (acks : List Ack) : Type 0 where
    node : Has (Node cell made voids) box
    fates : Has (Accounted made accepted emptied) box
    posted : (e : Entry) → Among e sent → InPlace made voids e
    lost : (e : Entry) → Among e emptied → InPlace made voids e
    now : Heard cell made voids accepted (G.life row) (G.next row)
    acked : (a : Ack) → Among a acks → Heard cell made voids a.heard a.life a.next
    reached : (a : Ack) → Among a acks → a.next ≤ length (of_life a.life accepted)

  abbrev Holding : Moment G → Type 0
  Holding s = Inv s.box s.row s.made s.voids s.emptied s.sent s.accepted s.acks

  at_start : (g : G.State) → G.life g ≡ 0 → G.next g ≡ 0 → Holding (first cell G g)
  at_start g el en =
      record {
        node = rw (fresh_is cell) (box_has (Node cell [] []) cell 0 0 [] (node_start cell));
        fates = rw (fresh_is cell) (box_has (Accounted [] [] []) cell 0 0 [] (accounted_start cell));
        posted = λ e m. absurd m;
        lost = λ e m. absurd m;
        now = record { row = rw (el, en) (row_start cell); prefix = λ l. tt };
        acked = λ a m. absurd m;
        reached = λ a m. absurd m;
      }

  module _ (s : Moment G) (v : Holding s) where
    -- more made, and more replaced
    with_made : (ys : List Entry) (b : Outbox) → Has (Node cell (s.made ++ ys) s.voids) b → Has (Accounted (s.made ++ ys) s.accepted s.emptied) b
        → Inv b s.row (s.made ++ ys) s.voids s.emptied s.sent s.accepted s.acks
    with_made ys b n k =
        record {
          node = n;
          fates = k;
          posted = λ e m. stays_made s.made ys s.voids e (v.posted e m);
          lost = λ e m. stays_made s.made ys s.voids e (v.lost e m);
          now = heard_made v.now ys;
          acked = λ a m. heard_made (v.acked a m) ys;
          reached = v.reached;
        }

    with_voids : (zs : List Entry) (b : Outbox) → Has (Node cell s.made (s.voids ++ zs)) b → Has (Accounted s.made s.accepted s.emptied) b
        → Inv b s.row s.made (s.voids ++ zs) s.emptied s.sent s.accepted s.acks
    with_voids zs b n k =
        record {
          node = n;
          fates = k;
          posted = λ e m. stays_voids s.made s.voids zs e (v.posted e m);
          lost = λ e m. stays_voids s.made s.voids zs e (v.lost e m);
          now = heard_voids v.now zs;
          acked = λ a m. heard_voids (v.acked a m) zs;
          reached = v.reached;
        }

    keeps_making : (e : Entry) → Holding (making cell G s e)
    keeps_making e = go (adds s.box e)
      where
        go : Adds s.box e (added_of s.box e) → Holding (making cell G s e)
        go (inl t) =
            rw (eq-eqb (added_of s.box e).number 0 t.0, t.2)
            (with_made (e ∷ []) (box_of s.box.cell s.box.life (s.box.next + 1) (held_of s.box ++ (e ∷ [])))
            (box_has (Node cell (s.made ++ (e ∷ [])) s.voids) s.box.cell s.box.life (s.box.next + 1) (held_of s.box ++ (e ∷ [])) (node_adds v.node e t.1))
            (box_has (Accounted (s.made ++ (e ∷ [])) s.accepted s.emptied) s.box.cell s.box.life (s.box.next + 1) (held_of s.box ++ (e ∷ []))
            (accounted_adds v.fates e (ap (λ (n : Notice). n.life) t.1))))
        go (inr t) = rw (ne_eqb (added_of s.box e).number 0 t.0, t.1, append-nil s.made) v

    keeps_voiding : Holding (voiding cell G s)
    keeps_voiding = go (offers s.box)
      where
        go : ((p : Entry) × (ps : List Entry) × Offers s.box p ps) ⊎ ((brought (offer_of s.box) ≡ []) × ((replaced_of s.box).outbox ≡ s.box)) → Holding (voiding cell G s)
        go (inr t) = rw (t.0, t.1, append-nil s.voids) v
        go (inl (p, ps, o)) =
            rw (o.offers, o.replaces)
            (with_voids (void_of p ∷ []) (box_of s.box.cell s.box.life s.box.next (void_of p ∷ ps))
            (box_has (Node cell s.made (s.voids ++ (void_of p ∷ []))) s.box.cell s.box.life s.box.next (void_of p ∷ ps)
            (node_voids p ps (rw o.holds at v.node)))
            (box_has (Accounted s.made s.accepted s.emptied) s.box.cell s.box.life s.box.next (void_of p ∷ ps)
            (accounted_holds v.fates (void_of p ∷ ps) (rw o.holds at v.fates.oldest))))

    keeps_sending : (e : Entry) → Among e (entries_in s.box) → Holding (sending cell G s e)
    keeps_sending e h =
        record {
          node = v.node;
          fates = v.fates;
          posted = λ x m. go x (among_either x s.sent (e ∷ []) m);
          lost = v.lost;
          now = v.now;
          acked = v.acked;
          reached = v.reached;
        }
      where
        go : (x : Entry) → Among x s.sent ⊎ Among x (e ∷ []) → InPlace s.made s.voids x
        go x (inr (inr x3)) = elim x3 [ ]
        go x (inl m) = v.posted x m
        go x (inr (inl k)) = rw k (v.node.placed e h)

    keeps_hearing : (c : G.Call) (taken : Bool) (h : G.State) → G.Gives s.row c taken h → Among (G.brings c) s.sent ⊎ ¬ (cell_of (G.brings c) ≡ cell) → Holding (hearing cell G s c taken h)
    keeps_hearing c taken h gives w =
        record {
          node = v.node;
          fates = accounted_hears v.fates (when taken (G.brings c));
          posted = v.posted;
          lost = v.lost;
          now = go taken gives w;
          acked = v.acked;
          reached = λ a m. omega (arith, v.reached a m, life_longer a.life s.accepted (when taken (G.brings c)));
        }
      where
        e : Entry
        e = G.brings c

        go : (t : Bool) → G.Gives s.row c t h → Among e s.sent ⊎ ¬ (cell_of e ≡ cell) → Heard cell s.made s.voids (s.accepted ++ when t e) (G.life h) (G.next h)
        go false g k = rw (append-nil s.accepted, (O.quiet s.row h c g).0, (O.quiet s.row h c g).1) v.now
        go true g (inr n) = absurd (n (O.own s.row h c g))
        go true g (inl m) =
            record {
              row = rw ((O.after s.row h c g).0, (O.after s.row h c g).1) (row_takes v.now.row e (O.own s.row h c g) (O.order s.row h c g));
              prefix = λ l. next l (ℕ_discrete (life_in e) l);
            }
          where
            stands : InPlace s.made s.voids e
            stands = v.posted e m

            next : (l : ℕ) → Dec (life_in e ≡ l) → FirstPart s.voids (of_life l (s.accepted ++ (e ∷ []))) (of_life l s.made)
            next l (yes k) =
                rw (life_with l s.accepted e k)
                (first_next s.voids (of_life l s.accepted) (of_life l s.made) e stands.was (v.now.prefix l)
                (rw (← k, its_count v.now.row e (O.order s.row h c g)) stands.at) stands.held)
            next l (no k) = rw (life_without l s.accepted e k) (v.now.prefix l)

    keeps_answering : Holding (answering cell G s)
    keeps_answering =
        record {
          node = v.node;
          fates = v.fates;
          posted = v.posted;
          lost = v.lost;
          now = v.now;
          acked = λ a m. go a (among_either a s.acks (sent ∷ []) m);
          reached = λ a m. far a (among_either a s.acks (sent ∷ []) m);
        }
      where
        sent : Ack
        sent = record { life = G.life s.row; next = G.next s.row; heard = s.accepted }

        go : (a : Ack) → Among a s.acks ⊎ Among a (sent ∷ []) → Heard cell s.made s.voids a.heard a.life a.next
        go a (inr (inr x0)) = elim x0 [ ]
        go a (inl m) = v.acked a m
        go a (inr (inl k)) = rw k v.now

        far : (a : Ack) → Among a s.acks ⊎ Among a (sent ∷ []) → a.next ≤ length (of_life a.life s.accepted)
        far a (inr (inr x0)) = elim x0 [ ]
        far a (inl m) = v.reached a m
        far a (inr (inl k)) = rw k (omega (arith, v.now.row.present))

    keeps_learning : (a : Ack) → Among a s.acks → Holding (learning cell G s a)
    keeps_learning a m = go (removes s.box a.life a.next)
      where
        go : Removes s.box a.life a.next (acknowledged_of s.box a.life a.next).outbox → Holding (learning cell G s a)
        go (inl t) = rw t.0 v
        go (inr t) =
            let qs = drop (a.next - oldest_of s.box) (held_of s.box) in
            let low : s.box.next - length qs ≤ length (of_life s.box.life s.accepted) =
            omega (arith, v.reached a m, ap (λ (l : ℕ). length (of_life l s.accepted)) t.0.0, t.0, v.node.whole, v.node.reach, length-drop (a.next - oldest_of s.box) (held_of s.box)) in
            rw t.1
            (record {
              node =
                  box_has (Node cell s.made s.voids) s.box.cell s.box.life s.box.next qs
                  (node_drops v.node (a.next - oldest_of s.box) (omega (arith, t.0, v.node.whole, v.node.reach)));
              fates = box_has (Accounted s.made s.accepted s.emptied) s.box.cell s.box.life s.box.next qs (accounted_holds v.fates qs low);
              posted = v.posted;
              lost = v.lost;
              now = v.now;
              acked = v.acked;
              reached = v.reached;
            })

    keeps_swapping : (l : ℕ) → Holding (swapping cell G s l)
    keeps_swapping l = go (calls.swaps s.box l)
      where
        held : List Entry
        held = held_of s.box

        lost_then : (e : Entry) → Among e s.emptied ⊎ Among e held → InPlace s.made s.voids e
        lost_then e (inl m) = v.lost e m
        lost_then e (inr m) = v.node.placed e m

        go : Swaps s.box l (swapped_of s.box l) → Holding (swapping cell G s l)
        go (inl t) = rw (ne_eqb (swapped_of s.box l).number 0 t.0, t.1, append-nil s.emptied) v
        go (inr t) =
            rw (eq-eqb (swapped_of s.box l).number 0 t.0, t.2)
            (record {
              node = box_has (Node cell s.made s.voids) s.box.cell l 0 [] (node_swaps v.node l t.1);
              fates = box_has (Accounted s.made s.accepted (s.emptied ++ held)) s.box.cell l 0 [] (accounted_swaps v.fates v.node l t.1);
              posted = v.posted;
              lost = λ e m. lost_then e (among_either e s.emptied held m);
              now = v.now;
              acked = v.acked;
              reached = v.reached;
            })

  inv : {s : Moment G} → Run cell G s → Holding s
  inv (starts g f el en) = at_start g el en
  inv (makes {s} r e) = keeps_making s (inv r) e
  inv (puts_void {s} r) = keeps_voiding s (inv r)
  inv (sends {s} r e h) = keeps_sending s (inv r) e h
  inv (hears {s} r c taken h g w) = keeps_hearing s (inv r) c taken h g w
  inv (answers {s} r) = keeps_answering s (inv r)
  inv (learns {s} r a m) = keeps_learning s (inv r) a m
  inv (swaps {s} r l) = keeps_swapping s (inv r) l

  -- ---- what holds at every moment of a run
  -- the outbox stays in its form: no call of the node meets number 23
  pub in_form : {s : Moment G} → Run cell G s → InForm s.box
  in_form (starts g f el en) = fresh_form cell (fresh_cell cell f)
  in_form (makes {s} r e) = add_form s.box (in_form r) e
  in_form (puts_void {s} r) = replace_form s.box (in_form r)
  in_form (sends r e h) = in_form r
  in_form (hears r c taken h g w) = in_form r
  in_form (answers r) = in_form r
  in_form (learns {s} r a m) = acknowledge_form s.box (in_form r) a.life a.next
  in_form (swaps {s} r l) = swap_form s.box (in_form r) l

  -- what it offers may be sent
  pub sends_offer : {s : Moment G} → Run cell G s → (e : Entry) → offer_of s.box ≡ Oldest e → Run cell G (sending cell G s e)
  sends_offer {s} r e o = go (offers s.box)
    where
      go : ((p : Entry) × (ps : List Entry) × Offers s.box p ps) ⊎ ((brought (offer_of s.box) ≡ []) × ((replaced_of s.box).outbox ≡ s.box)) → Run cell G (sending cell G s e)
      go (inl (p, ps, h)) =
          let q : e ∷ [] ≡ p ∷ [] = sym (ap brought o) ∙ h.offers in
          let k : e ≡ p = cc in
          sends r e (subst⁻¹ (λ (xs : List Entry). Among e xs) h.holds (inl k))
      go (inr t) = let z : e ∷ [] ≡ [] = sym (ap brought o) ∙ t.0 in cc

  -- and stays the cell's
  pub own_cell : {s : Moment G} → Run cell G s → s.box.cell ≡ cell
  own_cell r = (inv r).node.own

  -- 1. the accepted entries of each life are, place by place, a first part of what the node made in it
  pub accepted_in_order : {s : Moment G} → Run cell G s → (life : ℕ) → FirstPart s.voids (of_life life s.accepted) (of_life life s.made)
  accepted_in_order r = (inv r).now.prefix

  -- 2 and 3. whatever acknowledgement comes, each entry that it removes had been accepted when it was sent, its reading or its void, and none that it leaves had
  pub only_heard_removed : {s : Moment G} → Run cell G s → (a : Ack) → Among a s.acks → Told s.made s.voids a.heard (held_of s.box) (held_of (learning cell G s a).box)
  only_heard_removed {s} r a m = go (removes s.box a.life a.next)
    where
      v : Holding s
      v = inv r

      After : List Entry → Type 0
      After = Told s.made s.voids a.heard (held_of s.box)

      go : Removes s.box a.life a.next (acknowledged_of s.box a.life a.next).outbox → After (held_of (acknowledged_of s.box a.life a.next).outbox)
      go (inl t) = subst⁻¹ After (ap held_of t.0) (told_none v.node (v.acked a m) (t.1 (in_form r).form))
      go (inr t) = subst⁻¹ After (ap held_of t.1 ∙ held_is _ _ _ _) (told_some v.node (v.acked a m) t.0.0 t.0.1 t.0.2)

  -- 3. nothing unheard is dropped but by a swap: of each place of a life made so far, the entry or its void was accepted, or is still held, or a swap emptied it
  module _ {s : Moment G} (r : Run cell G s) (l i : ℕ) (m : Entry) (a : At (of_life l s.made) i m) where
    made_there : i < length (of_life l s.made)
    made_there = at_below m (of_life l s.made) i a

    -- what stands in that place is the entry or its void
    stands_for : (e : Entry) → life_in e ≡ l → count_in e ≡ i → InPlace s.made s.voids e → Holds s.voids m e
    stands_for e p q w = rw (at_one m w.was (of_life l s.made) i a (rw (p, q) at w.at)) w.held

    accepted_there : i < length (of_life l s.accepted) → Fate s l i m
    accepted_there h =
        let x = at_some (of_life l s.accepted) i h in
        let f = first_at s.voids (of_life l s.accepted) (of_life l s.made) i x.0 (accepted_in_order r l) x.1 in
        inl (x.0, x.1, rw (at_one m f.0 (of_life l s.made) i a f.1) f.2)

    held_there : s.box.next - length (held_of s.box) ≤ i → i < s.box.next → s.box.life ≡ l → Fate s l i m
    held_there low high e = go (counted_has itself s.box.cell s.box.life from (held_of s.box) (inv r).node.counts (i - from) (omega (arith, (inv r).node.reach)))
      where
        from : ℕ
        from = s.box.next - length (held_of s.box)

        go : (p : Entry) × Among p (held_of s.box) × (notice_of p ≡ notice s.box.cell s.box.life (from + (i - from))) → Fate s l i m
        go (p, k, n) =
            let c : from + (i - from) ≡ i = omega arith in
            inr (inl (p, k, stands_for p (ap (λ (x : Notice). x.life) n ∙ e) (ap (λ (x : Notice). x.count) n ∙ c) ((inv r).node.placed p k)))

    emptied_there : (i < length (of_life l s.accepted)) ⊎ Emptied s.emptied l i → Fate s l i m
    emptied_there (inl h) = accepted_there h
    emptied_there (inr (x, k, p, q)) = inr (inr (x, k, stands_for x p q ((inv r).lost x k)))

    pub nothing_lost : Fate s l i m
    nothing_lost = go (ℕ_discrete s.box.life l) (dec_le s.box.life l)
      where
        this_life : s.box.life ≡ l → Dec (s.box.next - length (held_of s.box) ≤ i) → Fate s l i m
        this_life e (yes k) = held_there k (omega (arith, made_there, (inv r).node.made_so_far, ap (λ (j : ℕ). length (of_life j s.made)) e)) e
        this_life e (no k) = accepted_there (omega (arith, (inv r).fates.oldest, ap (λ (j : ℕ). length (of_life j s.accepted)) e))

        go : Dec (s.box.life ≡ l) → Dec (s.box.life ≤ l) → Fate s l i m
        go (yes e) d = this_life e (dec_le (s.box.next - length (held_of s.box)) i)
        go (no e) (yes d) = absurd (omega (arith, made_there, ap length ((inv r).node.unused l (omega arith))))
        go (no e) (no d) = emptied_there ((inv r).fates.past l (omega arith) i made_there)

  -- an entry that is the outbox's next was made, or was turned away for want of room (13): its count stays the next unused one
  pub made_or_turned : {s : Moment G} → Run cell G s → (e : Entry) → is_next s.box e ≡ true → Among e (making cell G s e).made ⊎ Among e (making cell G s e).turned
  made_or_turned {s} r e n = go (ltb s.box.held 30) (next_number s.box (in_form r).form e n)
    where
      go : (room : Bool) → (added_of s.box e).number ≡ cond room 0 full → Among e (making cell G s e).made ⊎ Among e (making cell G s e).turned
      go true z = inl (rw z (among_right e s.made (e ∷ []) (inl refl)))
      go false z = inr (rw z (among_right e s.turned (e ∷ []) (inl refl)))

  -- each life is used once: nothing was made yet in a life that a swap starts. It follows from the swap's own check, that the life is higher
  pub each_life_once : {s : Moment G} → Run cell G s → (l : ℕ) → (swapped_of s.box l).number ≡ 0 → of_life l s.made ≡ []
  each_life_once {s} r l z = go (calls.swaps s.box l)
    where
      go : Swaps s.box l (swapped_of s.box l) → of_life l s.made ≡ []
      go (inl t) = absurd (t.0 z)
      go (inr t) = (inv r).node.unused l t.1

  -- 4. the link never jams: the row expects the oldest entry, or its own life and next count, sent now, remove it
  pub never_stuck : {s : Moment G} → Run cell G s → (p : Entry) (ps : List Entry) → held_of s.box ≡ p ∷ ps
      → InOrder (G.life s.row) (G.next s.row) (notice_of p) ⊎ Reaches s.box (G.life s.row) (G.next s.row)
  never_stuck {s} r p ps holds = go (ℕ_discrete rl s.box.life) (dec_le rl s.box.life)
    where
      v : Holding s
      v = inv r

      rl : ℕ
      rl = G.life s.row

      rn : ℕ
      rn = G.next s.row

      oldest : ℕ
      oldest = s.box.next - length (p ∷ ps)

      own : notice_of p ≡ notice s.box.cell s.box.life oldest
      own = (rw holds at v.node.counts).0

      its_life : life_in p ≡ s.box.life
      its_life = ap (λ (n : Notice). n.life) own

      its_place : count_in p ≡ oldest
      its_place = ap (λ (n : Notice). n.count) own

      -- of the outbox's life, all below the oldest were accepted, and none that was not made
      low : oldest ≤ length (of_life s.box.life s.accepted)
      low = rw holds at v.fates.oldest

      high : (l : ℕ) → length (of_life l s.accepted) ≤ length (of_life l s.made)
      high l = first_length s.voids (of_life l s.accepted) (of_life l s.made) (v.now.prefix l)

      whole : s.box.held ≡ length (p ∷ ps)
      whole = v.node.whole ∙ ap length holds

      same_life : rl ≡ s.box.life → Dec (rn ≤ oldest) → InOrder rl rn (notice_of p) ⊎ Reaches s.box rl rn
      same_life e (yes k) = inl (inl (its_life ∙ sym e, its_place ∙ omega (arith, low, v.now.row.present, ap (λ (l : ℕ). length (of_life l s.accepted)) e)))
      same_life e (no k) =
          inr (e, omega (arith, whole), omega (arith, v.now.row.present, ap (λ (l : ℕ). length (of_life l s.accepted)) e, high s.box.life, v.node.made_so_far))

      go : Dec (rl ≡ s.box.life) → Dec (rl ≤ s.box.life) → InOrder rl rn (notice_of p) ⊎ Reaches s.box rl rn
      go (yes e) d = same_life e (dec_le rn oldest)
      go (no e) (yes d) = inl (inr (omega (arith, its_life), its_place ∙ omega (arith, low, ap length (v.now.row.later s.box.life (omega arith)))))
      go (no e) (no d) =
          let z : rn ≡ 0 = omega (arith, v.now.row.present, high rl, ap length (v.node.unused rl (omega arith))) in
          absurd (omega (arith, v.now.row.begun z))
