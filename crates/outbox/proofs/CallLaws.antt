-- What each call does to the outbox, as lists: what the crates above cite. Assumes nothing.
use Rattle.std.proofs.Math.Path.{◌≡◌, refl}
use Rattle.std.proofs.Common.{sym, subst, arith, ltb-true, leb-true, eq-eqb, lt-ltb, le-leb}
use Rattle.std.specs.Prelude.{Bool, ◌⊎◌, List, [], ◌∷◌, ◌++◌, ℕ, ◌+◌, ◌-◌, ◌≤◌, ◌<◌, leb, length, drop}
use Rattle.std.proofs.Math.Bool.{true, false, cond, and-eq-true_iff}
use Rattle.std.proofs.Math.Logic.{inl, inr}
use Rattle.std.proofs.Math.Dec.{ltb}
use Rattle.cell.specs.declared.Entry.{Entry}
use Rattle.cell.specs.Ranges.{notice_of}
use Rattle.outbox.specs.declared.Outbox.{Outbox}
use Rattle.outbox.specs.Outbox.{Given}
use Rattle.outbox.specs.Outbox.{Oldest}
use Rattle.outbox.specs.Outbox.{bad_form, not_next, full, notice, void_of, same, held_of, box_of, oldest_of, form_ok, given, unless, fresh_of, oldest, offer_of, is_next, with_entry, added_of, replacing, replaced_of, is_heard, without, acknowledged_of, is_higher, swapped_of}
use Rattle.outbox.specs.Brought.{brought}
use Rattle.outbox.specs.Laws.{same_is, held_is, heard_in}

-- something of an outbox's cell, life, next count, number held, and what it holds
abbrev pub Has : (ℕ → ℕ → ℕ → ℕ → List Entry → Type 0) → Outbox → Type 0
Has P b = P b.cell b.life b.next b.held (held_of b)

-- what holds of the parts holds of the outbox made of them
pub box_has : (P : ℕ → ℕ → ℕ → ℕ → List Entry → Type 0) (cell life next : ℕ) (ps : List Entry) → P cell life next (length ps) ps → Has P (box_of cell life next ps)
unfolding box_of
box_has P cell life next ps h = subst (λ (qs : List Entry). P cell life next (length ps) qs) (sym (held_is cell life next ps)) h

pub fresh_is : (cell : ℕ) → (fresh_of cell).outbox ≡ box_of cell 0 0 []
unfolding fresh_of
fresh_is cell = refl

pub fresh_cell : (cell : ℕ) → (fresh_of cell).number ≡ 0 → cell ≤ 255
unfolding fresh_of
fresh_cell cell z = go (leb cell 255) refl z
  where
    go : (t : Bool) → leb cell 255 ≡ t → ◌≡◌ {A = ℕ} (cond t 0 not_next) 0 → cell ≤ 255
    go true e z = leb-true cell 255 e
    go false e z = absurd (omega arith)

is_next_lem : (b : Outbox) (e : Entry) → is_next b e ≡ true → (notice_of e ≡ notice b.cell b.life b.next) × (b.next < 1000000)
unfolding is_next
is_next_lem b e h =
    let n = notice b.cell b.life b.next in
    let t = (and-eq-true_iff (same (notice_of e) n) (leb b.next 999999)).0 h in
    (same_is (notice_of e) n t.0, omega (arith, leb-true b.next 999999 t.1))

module _ (b : Outbox) where
  -- ---- a new entry: at its end, or refused
  abbrev pub Adds : Entry → Given → Type 0
  Adds e g =
      ((g.number ≡ 0) × (notice_of e ≡ notice b.cell b.life b.next) × (g.outbox ≡ box_of b.cell b.life (b.next + 1) (held_of b ++ (e ∷ []))) × (b.next < 1000000) × (b.held < 30))
      ⊎ ((g.number ≡ 0 → ⊥) × (g.outbox ≡ b))

  pub adds : (e : Entry) → Adds e (added_of b e)
  unfolding added_of unless with_entry
  adds e = go (form_ok b) (is_next b e) (ltb b.held 30) refl refl
    where
      go : (f n r : Bool) → is_next b e ≡ n → ltb b.held 30 ≡ r → Adds e (unless f b bad_form (unless n b not_next (unless r b full (given (with_entry b e) 0))))
      go false n r q h = inr (λ z. omega arith, refl)
      go true false r q h = inr (λ z. omega arith, refl)
      go true true false q h = inr (λ z. omega arith, refl)
      go true true true q h = inl (refl, (is_next_lem b e q).0, refl, (is_next_lem b e q).1, ltb-true b.held 30 h)

  -- ---- the oldest: offered, and replaced by its void; or there is none
  pub record Offers (p : Entry) (ps : List Entry) : Type 0 where
    pub holds : held_of b ≡ p ∷ ps
    pub offers : brought (offer_of b) ≡ p ∷ []
    pub replaces : (replaced_of b).outbox ≡ box_of b.cell b.life b.next (void_of p ∷ ps)

  pub offers : ((p : Entry) × (ps : List Entry) × Offers p ps) ⊎ ((brought (offer_of b) ≡ []) × ((replaced_of b).outbox ≡ b))
  unfolding offer_of oldest replaced_of replacing
  offers = go (form_ok b) (held_of b) refl refl
    where
      go : (f : Bool) (hs : List Entry) → form_ok b ≡ f → held_of b ≡ hs → ((p : Entry) × (ps : List Entry) × Offers p ps) ⊎ ((brought (offer_of b) ≡ []) × ((replaced_of b).outbox ≡ b))
      go false hs ef eh = inr (rw ef, rw ef)
      go true [] ef eh = inr (rw (ef, eh), rw (ef, eh))
      go true (p ∷ ps) ef eh = inl (p, ps, record { holds = eh; offers = rw (ef, eh); replaces = rw (ef, eh) })

  pub offer_is : form_ok b ≡ true → (p : Entry) (ps : List Entry) → held_of b ≡ p ∷ ps → offer_of b ≡ Oldest p
  unfolding offer_of oldest
  offer_is f p ps h = rw (f, h)

  -- ---- an acknowledgement: of this life, above the oldest count and not past the next one, it removes those below it; else it changes nothing
  abbrev pub Reaches : ℕ → ℕ → Type 0
  Reaches life n = (life ≡ b.life) × (oldest_of b < n) × (n ≤ b.next)

  abbrev pub Removes : ℕ → ℕ → Outbox → Type 0
  Removes life n after =
      ((after ≡ b) × (form_ok b ≡ true → ¬ Reaches life n))
      ⊎ (Reaches life n × (after ≡ box_of b.cell b.life b.next (drop (n - oldest_of b) (held_of b))))

  pub removes : (life n : ℕ) → Removes life n (acknowledged_of b life n).outbox
  unfolding acknowledged_of unless is_heard without
  removes life n = go (form_ok b) refl (is_heard b life n) refl
    where
      go : (f : Bool) → form_ok b ≡ f → (h : Bool) → is_heard b life n ≡ h
          → Removes life n (unless f b bad_form (given (cond h (without b n) b) 0)).outbox
      go false ef h e = inl (refl, λ t. let z : ◌≡◌ {A = ℕ} 0 1 = cc in absurd (omega arith))
      go true ef false e = inl (refl, λ t q. let z : ◌≡◌ {A = ℕ} 0 1 = cc (reached q) in omega arith)
        where
          reached : Reaches life n → is_heard b life n ≡ true
          reached q = rw (eq-eqb life b.life q.0, lt-ltb (oldest_of b) n q.1, le-leb n b.next q.2)
      go true ef true e = inr (heard_in b life n e, refl)

  -- ---- a battery swap: empty, at a higher life; or refused
  abbrev pub Swaps : ℕ → Given → Type 0
  Swaps life g = ((g.number ≡ 0 → ⊥) × (g.outbox ≡ b)) ⊎ ((g.number ≡ 0) × (b.life < life) × (g.outbox ≡ box_of b.cell life 0 []) × (life ≤ 65535))

  pub swaps : (life : ℕ) → Swaps life (swapped_of b life)
  unfolding swapped_of unless is_higher
  swaps life = go (form_ok b) (is_higher b life) refl
    where
      go : (f h : Bool) → is_higher b life ≡ h → Swaps life (unless f b bad_form (unless h b not_next (given (box_of b.cell life 0 []) 0)))
      go false h e = inl (λ z. omega arith, refl)
      go true false e = inl (λ z. omega arith, refl)
      go true true e =
          let t = (and-eq-true_iff (ltb b.life life) (leb life 65535)).0 e in
          inr (refl, ltb-true _ _ t.0, refl, leb-true _ _ t.1)

  -- ---- in its form, an outbox takes its next entry or turns it away for want of room
  pub next_number : form_ok b ≡ true → (e : Entry) → is_next b e ≡ true → (added_of b e).number ≡ cond (ltb b.held 30) 0 full
  unfolding added_of unless
  next_number f e n = rw (f, n) (go (ltb b.held 30))
    where
      go : (r : Bool) → (unless r b full (given (with_entry b e) 0)).number ≡ cond r 0 full
      go true = refl
      go false = refl
