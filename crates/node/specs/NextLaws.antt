-- What a call wrote, number 0, the next one reads: the outbox that the call gave. Assumes nothing.
use Rattle.std.specs.Prelude.{◌≡◌, refl, Bool, true, false, cond, List, ℕ, zero, suc, length, drop}
use Rattle.std.proofs.Common.{sym, ap, ◌∙◌, arith, eq-eqb, lit<}
use Rattle.outbox.specs.declared.Outbox.{Outbox}
use Rattle.outbox.specs.Outbox.{Given, bad_form, spare, fresh_of, added_of, replaced_of, acknowledged_of, swapped_of}
use Rattle.outbox.proofs.Back.{Plain}
use Rattle.outbox.proofs.Each.{Sound, fresh_sound, add_sound, replace_sound, acknowledge_sound, swap_sound}
use Rattle.shapes.specs.Shapes.{ill_shaped}
use Rattle.node.specs.Numbers.{entry_from, places_from, all_entries, box_from, box_numbers}
use Rattle.node.specs.NumberLaws.{AllFit, entry_plain, box_back, box_plain}
use Rattle.node.specs.Calls.{of_box, GivesBox, Freshens, Adds, Replaces, Acknowledges, Swaps}

-- a place whose head, if any, some 32 bits stand for, as in spare room; and an outbox of 30 such places
abbrev Whole : Outbox → Type 0
Whole = Sound Plain

none : Plain spare
none = (0, lit< tt, refl)

places_count : (k : ℕ) (l : List ℕ) → length (places_from k l) ≡ k
unfolding places_from
places_count zero l = refl
places_count (suc k) l = ap suc (places_count k (drop 11 l))

box_whole : (box : List ℕ) → AllFit box → Whole (box_from box)
unfolding box_from
box_whole box f = record { each = box_plain box f; places = places_count 30 (drop 4 box) }

module _ {box box' : List ℕ} where
  reads : {shaped : Bool} {by : Given} → Whole by.outbox → GivesBox shaped by box 0 box' → box_from box' ≡ by.outbox
  reads {shaped} {by} w g = go shaped refl
    where
      go : (s : Bool) → shaped ≡ s → box_from box' ≡ by.outbox
      go false e = let z : 0 ≡ ill_shaped = rw e at g.number_is in absurd (omega arith)
      go true e =
          let n : by.number ≡ 0 = sym (rw e at g.number_is) in
          let b : box' ≡ box_numbers by.outbox = rw (e, eq-eqb by.number 0 n) at g.box_is in
          ap box_from b ∙ box_back by.outbox w.places w.each

  reads_of : {shaped : Bool} (by : Given) → Whole by.outbox → GivesBox shaped (of_box box by) box 0 box' → box_from box' ≡ by.outbox
  reads_of {shaped} by w g = go (all_entries box) refl
    where
      go : (a : Bool) → all_entries box ≡ a → box_from box' ≡ by.outbox
      go true e = reads w (rw e at g)
      go false e = absurd (none_of_lem shaped (rw e at g.number_is))
        where
          none_of_lem : (s : Bool) → 0 ≡ cond s bad_form ill_shaped → ⊥
          none_of_lem true z = omega arith
          none_of_lem false z = omega arith

  pub fresh_reads : (cell : ℕ) → Freshens cell box 0 box' → box_from box' ≡ (fresh_of cell).outbox
  fresh_reads cell = reads (fresh_sound Plain none cell)

  module _ (fit : AllFit box) where
    pub add_reads : (entry : List ℕ) → AllFit entry → Adds box entry 0 box' → box_from box' ≡ (added_of (box_from box) (entry_from entry)).outbox
    add_reads entry f = reads_of (added_of (box_from box) (entry_from entry)) (add_sound Plain none (box_from box) (box_whole box fit) (entry_from entry) (entry_plain entry (f 10)))

    pub replace_reads : Replaces box 0 box' → box_from box' ≡ (replaced_of (box_from box)).outbox
    replace_reads = reads_of _ (replace_sound Plain none (box_from box) (box_whole box fit) (λ e. tt))

    pub acknowledge_reads : (life next : ℕ) → Acknowledges box life next 0 box' → box_from box' ≡ (acknowledged_of (box_from box) life next).outbox
    acknowledge_reads life next = reads_of (acknowledged_of (box_from box) life next) (acknowledge_sound Plain none (box_from box) (box_whole box fit) life next)

    pub swap_reads : (life : ℕ) → Swaps box life 0 box' → box_from box' ≡ (swapped_of (box_from box) life).outbox
    swap_reads life = reads_of (swapped_of (box_from box) life) (swap_sound Plain none (box_from box) (box_whole box fit) life)
