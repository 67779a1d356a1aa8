-- A call that gives the outbox as it came gives the very numbers back. Assumes nothing.
use Rattle.std.specs.Prelude.{◌≡◌, refl, Bool, true, false, List, ℕ, eqb, length}
use Rattle.std.proofs.Common.{◌∙◌, inl, inr, eqb-true}
use Rattle.shapes.specs.Shapes.{wide}
use Rattle.outbox.specs.Outbox.{Given, acknowledged_of}
use Rattle.outbox.proofs.CallLaws.{Reaches, Removes, removes}
use Rattle.node.specs.Numbers.{box_width, all_entries, box_from}
use Rattle.node.specs.NumberLaws.{AllFit, box_there}
use Rattle.node.specs.Calls.{of_box, GivesBox, Acknowledges}

module _ (box : List ℕ) (fit : AllFit box) (number : ℕ) (box' : List ℕ) where
  pub as_it_came : (by : Given) → by.outbox ≡ box_from box → GivesBox (wide box box_width) (of_box box by) box number box' → box' ≡ box
  as_it_came by e g = go (wide box box_width) refl (all_entries box) refl (eqb by.number 0) refl
    where
      go : (w : Bool) → wide box box_width ≡ w → (a : Bool) → all_entries box ≡ a → (z : Bool) → eqb by.number 0 ≡ z → box' ≡ box
      go false p a q z r = g.box_is ∙ rw p
      go true p false q z r = g.box_is ∙ rw (p, q)
      go true p true q false r = g.box_is ∙ rw (p, q, r)
      go true p true q true r = g.box_is ∙ rw (p, q, r, e) (box_there box (eqb-true (length box) box_width p) fit q)

  -- an acknowledgement of another life, at or below the oldest count or past the next one
  pub unheard : (life next : ℕ) → ¬ Reaches (box_from box) life next → Acknowledges box life next number box' → box' ≡ box
  unheard life next short = as_it_came (acknowledged_of (box_from box) life next) (go (removes (box_from box) life next))
    where
      go : Removes (box_from box) life next (acknowledged_of (box_from box) life next).outbox → (acknowledged_of (box_from box) life next).outbox ≡ box_from box
      go (inl t) = t.0
      go (inr t) = absurd (short t.0)
