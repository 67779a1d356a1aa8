-- [4] What each call of the node's library gives, for every input. A row that has not its count of numbers is refused with 255, and nothing is changed. Definitions only.
use Rattle.std.specs.Prelude.{ℕ, ◌≡◌, Bool, cond, ◌&&◌, List, eqb, replicate}
use Rattle.shapes.specs.Shapes.{ill_shaped, wide}
use Rattle.outbox.specs.Outbox.{Given, Offered, Oldest, Empty, BadForm, Replaced, bad_form, given, fresh_of, offer_of, added_of, replaced_of, acknowledged_of, swapped_of}
use Rattle.node.specs.Numbers.{entry_width, is_entry, entry_from, entry_numbers, box_width, all_entries, box_from, box_numbers}

-- the number of a call that finds an outbox empty
abbrev pub empty : ℕ
empty = 254

-- what a call gives of the outbox that a row is; a row one of whose places is no entry is out of form
abbrev pub of_box : List ℕ → Given → Given
of_box box by = cond (all_entries box) by (given (box_from box) bad_form)

-- only an outbox that a call took or made, number 0, is written
pub record GivesBox (shaped : Bool) (by : Given) (box : List ℕ) (number : ℕ) (box' : List ℕ) : Type 0 where
  pub number_is : number ≡ cond shaped by.number ill_shaped
  pub box_is : box' ≡ cond (shaped && eqb by.number 0) (box_numbers by.outbox) box

abbrev pub Freshens : ℕ → List ℕ → ℕ → List ℕ → Type 0
Freshens cell box = GivesBox (wide box box_width) (fresh_of cell) box

-- an entry that is none is ill shaped
abbrev pub Adds : List ℕ → List ℕ → ℕ → List ℕ → Type 0
Adds box entry = GivesBox (wide box box_width && wide entry entry_width && is_entry entry) (of_box box (added_of (box_from box) (entry_from entry))) box

-- where the outbox is empty, its number says so
abbrev pub or_empty : Replaced → Given
or_empty r = given r.outbox (cond r.empty empty r.number)

abbrev pub Replaces : List ℕ → ℕ → List ℕ → Type 0
Replaces box = GivesBox (wide box box_width) (of_box box (or_empty (replaced_of (box_from box)))) box

abbrev pub Acknowledges : List ℕ → ℕ → ℕ → ℕ → List ℕ → Type 0
Acknowledges box life next = GivesBox (wide box box_width) (of_box box (acknowledged_of (box_from box) life next)) box

abbrev pub Swaps : List ℕ → ℕ → ℕ → List ℕ → Type 0
Swaps box life = GivesBox (wide box box_width) (of_box box (swapped_of (box_from box) life)) box

-- ---- the oldest entry, or eleven zeros
abbrev pub offer_number : Offered → ℕ
offer_number (Oldest e) = 0
offer_number Empty = empty
offer_number BadForm = bad_form

abbrev pub offer_numbers : Offered → List ℕ
offer_numbers (Oldest e) = entry_numbers e
offer_numbers Empty = replicate entry_width 0
offer_numbers BadForm = replicate entry_width 0

pub record GivesEntry (shaped : Bool) (offered : Offered) (entry : List ℕ) (number : ℕ) (entry' : List ℕ) : Type 0 where
  pub number_is : number ≡ cond shaped (offer_number offered) ill_shaped
  pub entry_is : entry' ≡ cond shaped (offer_numbers offered) entry

abbrev pub Offers : List ℕ → List ℕ → ℕ → List ℕ → Type 0
Offers box entry = GivesEntry (wide box box_width && wide entry entry_width) (cond (all_entries box) (offer_of (box_from box)) BadForm) entry
