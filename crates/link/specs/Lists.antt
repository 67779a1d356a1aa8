-- Entries in lists: those of a life, and the place that an entry and its void share. Definitions only.
use Rattle.std.specs.Prelude.{◌≡◌, cond, ◌⊎◌, List, [], ◌∷◌, ℕ, zero, suc, eqb}
use Rattle.cell.specs.declared.Entry.{Entry}
use Rattle.cell.specs.Ranges.{notice_of}
use Rattle.outbox.specs.Outbox.{void_of}
use Rattle.outbox.specs.Counts.{Among}

abbrev pub life_in : Entry → ℕ
life_in e = (notice_of e).life

abbrev pub count_in : Entry → ℕ
count_in e = (notice_of e).count

-- x stands at this place of the list, counted from 0
abbrev pub At : {A : Type 0} → List A → ℕ → A → Type 0
At [] n x = ⊥
At (y ∷ ys) zero x = y ≡ x
At (y ∷ ys) (suc n) x = At ys n x

-- the entries of one life, in their order
abbrev pub of_life : ℕ → List Entry → List Entry
of_life life [] = []
of_life life (e ∷ es) = cond (eqb (life_in e) life) (e ∷ of_life life es) (of_life life es)

-- a replaced reading and its void hold one place: that of an entry that was made holds the entry and, once one was put for it, its void
abbrev pub Holds : List Entry → Entry → Entry → Type 0
Holds voids made e = (e ≡ made) ⊎ ((e ≡ void_of made) × Among e voids)

-- place by place a first part of what was made
abbrev pub FirstPart : List Entry → List Entry → List Entry → Type 0
FirstPart voids [] made = Unit {0}
FirstPart voids (e ∷ es) [] = ⊥
FirstPart voids (e ∷ es) (m ∷ made) = Holds voids m e × FirstPart voids es made
