use Rattle.std.proofs.Common.{◌≡◌, ℕ, ◌+◌, ◌-◌, ◌*◌, ◌/◌, ◌≤◌, Bool, true, false, leb, refl, sym, ◌∙◌, arith, leb-true, le-leb}
use Rattle.std.proofs.lemmas.Bool.{lt-leb, leb-false}
use Rattle.journal.specs.Book.{room_for}
use Rattle.journal.proofs.has_room.Goals as goal

-- `journal::has_room` meets its contract. Assumes nothing.
-- the test of the code is that of the room
same_test : (n m : ℕ) → 300 ≤ m → leb n ((m - 300) / 5) ≡ leb (room_for n) m
unfolding room_for
same_test n m h = go (leb n ((m - 300) / 5)) refl
  where
    go : (b : Bool) → leb n ((m - 300) / 5) ≡ b → b ≡ leb (room_for n) m
    go true e = sym (le-leb (5 * n + 300) m (omega (arith, leb-true n ((m - 300) / 5) e)))
    go false e = sym (lt-leb (5 * n + 300) m (omega (arith, leb-false n ((m - 300) / 5) e)))

pub returns-then-room-ge300 : goal.returns-then-room-ge300
returns-then-room-ge300 c =
    same_test c.args.len c.args.room c.if-room-ge300.true

pub returns-else-room-ge300 : goal.returns-else-room-ge300
unfolding room_for
returns-else-room-ge300 c =
    lt-leb 300 c.args.room c.if-room-ge300.false ∙ sym (lt-leb (5 * c.args.len + 300) c.args.room (omega (arith, c.if-room-ge300.false)))
