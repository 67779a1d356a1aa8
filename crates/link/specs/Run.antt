-- [4] A run of the link: a node with its outbox, a gateway, and all that was ever sent between them. Definitions only.
-- Each list of a moment is a history of what calls answered, in the order of the calls; none is the difference of others.
use Rattle.std.specs.Prelude.{◌≡◌, Bool, true, false, cond, ◌⊎◌, List, [], ◌∷◌, ◌++◌, map, ℕ, ◌+◌, eqb}
use Rattle.cell.specs.declared.Entry.{Entry}
use Rattle.cell.proofs.CheckLaws.{InOrder}
use Rattle.cell.specs.Ranges.{notice_of, cell_of}
use Rattle.outbox.specs.declared.Outbox.{Outbox}
use Rattle.outbox.specs.Outbox.{full, void_of, held_of, fresh_of, offer_of, added_of, replaced_of, acknowledged_of, swapped_of}
use Rattle.outbox.specs.Brought.{brought}
use Rattle.outbox.specs.Counts.{Among}
use Rattle.link.specs.Lists.{life_in, count_in, At, of_life, Holds}

-- ---- the gateway, as far as one cell sees it: the entry that a call brings; what a call may give, whether it is accepted for this cell and the state after it;
-- and the life and next count of the cell's row
pub record Gateway : Type 1 where
  pub State : Type 0
  pub Call : Type 0
  pub brings : Call → Entry
  pub Gives : State → Call → Bool → State → Type 0
  pub life : State → ℕ
  pub next : State → ℕ

-- it takes this cell's entries in order, and any other call leaves the row's life and next count
pub record Orderly (cell : ℕ) (G : Gateway) : Type 0 where
  pub own : (g h : G.State) (c : G.Call) → G.Gives g c true h → cell_of (G.brings c) ≡ cell
  pub order : (g h : G.State) (c : G.Call) → G.Gives g c true h → InOrder (G.life g) (G.next g) (notice_of (G.brings c))
  pub after : (g h : G.State) (c : G.Call) → G.Gives g c true h → (G.life h ≡ life_in (G.brings c)) × (G.next h ≡ count_in (G.brings c) + 1)
  pub quiet : (g h : G.State) (c : G.Call) → G.Gives g c false h → (G.life h ≡ G.life g) × (G.next h ≡ G.next g)

-- an acknowledgement, the row's life and next count; and, for the statements only, what the gateway had accepted when it sent it
pub record Ack : Type 0 where
  pub life : ℕ
  pub next : ℕ
  pub heard : List Entry

-- ---- a moment of a run: the outbox and the gateway's state. Of this cell: what the outbox took, and what it turned away for want of room (13); the voids put in
-- place of others; what it held when a swap emptied it; all that was sent; all that the gateway accepted; all acknowledgements that were sent
pub record Moment (G : Gateway) : Type 0 where
  pub box : Outbox
  pub row : G.State
  pub made : List Entry
  pub turned : List Entry
  pub voids : List Entry
  pub emptied : List Entry
  pub sent : List Entry
  pub accepted : List Entry
  pub acks : List Ack

-- one, if it is so
abbrev pub when : Bool → Entry → List Entry
when t e = cond t (e ∷ []) []

-- the entries that an outbox holds
abbrev pub entries_in : Outbox → List Entry
entries_in b = held_of b

module _ (cell : ℕ) (G : Gateway) where
  -- a fresh outbox, and nothing sent
  abbrev pub first : G.State → Moment G
  first g = record { box = (fresh_of cell).outbox; row = g; made = []; turned = []; voids = []; emptied = []; sent = []; accepted = []; acks = [] }

  -- the node makes an entry
  abbrev pub making : Moment G → Entry → Moment G
  making s e =
      record {
        box = (added_of s.box e).outbox;
        row = s.row;
        made = s.made ++ when (eqb (added_of s.box e).number 0) e;
        turned = s.turned ++ when (eqb (added_of s.box e).number full) e;
        voids = s.voids;
        emptied = s.emptied;
        sent = s.sent;
        accepted = s.accepted;
        acks = s.acks;
      }

  -- it puts a void in place of the oldest
  abbrev pub voiding : Moment G → Moment G
  voiding s =
      record {
        box = (replaced_of s.box).outbox;
        row = s.row;
        made = s.made;
        turned = s.turned;
        voids = s.voids ++ map void_of (brought (offer_of s.box));
        emptied = s.emptied;
        sent = s.sent;
        accepted = s.accepted;
        acks = s.acks;
      }

  -- it sends an entry
  abbrev pub sending : Moment G → Entry → Moment G
  sending s e =
      record {
        box = s.box;
        row = s.row;
        made = s.made;
        turned = s.turned;
        voids = s.voids;
        emptied = s.emptied;
        sent = s.sent ++ (e ∷ []);
        accepted = s.accepted;
        acks = s.acks;
      }

  -- a call of the gateway, accepted for this cell or not, and the state that it left
  abbrev pub hearing : Moment G → G.Call → Bool → G.State → Moment G
  hearing s c taken h =
      record {
        box = s.box;
        row = h;
        made = s.made;
        turned = s.turned;
        voids = s.voids;
        emptied = s.emptied;
        sent = s.sent;
        accepted = s.accepted ++ when taken (G.brings c);
        acks = s.acks;
      }

  -- the gateway sends its row's life and next count
  abbrev pub answering : Moment G → Moment G
  answering s =
      record {
        box = s.box;
        row = s.row;
        made = s.made;
        turned = s.turned;
        voids = s.voids;
        emptied = s.emptied;
        sent = s.sent;
        accepted = s.accepted;
        acks = s.acks ++ (record { life = G.life s.row; next = G.next s.row; heard = s.accepted } ∷ []);
      }

  -- the node takes an acknowledgement
  abbrev pub learning : Moment G → Ack → Moment G
  learning s a =
      record {
        box = (acknowledged_of s.box a.life a.next).outbox;
        row = s.row;
        made = s.made;
        turned = s.turned;
        voids = s.voids;
        emptied = s.emptied;
        sent = s.sent;
        accepted = s.accepted;
        acks = s.acks;
      }

  -- a battery swap
  abbrev pub swapping : Moment G → ℕ → Moment G
  swapping s life =
      record {
        box = (swapped_of s.box life).outbox;
        row = s.row;
        made = s.made;
        turned = s.turned;
        voids = s.voids;
        emptied = s.emptied ++ cond (eqb (swapped_of s.box life).number 0) (entries_in s.box) [];
        sent = s.sent;
        accepted = s.accepted;
        acks = s.acks;
      }

  -- the moments that can be reached, for any list of these events. The node sends any of what it holds, the oldest, which it offers, or others with it. The link loses, repeats and reorders: what arrives is any of what was sent before, at any time
  -- and any number of times, or never. It invents nothing: of this cell nothing else arrives. The row is cleared at the start only
  pub data Run : Moment G → Type 0 where
    starts : (g : G.State) → (fresh_of cell).number ≡ 0 → G.life g ≡ 0 → G.next g ≡ 0 → Run (first g)
    makes : {s : Moment G} → Run s → (e : Entry) → Run (making s e)
    puts_void : {s : Moment G} → Run s → Run (voiding s)
    sends : {s : Moment G} → Run s → (e : Entry) → Among e (entries_in s.box) → Run (sending s e)
    hears : {s : Moment G} → Run s → (c : G.Call) (taken : Bool) (h : G.State) → G.Gives s.row c taken h
        → Among (G.brings c) s.sent ⊎ ¬ (cell_of (G.brings c) ≡ cell) → Run (hearing s c taken h)
    answers : {s : Moment G} → Run s → Run (answering s)
    learns : {s : Moment G} → Run s → (a : Ack) → Among a s.acks → Run (learning s a)
    swaps : {s : Moment G} → Run s → (life : ℕ) → Run (swapping s life)

-- ---- what the theorems say
-- an entry of the outbox was heard, its reading or its void: what the gateway accepted in its life at its count stands in the same place of what was made
pub record HeardAs (made voids heard : List Entry) (e : Entry) : Type 0 where
  pub was : Entry
  pub place : At (of_life (life_in e) made) (count_in e) was
  pub own : Holds voids was e
  pub x : Entry
  pub at : At (of_life (life_in e) heard) (count_in e) x
  pub same_place : Holds voids was x

-- what an acknowledgement did, sent when the gateway had accepted `heard`: each entry that it removed had been heard, and none of those left had
pub record Told (made voids heard : List Entry) (before after : List Entry) : Type 0 where
  pub removed : List Entry
  pub split : before ≡ removed ++ after
  pub all_heard : (p : Entry) → Among p removed → HeardAs made voids heard p
  pub none_left : (p : Entry) → Among p after → (x : Entry) → Among x heard → notice_of x ≡ notice_of p → ⊥

-- what became of the entry m that was made at place i of a life: it, or its void, was accepted there; or is still held; or a swap emptied it
abbrev pub Fate : {G : Gateway} → Moment G → ℕ → ℕ → Entry → Type 0
Fate s l i m =
    ((x : Entry) × At (of_life l s.accepted) i x × Holds s.voids m x)
    ⊎ ((p : Entry) × Among p (held_of s.box) × Holds s.voids m p)
    ⊎ ((x : Entry) × Among x s.emptied × Holds s.voids m x)
