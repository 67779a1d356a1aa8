-- DEMAND 3. For any plot of a site, from its cleared row, over the answers that the site's step gave to any calls in any order, refused ones and other plots' among them. Assumes nothing.
use Rattle.std.specs.Prelude.{Ok}
use mathlib.Core.Path.{◌≡◌, refl, sym, ap, ◌∙◌}
use mathlib.Core.Bool.{true, ◌&&◌}
use mathlib.Core.Logic.{inr}
use mathlib.Core.List.{List, [], ◌∷◌, ◌++◌}
use Prim.Native.Nat.{ℕ, zero, suc, ◌+◌, ◌-◌, ◌<◌, min}
use lib.IntN.{ℤ, pos}
use lib.ListN.{take, drop, get_or, replicate}
use Rattle.cell.specs.Answers.{Answer}
use Rattle.cell.specs.declared.Amounts.{Amounts}
use Rattle.cell.specs.declared.Card.{Card}
use Rattle.cell.specs.declared.Depth.{Depth}
use Rattle.cell.specs.declared.Entry.{Entry}
use Rattle.cell.specs.declared.Notice.{Notice}
use Rattle.cell.specs.Ranges.{card_ok, soil_ok, soil_of, row_width, row_ok, notice_ok, notice_of, cell_of, life_of, next_of, queue_of}
use Rattle.cell.specs.RangeLaws.{cleared_queue}
use Rattle.cell.specs.Refusals.{fields_verdict}
use Rattle.cell.proofs.CheckLaws.{InOrder, order_old, order_gap}
use Rattle.cell.specs.Step.{amounts_by, shift_amounts, sums_take, answer_of, step_delay}
use Rattle.cell.proofs.AnswerLaws.{lets_through, moves, void_through, void_row, void_amounts, void_draws}
use Rattle.cell.specs.Queue.{slot, just, shifted}
use Rattle.cell.specs.QueueLaws.{just_none, just_same}
use Rattle.cell.specs.Sums.{runoff_at, drain_at, added}
use Rattle.site.specs.Rows.{part_at, put_at}
use Rattle.site.specs.Site.{soil_width, soil_fits, rows_fit, cell_fits, site_answer, site_rows, SiteGives, ClearGives}
use Rattle.site.proofs.SiteLaws.{gives, reached, rows_reached, cleared_part}
use Rattle.account.specs.Ledger.{Kept, InSequence, put, drew, freed}
use Rattle.account.specs.Run.{Call, Ran, done, then, row_of, step_of, history_of}
use Rattle.account.proofs.Induction.{start, step, along}
use Rattle.account.proofs.Order.{Ordered, begins, goes_on}

-- of each group all the water that went in was drawn by plants, or released, or stands in the queue; a step's draws over all groups are its etstor;
-- what stands for all groups is what the last answer says is left; and inflow = runoff + plant use + drainage + net recharge + waiting
pub demand3 : (card : Card) (p : ℕ) {rows after : List ℕ} {cs : List Call} {answers : List Answer} → row_of card p rows ≡ replicate (row_width card) 0
    → (ran : Ran card rows cs answers after) → Kept (history_of p [] ran) (queue_of card.delays (row_of card p after))
demand3 card p e ran =
    along card p (λ h row. Kept h (queue_of card.delays row)) (λ h soil row i a e. step (step_of card soil row i a) (moves card soil row i a e)) [] ran
    (rw (e, cleared_queue (row_width card) card.delays) (start (min card.delays (row_width card - 2))))

-- the same from rows that `site::clear` has cleared
pub after_clearing : (card : Card) (p : ℕ) {rows cleared after : List ℕ} {cs : List Call} {answers : List Answer} → ClearGives card rows (Ok tt) cleared → p < card.cells
    → (ran : Ran card cleared cs answers after) → Kept (history_of p [] ran) (queue_of card.delays (row_of card p after))
after_clearing card p {rows} g h ran = demand3 card p (rw g.rows_are (cleared_part card rows (sym g.number_is) p h)) ran

-- every list of calls has such a run: demand 3 speaks of something
pub some_run : (card : Card) (rows : List ℕ) (cs : List Call) → (answers : List Answer) × (after : List ℕ) × Ran card rows cs answers after
some_run card rows [] = ([], rows, done)
some_run card rows (c ∷ cs) =
    let m = some_run card (site_rows card c.soil rows c.entry) cs in
    (site_answer card c.soil rows c.entry ∷ m.0, m.1, then (gives card c.soil rows c.entry refl refl) m.2)

-- at each moment: the first k calls and their answers are such a run from the same rows, and the rest is one from the rows that it left
pub each_moment : (k : ℕ) {card : Card} {rows after : List ℕ} {cs : List Call} {answers : List Answer} → Ran card rows cs answers after
    → (now : List ℕ) × Ran card rows (take k cs) (take k answers) now × Ran card now (drop k cs) (drop k answers) after
each_moment zero {rows = rows} ran = (rows, done, ran)
each_moment (suc k) done = (_, done, done)
each_moment (suc k) (then g ran) = let m = each_moment k ran in (m.0, then g m.1, m.2)

-- in the order of acceptance the plot's first step has count 0, and each other is the next count of the same life or count 0 of a higher one
pub in_order : (card : Card) (p : ℕ) {rows after : List ℕ} {cs : List Call} {answers : List Answer} → row_of card p rows ≡ replicate (row_width card) 0
    → (ran : Ran card rows cs answers after) → InSequence (history_of p [] ran)
in_order card p e ran = (along card p Ordered (goes_on card) [] ran (rw e (begins (row_width card)))).0

-- a fresh life is accepted from count 0, whatever the old count was: the only checks left are those that do not look at lives and counts, 15 [6] among them
pub fresh_life : (card : Card) (soil : List ℤ) (rows : List ℕ) (i : Entry) (d : Depth)
    → card_ok card ≡ true → (soil_fits card soil && rows_fit card rows) ≡ true → cell_fits card i ≡ true
    → soil_ok (part_at soil_width (cell_of i) soil) ≡ true → row_ok card (row_of card (cell_of i) rows) ≡ true
    → fields_verdict (get_or (part_at soil_width (cell_of i) soil) 0 (pos 0)) i ≡ Ok d
    → sums_take card (soil_of (part_at soil_width (cell_of i) soil)) i d (row_of card (cell_of i) rows) ≡ true
    → life_of (row_of card (cell_of i) rows) < (notice_of i).life → (notice_of i).count ≡ 0
    → site_answer card soil rows i ≡ Ok (amounts_by card (soil_of (part_at soil_width (cell_of i) soil)) i d (queue_of card.delays (row_of card (cell_of i) rows)))
fresh_life card soil rows i d c l k s w f room young zero-count =
    let row = row_of card (cell_of i) rows in
    let o : InOrder (life_of row) (next_of row) (notice_of i) = inr (young, zero-count) in
    reached card soil rows i l k
    ∙ lets_through card (part_at soil_width (cell_of i) soil) row i d
    (record { card_ok_lem = c; soil_ok_lem = s; row_ok_lem = w; not_old = order_old (life_of row) (next_of row) (notice_of i) o; not_gap = order_gap (life_of row) (next_of row) (notice_of i) o; fields_fine = f })
    room

-- [3] a void is never in the way: with its life and count in range and in order it is accepted, whatever the day was; the queue shifts, the count is used up, and the sums grow by 0
pub void_passes : (card : Card) (soil : List ℤ) (rows : List ℕ) (n : Notice)
    → card_ok card ≡ true → (soil_fits card soil && rows_fit card rows) ≡ true → cell_fits card (Entry.Void n) ≡ true
    → soil_ok (part_at soil_width n.cell soil) ≡ true → row_ok card (row_of card n.cell rows) ≡ true
    → notice_ok n ≡ true → InOrder (life_of (row_of card n.cell rows)) (next_of (row_of card n.cell rows)) n
    → SiteGives card soil rows (Entry.Void n) (Ok (shift_amounts (queue_of card.delays (row_of card n.cell rows))))
    (put_at (row_width card) n.cell
    (added drain_at 0 (added runoff_at 0 (n.life ∷ (n.count + 1) ∷ (shifted (queue_of card.delays (row_of card n.cell rows)) ++ drop card.delays (drop 2 (row_of card n.cell rows)))))) rows)
void_passes card soil rows n c l k s w f o =
    let own = part_at soil_width n.cell soil in
    let row = row_of card n.cell rows in
    gives card soil rows (Entry.Void n)
    (sym (reached card soil rows (Entry.Void n) l k ∙ void_through card own row n c s w f o))
    (sym (rows_reached card soil rows (Entry.Void n) l k ∙ ap (λ (t : List ℕ). put_at (row_width card) n.cell t rows) (void_row card own row n c s w f o)))

-- and its step puts nothing into any group and draws from none; the group whose step it is, which stood in slot 1, is released
pub void_step : (card : Card) (soil : List ℤ) (row : List ℕ) (n : Notice) (a : Amounts) → answer_of card soil row (Entry.Void n) ≡ Ok a → (k t : ℕ)
    → (put k (step_of card soil row (Entry.Void n) a) t ≡ 0) × (drew k (step_of card soil row (Entry.Void n) a) t ≡ 0)
    × (freed k (step_of card soil row (Entry.Void n) a) k ≡ slot (queue_of card.delays row) 1)
void_step card soil row n a e k t =
    let d = step_delay card soil row (Entry.Void n) in (
      ap (just (k + d) t) (void_amounts card soil row n a e).stored ∙ just_none (k + d) t,
      void_draws card soil row n (t - k),
      just_same k k a.release.0 refl ∙ (moves card soil row (Entry.Void n) a e).first,
    )
