-- What the site answers, and what adding has made, can be printed. Assumes nothing.
use Rattle.std.specs.Prelude.{◌≡◌, Bool, true, List, ◌++◌, ℕ, ◌*◌, ◌≤◌, leb, length, drop}
use Rattle.std.proofs.Common.{ap, arith, le-leb}
use Rattle.cell.specs.declared.Amounts.{Amounts}
use Rattle.site.specs.declared.Sheet.{Sheet}
use Rattle.site.specs.SheetLaws.{AmountsWithin, SheetIn}
use Rattle.text.specs.Printed.{most, amounts_printable, sheet_printable, line_checks}
use Rattle.text.specs.Written.{Written, fits_in, Writes}
use Rattle.text.proofs.WrittenLaws.{writes_text}

fits : (n m : ℕ) → n ≤ m → m ≤ most → leb n most ≡ true
fits n m h k = le-leb n most (omega arith)

-- what can be printed, number by number
pub small_amounts : (a : Amounts)
    → leb a.inflow.0 most ≡ true
    → leb a.runoff.0 most ≡ true
    → leb a.etvad.0 most ≡ true
    → leb a.etstor.0 most ≡ true
    → leb a.etsat.0 most ≡ true
    → leb a.drain.0 most ≡ true
    → leb a.release.0 most ≡ true
    → leb a.stored.0 most ≡ true
    → leb a.left.0 most ≡ true
    → amounts_printable a ≡ true
unfolding amounts_printable
small_amounts a i r v s t d l w f = rw (i, r, v, s, t, d, l, w, f)

pub small_sums : (s : Sheet)
    → leb s.steps most ≡ true
    → leb s.inflow.0 most ≡ true
    → leb s.runoff.0 most ≡ true
    → leb s.etvad.0 most ≡ true
    → leb s.etstor.0 most ≡ true
    → leb s.etsat.0 most ≡ true
    → leb s.drain.0 most ≡ true
    → leb s.release.0 most ≡ true
    → leb s.stored.0 most ≡ true
    → sheet_printable s ≡ true
unfolding sheet_printable
small_sums s n i r v x t d l w = rw (n, i, r, v, x, t, d, l, w)

pub amounts_printable_lem : (a : Amounts) → AmountsWithin a → amounts_printable a ≡ true
amounts_printable_lem a h =
    let q : 30000000000 ≤ most = omega arith in
    small_amounts a
    (fits _ _ h.inflow q)
    (fits _ _ h.runoff q)
    (fits _ _ h.etvad q)
    (fits _ _ h.etstor q)
    (fits _ _ h.etsat q)
    (fits _ _ h.drain q)
    (fits _ _ h.release q)
    (fits _ _ h.stored q)
    (fits _ _ h.left q)

pub sheet_printable_lem : (s : Sheet) → SheetIn s → sheet_printable s ≡ true
sheet_printable_lem s h =
    let k = h.sums in
    let q : 30000000000 * s.steps ≤ most = omega (arith, h.steps) in
    small_sums s
    (fits _ _ h.steps (omega arith))
    (fits _ _ k.inflow q)
    (fits _ _ k.runoff q)
    (fits _ _ k.etvad q)
    (fits _ _ k.etstor q)
    (fits _ _ k.etsat q)
    (fits _ _ k.drain q)
    (fits _ _ k.release q)
    (fits _ _ k.stored q)

-- a text that can be printed and has room stands at the buffer's start
pub prints_text : (p : Bool) (t b : List ℕ) (w : Written) (after : List ℕ) → Writes (line_checks p t b) t b w after → p ≡ true → length t ≤ length b → (w.len ≡ length t) × (after ≡ t ++ drop (length t) b)
prints_text p t b w after h e l =
    let k : fits_in t b ≡ true = le-leb _ _ l in
    let (x, y) = writes_text (line_checks p t b) t b w after h (rw (e, k)) in
    (ap (λ (x : Written). x.len) x, y)
