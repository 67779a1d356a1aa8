-- A form that stands several times, one behind the other. Definitions only.
use Rattle.std.specs.Prelude.{Result, Ok, Err, List, [], ◌++◌, Bool, true, false, cond, ◌&&◌, ℕ, zero, suc, take, drop, ℤ}
use Rattle.form.specs.Form.{form_at, marks, form_text, fits}

-- what reading n times a form finds: as for one form, and how many stood there
pub record Run : Type 0 where
  pub ok : Bool
  pub next : ℕ
  pub good : ℕ
  pub vals : List ℤ

abbrev pub onto : List ℤ → Run → Run
onto vs r = record { ok = r.ok; next = r.next; good = suc r.good; vals = vs ++ r.vals }

unfoldable pub many_at : ℕ → List ℕ → List ℕ → ℕ → Run
many_at zero f s at = record { ok = true; next = at; good = 0; vals = [] }
many_at (suc n) f s at =
    let o = form_at f s at in
    let r = onto o.vals (many_at n f s o.next) in
    cond o.ok r (record { ok = false; next = 0; good = 0; vals = o.vals })

-- the text of n rows with values
unfoldable pub rows_text : ℕ → List ℕ → List ℤ → List ℕ
rows_text zero f vs = []
rows_text (suc n) f vs = form_text f (take (marks f) vs) ++ rows_text n f (drop (marks f) vs)

-- the place after the rows, or how many stood
abbrev pub stood_of : Run → Result ℕ ℕ
stood_of r = cond r.ok (Ok r.next) (Err r.good)

-- which values n rows can carry: those at the front, row by row
unfoldable pub many_fit : ℕ → List ℕ → List ℤ → Bool
many_fit zero f vs = true
many_fit (suc n) f vs = let r = many_fit n f (drop (marks f) vs) in fits f vs && r
