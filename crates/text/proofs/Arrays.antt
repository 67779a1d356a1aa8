-- An array whose numbers are mapped is the list mapped. Assumes nothing.
use Rattle.std.specs.Prelude.{◌≡◌, List, map, ℕ, length}
use Rattle.std.specs.Array.{IsMapOf}
use Rattle.std.proofs.Common.{sym, ◌∙◌}
use Rattle.std.proofs.lemmas.List.{ext_get_or, get_or-map, length-map}
use denote.Param.Members.{Mut, Called}

-- where each call gives h of its number
pub map_of : {F A B : Type 0} (g : Mut F (A × Unit {0}) B) (h : A → B) (f : F) (d : A) (xs : List A) (ys : List B) (n : ℕ)
    → length xs ≡ n → IsMapOf g f xs ys n → ((p q : F) (x : A) (y : B) → Called g p (x, tt) y q → y ≡ h x) → ys ≡ map h xs
map_of g h f d xs ys n l m same =
    ext_get_or (h d) ys (map h xs) (m.long ∙ sym l ∙ sym (length-map xs h))
    (λ i k. let r = m.at i d (h d) (rw m.long at k) in same r.0 r.1 _ _ r.2 ∙ sym (get_or-map h xs i d (h d) (rw (m.long ∙ sym l) at k)))
