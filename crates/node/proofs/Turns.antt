-- What the code reads of rows of numbers, and a turn, and the end, of each loop over them. Assumes nothing.
use Rattle.std.specs.Prelude.{◌≡◌, refl, Bool, true, false, cond, ◌&&◌, Option, Some, None, List, [], ◌∷◌, ◌++◌, map, ℕ, zero, suc, ◌+◌, ◌-◌, ◌*◌, ◌/◌, ◌≤◌, ◌<◌, eqb, length, take, drop, get_or}
use Rattle.std.specs.List.{list_all}
use Rattle.std.specs.Simd.{first_chunks}
use Rattle.std.proofs.Common.{sym, ap, ◌∙◌, arith, set, add-one, append_assoc, append-nil, length-append, length-drop, length-take-le, drop-cons, drop-drop, drop_of_length-le, take_all, take_at}
use Rattle.std.proofs.lemmas.Bool.{ne_eqb}
use Rattle.std.proofs.Math.Seq.{take-suc-set}
use borrow.Rule.Slice.PartMut.{put_mid, mid_of}
use Rattle.cell.specs.declared.Entry.{Entry}
use Rattle.shapes.specs.Shapes.{reading_from, notice_from}
use Rattle.node.specs.Numbers.{zeros, is_entry, entry_from, entry_numbers, places_from, are_entries, place_numbers, all_entries}

pub zeros_all : (l : List ℕ) → list_all (λ n. eqb n 0) l ≡ zeros l
unfolding zeros
zeros_all [] = refl
zeros_all (n ∷ l) = ap (λ (r : Bool). eqb n 0 && r) (zeros_all l)

pub rest_is : (a : ℕ) (l : List ℕ) → take (length l - a) (drop a l) ≡ drop a l
rest_is a l = take_all (length l - a) (drop a l) (omega (arith, length-drop a l))

-- ---- an entry, by its kind
abbrev pub read_entry : List ℕ → Option Entry
read_entry l = cond (is_entry l) (Some (entry_from l)) None

module _ (l : List ℕ) {row : List ℕ} (r : row ≡ drop 1 l) where
  pub reads_reading : get_or l 0 0 ≡ 0 → Some (Entry.Reading (reading_from row)) ≡ read_entry l
  unfolding is_entry entry_from
  reads_reading k = rw (r, k)

  pub figures : drop 4 l ≡ drop 3 row
  figures = sym (drop-drop 3 1 l) ∙ ap (drop 3) (sym r)

  pub reads_void : get_or l 0 0 ≡ 1 → zeros (drop 3 row) ≡ true → Some (Entry.Void (notice_from (take 3 row))) ≡ read_entry l
  unfolding is_entry entry_from
  reads_void k z = let e : zeros (drop 4 l) ≡ true = ap zeros figures ∙ z in rw (r, k, e)

  pub reads_figures : get_or l 0 0 ≡ 1 → zeros (drop 3 row) ≡ false → None ≡ read_entry l
  unfolding is_entry
  reads_figures k z = let e : zeros (drop 4 l) ≡ false = ap zeros figures ∙ z in rw (k, e)

pub reads_none : (l : List ℕ) → (get_or l 0 0 ≡ 0 → ⊥) → (get_or l 0 0 ≡ 1 → ⊥) → None ≡ read_entry l
unfolding is_entry
reads_none l m n = rw (ne_eqb (get_or l 0 0) 0 m, ne_eqb (get_or l 0 0) 1 n)

-- what was read was an entry, or was none
pub was_entry : (l : List ℕ) (e : Entry) → read_entry l ≡ Some e → (is_entry l ≡ true) × (e ≡ entry_from l)
was_entry l e p = go (is_entry l) refl p
  where
    go : (b : Bool) → is_entry l ≡ b → cond b (Some (entry_from l)) None ≡ Some e → (is_entry l ≡ true) × (e ≡ entry_from l)
    go true q h = (q, cc)
    go false q h = cc

pub was_none : (l : List ℕ) → read_entry l ≡ None → is_entry l ≡ false
was_none l p = go (is_entry l) refl p
  where
    go : (b : Bool) → is_entry l ≡ b → cond b (Some (entry_from l)) None ≡ None → is_entry l ≡ false
    go true q h = cc
    go false q h = q

-- ---- the places of a box, row by row
chunk_places : (k : ℕ) (l : List ℕ) → map entry_from (first_chunks 11 k l) ≡ places_from k l
unfolding places_from
chunk_places zero l = refl
chunk_places (suc k) l = ap (λ (ps : List Entry). entry_from (take 11 l) ∷ ps) (chunk_places k (drop 11 l))

chunk_entries : (k : ℕ) (l : List ℕ) → list_all is_entry (first_chunks 11 k l) ≡ are_entries k l
unfolding are_entries
chunk_entries zero l = refl
chunk_entries (suc k) l = ap (λ (r : Bool). is_entry (take 11 l) && r) (chunk_entries k (drop 11 l))

module _ (l : List ℕ) (wide : length l ≡ 334) {rows : List (List ℕ)} (are : rows ≡ first_chunks 11 (length (mid_of 4 330 l) / 11) (mid_of 4 330 l)) where
  all_is : mid_of 4 330 l ≡ drop 4 l
  all_is = take_all 330 (drop 4 l) (omega (arith, length-drop 4 l))

  count_is : length (mid_of 4 330 l) / 11 ≡ 30
  count_is = let n : length (mid_of 4 330 l) ≡ 330 = ap length all_is ∙ omega (arith, length-drop 4 l) in ap (λ k. k / 11) n

  pub rows_places : map entry_from rows ≡ places_from 30 (drop 4 l)
  rows_places = ap (map entry_from) are ∙ chunk_places (length (mid_of 4 330 l) / 11) (mid_of 4 330 l) ∙ rw (count_is, all_is)

  pub rows_entries : list_all is_entry rows ≡ all_entries l
  unfolding all_entries
  rows_entries = ap (list_all is_entry) are ∙ chunk_entries (length (mid_of 4 330 l) / 11) (mid_of 4 330 l) ∙ rw (count_is, all_is)

module _ (rows : List (List ℕ)) (i : ℕ) (d : List ℕ) (here : i < length rows) where
  pub row_entry : is_entry (get_or rows i d) ≡ true → list_all is_entry (drop (i + 1) rows) ≡ list_all is_entry (drop i rows)
  row_entry e = rw (drop-cons rows i d here, e, add-one i)

  pub row_none : is_entry (get_or rows i d) ≡ false → false ≡ list_all is_entry (drop i rows)
  row_none e = rw (drop-cons rows i d here, e)

  pub row_read : (ps : List Entry) (e : Entry) → i < length ps → e ≡ entry_from (get_or rows i d)
      → take (i + 1) (set ps i e) ++ map entry_from (drop (i + 1) rows) ≡ take i ps ++ map entry_from (drop i rows)
  row_read ps e h q =
      rw (drop-cons rows i d here, add-one i, take-suc-set ps i e h, q) (append_assoc (take i ps) (entry_from (get_or rows i d) ∷ []) (map entry_from (drop (suc i) rows)))

pub rows_end : (rows : List (List ℕ)) (ps : List Entry) (i : ℕ) → length rows ≤ i → length ps ≤ i → take i ps ++ map entry_from (drop i rows) ≡ ps
rows_end rows ps i h n = rw (drop_of_length-le rows h, take_all i ps n) (append-nil ps)

-- ---- the places written one after the other: what is written and what is left come to the whole
on : (i : ℕ) → 4 + 11 * (i + 1) ≡ 4 + 11 * i + 11
on i = omega arith

pub put_turn : (out ns : List ℕ) (ps : List Entry) (i : ℕ) (d : Entry) → length out ≡ 334 → i < 30 → i < length ps → length ns ≡ 11 → ns ≡ entry_numbers (get_or ps i d)
    → take (4 + 11 * (i + 1)) (put_mid (4 + 11 * i) (4 + 11 * i + 11 - (4 + 11 * i)) out ns) ++ place_numbers (drop (i + 1) ps) ≡ take (4 + 11 * i) out ++ place_numbers (drop i ps)
unfolding place_numbers
put_turn out ns ps i d w h k n e =
    let a = 4 + 11 * i in
    let post = drop (a + 11 - a) (drop a out) in
    let m : length (take a out ++ ns) ≡ a + 11 = omega (arith, length-append (take a out) ns, length-take-le a out (omega arith)) in
    let t : take (a + 11) (take a out ++ (ns ++ post)) ≡ take a out ++ ns = rw (← append_assoc (take a out) ns post) (take_at (take a out ++ ns) post (a + 11) m) in
    rw (on i, t, drop-cons ps i d k, add-one i, ← e) (append_assoc (take a out) ns (place_numbers (drop (suc i) ps)))

pub put_end : (out : List ℕ) (ps : List Entry) (i : ℕ) → length out ≡ 334 → length ps ≡ 30 → 30 ≤ i → take (4 + 11 * i) out ++ place_numbers (drop i ps) ≡ out
unfolding place_numbers
put_end out ps i w n h = rw (take_all (4 + 11 * i) out (omega arith), drop_of_length-le ps {i = i} (omega arith)) (append-nil out)
