-- What reading a line comes to, and that what is read is settled by its number, bytes, line and value. Assumes nothing.
use Rattle.std.specs.Prelude.{◌≡◌, refl, List, Bool, true, false, cond, ℕ, ℤ, length, Some, None, Result, Ok, Err}
use Rattle.std.proofs.Common.{sym, ap, ◌∙◌, arith}
use Rattle.std.proofs.lemmas.List.Edits.{sets}
use Rattle.form.specs.Form.{Out, form_at, taken_of, marks}
use Rattle.form.specs.Put.{sets_all}
use Rattle.form.specs.RunLaws.{form_length, took, not_taken}
use Rattle.text.specs.declared.Read.{Read}
use Rattle.text.specs.declared.Unread.{Unread}
use Rattle.text.specs.declared.Unread.TheVariants.{Malformed, ShortSoil}
use Rattle.text.specs.Reads.{unread_number, number_read, taken_read, line_read, value_read, values_read}

-- a form that stands at the start of s, and one that does not
pub line_good : (f s : List ℕ) (n : ℕ) (z v : List ℤ) → length z ≡ marks f → taken_of (form_at f s 0) ≡ Some n → v ≡ sets z 0 (form_at f s 0).vals
    → Ok (record { taken = n; value = v }) ≡ values_read (form_at f s 0)
line_good f s n z v l e g =
    let k = took (form_at f s 0) n e in
    let m : length (form_at f s 0).vals ≡ marks f = form_length f s 0 k.0 in
    rw (k.0, k.1, g, sets_all z (form_at f s 0).vals (m ∙ sym l))

pub line_bad : (f s : List ℕ) → taken_of (form_at f s 0) ≡ None → ◌≡◌ {A = Result (Read (List ℤ)) Unread} (Err (Malformed 1)) (values_read (form_at f s 0))
line_bad f s e = rw (not_taken (form_at f s 0) e)

took_by : (b : Bool) (n : ℕ) (vs : List ℤ) (x : Read (List ℤ)) → Ok x ≡ cond b (Ok (record { taken = n; value = vs })) (Err (Malformed 1)) → (b ≡ true) × (x.taken ≡ n) × (x.value ≡ vs)
took_by true n vs x p =
    let q : x ≡ record { taken = n; value = vs } = cc in
    (refl, ap (λ (y : Read (List ℤ)). y.taken) q, ap (λ (y : Read (List ℤ)). y.value) q)
took_by false n vs x p = absurd cc

stopped_by : (b : Bool) (n : ℕ) (vs : List ℤ) (e : Unread) → ◌≡◌ {A = Result (Read (List ℤ)) Unread} (Err e) (cond b (Ok (record { taken = n; value = vs })) (Err (Malformed 1))) → (b ≡ false) × (e ≡ Malformed 1)
stopped_by true n vs e p = absurd cc
stopped_by false n vs e p = (refl, cc)

-- what reading a line gave: all of it stood there, or the line is malformed
pub read_took : (o : Out) (x : Read (List ℤ)) → Ok x ≡ values_read o → (o.ok ≡ true) × (x.taken ≡ o.next) × (x.value ≡ o.vals)
read_took o x p = took_by o.ok o.next o.vals x p

pub read_stopped : (o : Out) (e : Unread) → ◌≡◌ {A = Result (Read (List ℤ)) Unread} (Err e) (values_read o) → (o.ok ≡ false) × (e ≡ Malformed 1)
read_stopped o e p = stopped_by o.ok o.next o.vals e p

-- a refused reader has a number other than 0
pub no_zero : (e : Unread) → unread_number e ≡ 0 → ⊥
no_zero (Malformed n) p = omega (arith, p)
no_zero ShortSoil p = omega (arith, p)

-- two results that come to the same numbers and value are the same
pub read_settled : {T : Type 0} (zeros : T) (r r' : Result (Read T) Unread)
    → number_read r ≡ number_read r' → taken_read r ≡ taken_read r' → line_read r ≡ line_read r' → value_read zeros r ≡ value_read zeros r' → r ≡ r'
read_settled zeros (Ok a) (Ok b) n t l v = ap (λ (k : ℕ). Ok (record { taken = k; value = a.value })) t ∙ ap (λ x. Ok (record { taken = b.taken; value = x })) v
read_settled zeros (Ok a) (Err (Malformed k)) n t l v = absurd (omega (arith, n))
read_settled zeros (Ok a) (Err ShortSoil) n t l v = absurd (omega (arith, n))
read_settled zeros (Err (Malformed k)) (Ok b) n t l v = absurd (omega (arith, n))
read_settled zeros (Err ShortSoil) (Ok b) n t l v = absurd (omega (arith, n))
read_settled zeros (Err (Malformed k)) (Err (Malformed j)) n t l v = ap (λ (i : ℕ). Err (Malformed i)) l
read_settled zeros (Err (Malformed k)) (Err ShortSoil) n t l v = absurd (omega (arith, n))
read_settled zeros (Err ShortSoil) (Err (Malformed j)) n t l v = absurd (omega (arith, n))
read_settled zeros (Err ShortSoil) (Err ShortSoil) n t l v = refl
