use Rattle.std.proofs.Common.{to_z-of_z, w64, rules, length, ◌≡◌, ℕ, Bool, false, ◌&&◌, cond, leb, ltb, get_or, List, ℤ, pos, negsuc, refl, sym, ◌∙◌, arith}
use Rattle.std.specs.Int.Signed.{lt_z, le_z}
use Rattle.std.specs.Range.{range_inclusive_contains, range_inclusive_start, range_inclusive_end, range_inclusive_exhausted}
use Rattle.std.specs.declared.ops.RangeInclusive.{RangeInclusive}
use Rattle.std.specs.Ordering.{is_le}
use Rattle.std.specs.declared.cmp.Ordering.TheVariants.{Less, Greater, Equal}
use Rattle.std.specs.contracts.prelude.I64PartialOrd.TheImpl as i64
use Rattle.cell.specs.Ranges.{soil_ok, soil_of, within}
use Rattle.cell.proofs.ranges.Soil.of.Goals as goal

at_most_nat : (a b : ℕ) → is_le (cond (ltb a b) Less (cond (ltb b a) Greater Equal)) ≡ leb a b
at_most_nat a b = grind arith

at_most : (a b : ℤ) → is_le (cond (lt_z a b) Less (cond (lt_z b a) Greater Equal)) ≡ le_z a b
at_most (pos a) (pos b) = at_most_nat a b
at_most (pos a) (negsuc b) = refl
at_most (negsuc a) (pos b) = refl
at_most (negsuc a) (negsuc b) = at_most_nat b a

-- a range's own test of a number is the rule's
contained : {lo hi : ℤ} (z : ℤ) {r : RangeInclusive ℤ} {b : Bool} → range_inclusive_start r ≡ lo → range_inclusive_end r ≡ hi → range_inclusive_exhausted r ≡ false
    → b ≡ range_inclusive_contains (i64.partial_cmp-value).it r z → within lo hi z ≡ b
unfolding within
contained {lo = lo} {hi = hi} z es ee ex e = sym (rw (e, es, ee, ex) (rw (at_most lo z, at_most z hi) refl))

tests : (s : List ℤ) {t e v l c : Bool} → length s ≡ 5 → within (negsuc 9999999999) (pos 10000000000) (get_or s 0 (pos 0)) ≡ t → within (pos 1) (pos 100000000) (get_or s 1 (pos 0)) ≡ e
    → within (pos 1) (pos 1000) (get_or s 2 (pos 0)) ≡ v → within (pos 0) (pos 1000000) (get_or s 3 (pos 0)) ≡ l → within (pos 1) (pos 100) (get_or s 4 (pos 0)) ≡ c
    → soil_ok s ≡ (t && e && v && l && c)
unfolding soil_ok
tests s five t e v l c = rw (five, t, e, v, l, c)

pub returns-in_default : goal.returns-in_default
unfolding soil_ok
returns-in_default c =
    (grind arith, refl)

pub returns-in_default-2 : goal.returns-in_default-2
unfolding soil_ok
returns-in_default-2 c =
    (grind arith, refl)

pub returns-then-not-fit : goal.returns-then-not-fit
returns-then-not-fit c =
    let ok =
    tests c.args.s.now (omega arith) (contained _ c.new.ensures.start c.new.ensures.end c.new.ensures.exhausted c.contains.ensures.value)
    (contained _ c.new-2.ensures.start c.new-2.ensures.end c.new-2.ensures.exhausted c.contains-2.ensures.value)
    (contained _ c.new-3.ensures.start c.new-3.ensures.end c.new-3.ensures.exhausted c.contains-3.ensures.value)
    (contained _ c.new-4.ensures.start c.new-4.ensures.end c.new-4.ensures.exhausted c.contains-4.ensures.value)
    (contained _ c.new-5.ensures.start c.new-5.ensures.end c.new-5.ensures.exhausted c.contains-5.ensures.value) in
    (ok ∙ c.if-not-fit.true, refl)

pub returns : goal.returns
unfolding soil_of
returns c =
    let ok =
    tests c.args.s.now (omega arith) (contained _ c.new.ensures.start c.new.ensures.end c.new.ensures.exhausted c.contains.ensures.value)
    (contained _ c.new-2.ensures.start c.new-2.ensures.end c.new-2.ensures.exhausted c.contains-2.ensures.value)
    (contained _ c.new-3.ensures.start c.new-3.ensures.end c.new-3.ensures.exhausted c.contains-3.ensures.value)
    (contained _ c.new-4.ensures.start c.new-4.ensures.end c.new-4.ensures.exhausted c.contains-4.ensures.value)
    (contained _ c.new-5.ensures.start c.new-5.ensures.end c.new-5.ensures.exhausted c.contains-5.ensures.value) in
    let s = c.args.s.now in (
      ok ∙ c.if-not-fit.false,
      rw (
        c.unsigned_abs.ensures.value,
        c.unsigned_abs-2.ensures.value,
        c.unsigned_abs-3.ensures.value,
        c.unsigned_abs-4.ensures.value,
        to_z-of_z {w = w64} {z = get_or s 0 (pos 0)} (search rules),
        to_z-of_z {w = w64} {z = get_or s 1 (pos 0)} (search rules),
        to_z-of_z {w = w64} {z = get_or s 2 (pos 0)} (search rules),
        to_z-of_z {w = w64} {z = get_or s 3 (pos 0)} (search rules),
        to_z-of_z {w = w64} {z = get_or s 4 (pos 0)} (search rules),
      ),
    )
