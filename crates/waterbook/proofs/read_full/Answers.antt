use Rattle.std.proofs.Common.{ℕ, List, ◌≡◌, ◌≤◌, ◌+◌, ◌-◌, ◌++◌, length, take, refl, sym, ap, ◌∙◌, subst, arith, rules, length-take-le, take-take}
use Rattle.std.proofs.lemmas.Slice.{take-put_mid}
use Rattle.std.proofs.Math.Seq.{take-append-add}
use Rattle.std.specs.Io.KnownBytes.{Consumes}
use Rattle.std.proofs.KnownBytes.{Consumes-trans}
use borrow.Rule.Slice.PartMut.{put_mid}
use Rattle.waterbook.proofs.read_full.Goals as goal

-- what was filled before a read into the rest, and then the first bytes of that read
filled_more : (a m k : ℕ) (xs ys : List ℕ) → a ≤ length xs → m ≤ length ys → take (a + m) (put_mid a k xs ys) ≡ take a xs ++ take m ys
filled_more a m k xs ys h l =
    sym (take-take (a + m) (a + length ys) (put_mid a k xs ys) (omega arith))
    ∙ ap (take (a + m)) (take-put_mid a k xs ys (a + length ys) refl h)
    ∙ ap (λ n. take (n + m) (take a xs ++ ys)) (sym (length-take-le a xs h))
    ∙ take-append-add (take a xs) ys m

pub loop-filled-preserved : goal.loop-filled-preserved
loop-filled-preserved g c =
    let f = filled_more c.loop-filled.filled c.in_ok-more.more (length c.loop-filled.into - c.loop-filled.filled) c.loop-filled.into c.read.new.buf c.loop-filled.invariant.0 c.in_ok-more.ensures.bound.0 in
    (search rules, search rules, subst (Consumes _ _) (sym f) (Consumes-trans _ _ _ _ _ c.loop-filled.invariant.2 c.in_ok-more.ensures.bytes.0))
