-- What the bits of a mark mean, for the crates above. Assumes nothing.
use Rattle.std.specs.Prelude.{◌≡◌, Bool, not, T}
use Rattle.std.proofs.Common.{subst, lit<}
use Rattle.std.specs.Float.{binary32}
use Rattle.std.specs.Float.Ieee.{nan_bits, of_bits}
use Rattle.std.specs.Float.Ieee.Bits.{to_bits-of_bits, nan_bits_is}
use Rattle.head.specs.declared.Head.TheVariants.{Dry}
use Rattle.head.specs.Class.{class_of}

-- they are no NaN's
dry_plain : T (not (nan_bits binary32 0xf149f2ca))
unfolding nan_bits
dry_plain = tt

pub dry_mark : class_of (of_bits binary32 0xf149f2ca) ≡ Dry
unfolding class_of
dry_mark = rw (to_bits-of_bits binary32 0xf149f2ca (lit< tt) (subst (λ (t : Bool). T (not t)) (nan_bits_is binary32 0xf149f2ca) dry_plain))
