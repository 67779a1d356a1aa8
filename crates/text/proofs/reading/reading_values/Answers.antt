use Rattle.std.proofs.Common.{rules, tests, pos, refl}
use Rattle.text.proofs.Arrays.{map_of}
use Rattle.text.proofs.reading.reading_values.Goals as goal

pub returns : goal.returns
returns c =
    rw (← c.pattern_of-bits.ensures) (map_of _ pos _ 0 _ _ 10 refl c.map.ensures.items (λ p q x y k. search (rules, tests)))
