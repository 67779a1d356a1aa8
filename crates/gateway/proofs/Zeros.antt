-- The numbers of the reading and of the notice that stand for none. Assumes nothing.
use Rattle.std.proofs.Common.{◌≡◌, refl, sym, ap, ◌∙◌, [], replicate, arith}
use Rattle.shapes.specs.Shapes.{reading_numbers, notice_numbers}
use Rattle.shapes.specs.ShapeLaws.{reading_there, zeros_from, notice_there, zero_notice}
use Rattle.text.specs.Readings.{fields_of}
use Rattle.text.specs.Voids.{notice_at}

pub zero_reading : reading_numbers (fields_of []) ≡ replicate 10 0
zero_reading = ap reading_numbers (sym zeros_from) ∙ reading_there (replicate 10 0) refl (omega arith)

pub no_notice : notice_numbers (notice_at []) ≡ replicate 3 0
no_notice = ap notice_numbers (sym zero_notice) ∙ notice_there (replicate 3 0) refl
