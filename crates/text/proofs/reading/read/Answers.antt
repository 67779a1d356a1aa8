use Rattle.std.proofs.lemmas.Result.{err_from_is_err_and}
use Rattle.text.proofs.ReadingLaws.{reading_took, reading_stops}
use Rattle.text.proofs.reading.read.Goals as goal

pub returns-in_err-line : goal.returns-in_err-line
returns-in_err-line c =
    let p = err_from_is_err_and c.from_residual.result c.from_residual.ensures.1 in rw (p.1, p.2) (reading_stops _ _ c.in_err-line.ensures)

pub returns : goal.returns
returns c =
    reading_took _ _ _ c.in_ok-line.ensures c.to_reading.ensures
