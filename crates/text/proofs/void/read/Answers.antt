use Rattle.std.proofs.lemmas.Result.{err_from_is_err_and}
use Rattle.text.proofs.VoidLaws.{void_took, void_stops}
use Rattle.text.proofs.void.read.Goals as goal

pub returns-in_err-line : goal.returns-in_err-line
returns-in_err-line c =
    let p = err_from_is_err_and c.from_residual.result c.from_residual.ensures.1 in rw (p.1, p.2) (void_stops _ _ c.in_err-line.ensures)

pub returns : goal.returns
returns c =
    void_took _ _ _ c.in_ok-line.ensures c.to_notice.ensures
