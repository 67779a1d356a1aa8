use Rattle.std.proofs.Common.{refl}
use Rattle.std.proofs.lemmas.Result.{err_from_is_err_and}
use Rattle.text.proofs.VoidLaws.{entry_reading, entry_void, entry_none}
use Rattle.text.proofs.entry.read.Goals as goal

pub returns-in-Ok : goal.returns-in-Ok
returns-in-Ok c =
    entry_reading _ _ c.in-Ok.ensures refl

pub returns-in_err-taken : goal.returns-in_err-taken
returns-in_err-taken c =
    let p = err_from_is_err_and c.from_residual.result c.from_residual.ensures.1 in rw (p.1, p.2) (entry_none _ _ _ c.in_err-taken.ensures c.in_default.ensures)

pub returns : goal.returns
returns c =
    entry_void _ _ c.in_ok-taken.ensures refl
