use Rattle.std.proofs.Common.{rules}
use Rattle.gateway.proofs.Printable.{ten_fit}
use Rattle.gateway.proofs.records.sheet_from.Goals as goal

pub returns-clause-fit : goal.returns-clause-fit
returns-clause-fit c = search (rules, ten_fit)
