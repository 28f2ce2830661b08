use Rattle.std.proofs.Common.{rules}
use Rattle.hub_judges.proofs.party.admitted_supplier.Goals as goal

pub returns-2-clause-ok : goal.returns-2-clause-ok
returns-2-clause-ok c = search rules

pub returns-2-clause-err : goal.returns-2-clause-err
returns-2-clause-err c = search rules
