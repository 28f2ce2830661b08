use Rattle.std.proofs.Common.{rules}
use Rattle.hub_judges.proofs.party.registered_supplier.Goals as goal

pub returns-then-eq-clause-ok : goal.returns-then-eq-clause-ok
returns-then-eq-clause-ok c = search rules
