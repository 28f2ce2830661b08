use Rattle.std.proofs.Common.{rules}
use Rattle.hub_judges.proofs.despatch.unit_fault.Goals as goal

pub returns-then-used-clause-some : goal.returns-then-used-clause-some
returns-then-used-clause-some c = search rules
