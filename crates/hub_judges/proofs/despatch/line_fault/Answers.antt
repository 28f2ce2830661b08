use Rattle.std.proofs.Common.{rules}
use Rattle.hub_judges.proofs.despatch.line_fault.Goals as goal

pub returns-clause-none : goal.returns-clause-none
returns-clause-none c = search rules

pub returns-clause-open : goal.returns-clause-open
returns-clause-open c = search rules
