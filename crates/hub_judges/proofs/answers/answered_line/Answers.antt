use Rattle.std.proofs.Common.{rules}
use Rattle.hub_judges.proofs.answers.answered_line.Goals as goal

pub returns-clause-row : goal.returns-clause-row
returns-clause-row c = search rules

pub returns-clause-covered : goal.returns-clause-covered
returns-clause-covered c = search rules
