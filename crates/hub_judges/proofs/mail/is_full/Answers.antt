use Rattle.std.proofs.Common.{rules}
use Rattle.hub_judges.proofs.mail.is_full.Goals as goal

pub returns-clause-value : goal.returns-clause-value
returns-clause-value c = search rules

pub returns-clause-room : goal.returns-clause-room
returns-clause-room c = search rules
