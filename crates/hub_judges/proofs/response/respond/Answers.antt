use Rattle.std.proofs.Common.{rules}
use Rattle.hub_judges.proofs.response.respond.Goals as goal

pub returns-in-AllAccepted : goal.returns-in-AllAccepted
returns-in-AllAccepted c = search rules

pub returns-in-AllRefused : goal.returns-in-AllRefused
returns-in-AllRefused c = search rules

pub returns-in-Lines : goal.returns-in-Lines
returns-in-Lines c = search rules
