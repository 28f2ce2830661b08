use Rattle.std.proofs.Common.{rules}
use Rattle.hub_judges.proofs.cancel.cancelled_line.Goals as goal

pub returns : goal.returns
returns c = search rules
