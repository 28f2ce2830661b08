use Rattle.std.proofs.Common.{rules}
use Rattle.hub_judges.proofs.totals.Total.with_line.Goals as goal

pub returns : goal.returns
returns c = search rules
