use Rattle.std.proofs.Common.{rules}
use Rattle.hub_judges.proofs.order.new_order.Goals as goal

pub returns : goal.returns
returns c = search rules
