use Rattle.std.proofs.Common.{rules}
use Rattle.hub_judges.proofs.answers.is_past_range.Goals as goal

pub returns-else-quantity-line : goal.returns-else-quantity-line
returns-else-quantity-line c = search rules
