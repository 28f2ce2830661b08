use Rattle.std.proofs.Common.{rules}
use Rattle.hub_order_lines.proofs.lines.copied_row.Goals as goal

pub returns : goal.returns
returns c = search rules
