use Rattle.std.proofs.Common.{rules}
use Rattle.hub_order_lines.proofs.by_number.is_numbered.Goals as goal

pub returns-then-eq : goal.returns-then-eq
returns-then-eq c = search rules
