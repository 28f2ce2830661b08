use Rattle.std.proofs.Common.{rules}
use Rattle.edi_orders.proofs.response.read_items.Goals as goal

pub returns-in-AllAccepted : goal.returns-in-AllAccepted
returns-in-AllAccepted c = search rules
