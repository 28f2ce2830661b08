use Rattle.std.proofs.Common.{rules}
use Rattle.edi_messages.proofs.Found.{no_only}
use Rattle.edi_orders.proofs.answers.order_line.Goals as goal

pub returns-then-eq-clause-ok : goal.returns-then-eq-clause-ok
returns-then-eq-clause-ok c = search (rules, no_only)
