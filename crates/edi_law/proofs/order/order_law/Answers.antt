use Rattle.edi_law.proofs.OrderLemmas.{fault_law, order_law}
use Rattle.edi_law.proofs.order.order_law.Goals as goal

pub returns-clause-fault : goal.returns-clause-fault
returns-clause-fault c = fault_law

pub returns-clause-order : goal.returns-clause-order
returns-clause-order c = order_law
