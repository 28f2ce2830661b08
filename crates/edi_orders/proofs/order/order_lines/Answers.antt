use Rattle.std.proofs.Common.{arith}
use Rattle.std.proofs.lemmas.Grind.{common_steps}
use Rattle.edi_orders.proofs.order.order_lines.Goals as goal

pub returns-in_err-quantity-clause-err : goal.returns-in_err-quantity-clause-err
returns-in_err-quantity-clause-err c = grind (arith, common_steps)

pub loop-item-preserved : goal.loop-item-preserved
loop-item-preserved c = grind (arith, common_steps)
