use Rattle.std.proofs.Common.{arith, rules}
use Rattle.std.proofs.lemmas.Grind.{common_steps}
use Rattle.edi_orders.proofs.answers.action_items.Goals as goal

pub invariant_of-push : goal.invariant_of-push
invariant_of-push c = search rules

pub loop-item-preserved : goal.loop-item-preserved
loop-item-preserved c = grind (arith, common_steps)
