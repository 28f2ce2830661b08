use Rattle.std.proofs.Common.{arith, rules}
use Rattle.std.proofs.lemmas.Grind.{common_steps}
use Rattle.edi_orders.proofs.answers.answered_items.Goals as goal

pub invariant_of-push : goal.invariant_of-push
invariant_of-push c = search rules

pub loop-line-preserved : goal.loop-line-preserved
loop-line-preserved c = grind (arith, common_steps)
