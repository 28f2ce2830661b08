use Rattle.std.proofs.Common.{arith}
use Rattle.std.proofs.lemmas.Grind.{common_steps}
use Rattle.hub_judges.proofs.receipt.receive.Goals as goal

pub returns : goal.returns
returns c = grind (arith, common_steps)
