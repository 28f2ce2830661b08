use Rattle.std.proofs.lemmas.Grind.{common_steps}
use Rattle.std.proofs.Common.{arith}
use Rattle.hub_register.proofs.register.glns_of.Goals as goal

pub returns-then-len-gt-MOST_SUPPLIERS-clause-err : goal.returns-then-len-gt-MOST_SUPPLIERS-clause-err
returns-then-len-gt-MOST_SUPPLIERS-clause-err c = grind (arith, common_steps)

pub returns-in_err-glns-clause-err : goal.returns-in_err-glns-clause-err
returns-in_err-glns-clause-err c = grind (arith, common_steps)
