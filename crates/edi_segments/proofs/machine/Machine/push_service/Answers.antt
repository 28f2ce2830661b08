use Rattle.std.proofs.Common.{arith}
use Rattle.std.proofs.lemmas.Grind.{common_steps}
use Rattle.edi_segments.proofs.machine.Machine.push_service.Goals as goal

pub returns-then-self-lt5-clause-gives : goal.returns-then-self-lt5-clause-gives
returns-then-self-lt5-clause-gives c = grind (arith, common_steps)

pub returns-in_err-service-clause-gives : goal.returns-in_err-service-clause-gives
returns-in_err-service-clause-gives c = grind (arith, common_steps)

pub returns-clause-gives : goal.returns-clause-gives
returns-clause-gives c = grind (arith, common_steps)
