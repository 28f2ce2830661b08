use Rattle.std.proofs.Common.{arith}
use Rattle.std.proofs.lemmas.Grind.{common_steps}
use Rattle.edi_messages.proofs.parts.only_qualified.Goals as goal

pub loop-segment-preserved : goal.loop-segment-preserved
loop-segment-preserved c = grind (arith, common_steps)
