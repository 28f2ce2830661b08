use Rattle.std.proofs.Common.{arith}
use Rattle.std.proofs.lemmas.Grind.{common_steps}
use Rattle.edi_envelope.proofs.mail.numbered_elements.Goals as goal

pub returns : goal.returns
returns c = grind (arith, common_steps)
