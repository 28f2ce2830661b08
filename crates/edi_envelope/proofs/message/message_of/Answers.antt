use Rattle.std.proofs.Common.{rules}
use Rattle.edi_envelope.proofs.message.message_of.Goals as goal

pub returns : goal.returns
returns c = search rules
