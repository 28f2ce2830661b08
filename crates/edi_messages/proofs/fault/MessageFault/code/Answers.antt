use Rattle.std.proofs.Common.{rules}
use Rattle.edi_messages.proofs.fault.MessageFault.code.Goals as goal

pub returns-in-Date : goal.returns-in-Date
returns-in-Date c = search rules
