use Rattle.std.proofs.Common.{rules}
use Rattle.edi_messages.proofs.parts.header.Goals as goal

pub returns-in-Some : goal.returns-in-Some
returns-in-Some c = search rules
