use Rattle.std.proofs.Common.{rules}
use Rattle.edi_messages.proofs.references.has_reference.Goals as goal

pub returns : goal.returns
returns c = search rules
