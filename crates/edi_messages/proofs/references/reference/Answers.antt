use Rattle.std.proofs.Common.{rules}
use Rattle.edi_messages.proofs.references.reference.Goals as goal

pub returns : goal.returns
returns c = search rules
