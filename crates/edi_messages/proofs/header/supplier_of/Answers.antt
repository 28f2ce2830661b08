use Rattle.std.proofs.Common.{rules}
use Rattle.edi_messages.proofs.header.supplier_of.Goals as goal

pub returns : goal.returns
returns c = search rules
