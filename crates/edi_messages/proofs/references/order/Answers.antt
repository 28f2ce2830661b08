use Rattle.std.proofs.Common.{rules}
use Rattle.edi_messages.proofs.references.order.Goals as goal

pub returns-in_err-reference : goal.returns-in_err-reference
returns-in_err-reference c = search rules

pub returns : goal.returns
returns c = search rules
