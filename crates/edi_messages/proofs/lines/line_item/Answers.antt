use Rattle.std.proofs.Common.{rules}
use Rattle.edi_messages.proofs.lines.line_item.Goals as goal

pub returns-clause-some : goal.returns-clause-some
returns-clause-some c = search rules
