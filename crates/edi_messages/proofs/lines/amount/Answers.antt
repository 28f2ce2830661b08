use Rattle.std.proofs.Common.{rules}
use Rattle.edi_messages.proofs.lines.amount.Goals as goal

pub returns-then-least-number : goal.returns-then-least-number
returns-then-least-number c = search rules
