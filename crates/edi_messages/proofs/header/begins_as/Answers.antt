use Rattle.std.proofs.Common.{rules}
use Rattle.edi_messages.proofs.header.begins_as.Goals as goal

pub returns-then-eq : goal.returns-then-eq
returns-then-eq c = search rules
