use Rattle.std.proofs.Common.{rules}
use Rattle.edi_goods.proofs.received.receipt_line.Goals as goal

pub returns-clause-ok : goal.returns-clause-ok
returns-clause-ok c = search rules
