use Rattle.std.proofs.Common.{rules}
use Rattle.edi_goods.proofs.parties.buyer.Goals as goal

pub returns-else-has_qualified-clause-ok : goal.returns-else-has_qualified-clause-ok
returns-else-has_qualified-clause-ok c = search rules
