use Rattle.std.proofs.Common.{rules}
use Rattle.edi_goods.proofs.units.unit_sscc.Goals as goal

pub returns-clause-ok : goal.returns-clause-ok
returns-clause-ok c = search rules
