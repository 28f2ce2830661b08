use Rattle.std.proofs.Common.{rules}
use Rattle.edi_goods.proofs.units.sscc.Goals as goal

pub returns-in_err-only_qualified : goal.returns-in_err-only_qualified
returns-in_err-only_qualified c = search rules

pub returns : goal.returns
returns c = search rules
