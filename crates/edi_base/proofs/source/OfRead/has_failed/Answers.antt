use Rattle.std.proofs.Common.{rules}
use Rattle.edi_base.proofs.source.OfRead.has_failed.Goals as goal

pub returns : goal.returns
returns g c = search rules
