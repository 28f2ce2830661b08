use Rattle.std.proofs.Common.{rules}
use Rattle.edi_base.proofs.items.Items.len.Goals as goal

pub returns : goal.returns
returns g c = search rules
