use Rattle.std.proofs.Common.{rules}
use Rattle.edi_base.proofs.items.Items.from_vec.Goals as goal

pub returns : goal.returns
returns g c = search rules
