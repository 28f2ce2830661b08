use Rattle.std.proofs.Common.{rules}
use Rattle.edi_base.proofs.items.Items.push.Goals as goal

pub returns-clause-ok : goal.returns-clause-ok
returns-clause-ok g c = search rules
