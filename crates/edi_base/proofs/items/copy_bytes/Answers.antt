use Rattle.std.proofs.Common.{rules}
use Rattle.edi_base.proofs.items.copy_bytes.Goals as goal

pub returns : goal.returns
returns c = search rules
