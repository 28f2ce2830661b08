use Rattle.std.proofs.Common.{rules}
use Rattle.edi_base.proofs.limits.has_length.Goals as goal

pub returns-then-low-bytes : goal.returns-then-low-bytes
returns-then-low-bytes c = search rules
