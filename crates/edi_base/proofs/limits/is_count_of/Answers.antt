use Rattle.std.proofs.Common.{rules}
use Rattle.edi_base.proofs.limits.is_count_of.Goals as goal

pub returns-in-Some : goal.returns-in-Some
returns-in-Some c = search rules
