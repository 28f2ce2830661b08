use Rattle.std.proofs.Common.{rules}
use Rattle.edi_segments.proofs.fault.TokenFault.code.Goals as goal

pub returns-in-Tag : goal.returns-in-Tag
returns-in-Tag c = search rules
