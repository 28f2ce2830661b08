use Rattle.std.proofs.Common.{rules}
use Rattle.edi_segments.proofs.segment.Service.usual.Goals as goal

pub returns : goal.returns
returns c = search rules
