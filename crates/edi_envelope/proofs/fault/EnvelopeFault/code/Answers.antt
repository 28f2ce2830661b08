use Rattle.std.proofs.Common.{rules}
use Rattle.edi_envelope.proofs.fault.EnvelopeFault.code.Goals as goal

pub returns-in-SegmentCount : goal.returns-in-SegmentCount
returns-in-SegmentCount c = search rules
