use Rattle.std.proofs.Common.{rules}
use Rattle.edi_show.proofs.fault.envelope_words.Goals as goal

pub returns-in-SegmentCount : goal.returns-in-SegmentCount
returns-in-SegmentCount c = search rules
