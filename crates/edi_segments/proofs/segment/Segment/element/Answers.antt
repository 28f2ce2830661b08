use Rattle.std.proofs.Common.{rules}
use Rattle.edi_segments.proofs.segment.Segment.element.Goals as goal

pub returns-in-Some : goal.returns-in-Some
returns-in-Some c = search rules
