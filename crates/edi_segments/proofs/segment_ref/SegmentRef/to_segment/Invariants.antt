use Rattle.std.proofs.Common.{◌≡◌, take}
use Rattle.edi_segments.specs.SegmentRef.{segment_in}
use Rattle.edi_segments.proofs.segment_ref.SegmentRef.to_segment.Given as goal

abbrev pub invariant-loop-element : goal.invariant-loop-element
invariant-loop-element l = l.elements.items ≡ take l.element (segment_in l.self).elements
