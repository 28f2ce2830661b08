use Rattle.std.proofs.Common.{◌≡◌, take}
use Rattle.edi_segments.specs.Segment.{element_at}
use Rattle.edi_segments.specs.SegmentRef.{segment_in}
use Rattle.edi_segments.proofs.segment_ref.SegmentRef.copied_element.Given as goal

abbrev pub invariant-loop-place : goal.invariant-loop-place
invariant-loop-place l = l.components.items ≡ take l.place (element_at (segment_in l.self).elements l.element)
