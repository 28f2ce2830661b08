use Rattle.std.proofs.Common.{◌≡◌, drop}
use Rattle.std.specs.List.{list_any}
use Rattle.edi_segments.specs.Segment.{element_at}
use Rattle.edi_segments.specs.SegmentRef.{segment_in}
use Rattle.edi_envelope.specs.Interchange.{has_high}
use Rattle.edi_envelope.proofs.check.has_high_element.Given as goal

abbrev pub invariant-loop-place : goal.invariant-loop-place
invariant-loop-place l =
    list_any has_high (element_at (segment_in l.segment).elements l.element)
    ≡ list_any has_high (drop l.place (element_at (segment_in l.segment).elements l.element))
