use Rattle.std.proofs.Common.{◌≡◌, drop}
use Rattle.std.specs.List.{list_any}
use Rattle.edi_segments.specs.SegmentRef.{segment_in}
use Rattle.edi_envelope.specs.Interchange.{has_high}
use Rattle.edi_envelope.proofs.check.has_high_data.Given as goal

abbrev pub invariant-loop-element : goal.invariant-loop-element
invariant-loop-element l =
    list_any (list_any has_high) (segment_in l.segment).elements
    ≡ list_any (list_any has_high) (drop l.element (segment_in l.segment).elements)
