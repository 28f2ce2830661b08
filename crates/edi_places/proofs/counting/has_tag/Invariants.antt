use Rattle.std.proofs.Common.{◌≡◌, drop}
use Rattle.std.specs.List.{list_any}
use Rattle.edi_envelope.specs.Segments.{has_tag}
use Rattle.edi_places.proofs.counting.has_tag.Given as goal

-- there is one where there is one in the rest
abbrev pub invariant-loop-segment : goal.invariant-loop-segment
invariant-loop-segment l = list_any (has_tag l.tag) l.segments ≡ list_any (has_tag l.tag) (drop l.segment-index l.segments)
