use Rattle.std.proofs.Common.{◌≡◌, ◌+◌, drop}
use Rattle.edi_envelope.specs.Segments.{has_tag}
use Rattle.edi_places.specs.Counting.{first_place}
use Rattle.edi_places.proofs.counting.first_tag_place.Given as goal

-- none so far has the tag
abbrev pub invariant-loop-index : goal.invariant-loop-index
invariant-loop-index l = first_place (has_tag l.tag) l.segments ≡ l.index + first_place (has_tag l.tag) (drop l.index l.segments)
