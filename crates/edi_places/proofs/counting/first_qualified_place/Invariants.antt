use Rattle.std.proofs.Common.{◌≡◌, ◌+◌, drop}
use Rattle.edi_messages.specs.Parts.{is_qualified}
use Rattle.edi_places.specs.Counting.{first_place}
use Rattle.edi_places.proofs.counting.first_qualified_place.Given as goal

-- none so far has the tag and the qualifier
abbrev pub invariant-loop-index : goal.invariant-loop-index
invariant-loop-index l =
    first_place (is_qualified l.tag l.qualifier) l.segments
    ≡ l.index + first_place (is_qualified l.tag l.qualifier) (drop l.index l.segments)
