use Rattle.std.proofs.Common.{◌≡◌, ◌+◌, drop}
use Rattle.edi_envelope.specs.Interchange.{has_high_data}
use Rattle.edi_places.specs.Counting.{first_place}
use Rattle.edi_places.proofs.envelope.first_high_place.Given as goal

-- no such byte so far
abbrev pub invariant-loop-index : goal.invariant-loop-index
invariant-loop-index l = first_place has_high_data l.segments ≡ l.index + first_place has_high_data (drop l.index l.segments)
