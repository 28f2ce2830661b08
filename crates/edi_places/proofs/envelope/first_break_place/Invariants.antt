use Rattle.std.proofs.Common.{◌≡◌, ◌+◌, drop, false}
use Rattle.edi_places.specs.Envelope.{first_break_place}
use Rattle.edi_places.proofs.envelope.first_break_place.Given as goal

-- each so far may stand where it does
abbrev pub invariant-loop-index : goal.invariant-loop-index
invariant-loop-index l = first_break_place false l.segments ≡ l.index + first_break_place l.begun (drop l.index l.segments)
