use Rattle.std.proofs.Common.{◌≡◌, ◌+◌, drop}
use Rattle.edi_places.specs.Envelope.{first_shown_place}
use Rattle.edi_places.proofs.envelope.first_shown_place.Given as goal

-- the condition holds of no message so far
abbrev pub invariant-loop-index : goal.invariant-loop-index
invariant-loop-index l = first_shown_place l.fault l.segments ≡ l.index + first_shown_place l.fault (drop l.index l.segments)
