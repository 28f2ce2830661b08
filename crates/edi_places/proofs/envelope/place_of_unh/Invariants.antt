use Rattle.std.proofs.Common.{◌≡◌, ◌+◌, drop}
use Rattle.edi_places.specs.Envelope.{place_of_unh}
use Rattle.edi_places.proofs.envelope.place_of_unh.Given as goal

-- so many are left before it
abbrev pub invariant-loop-index : goal.invariant-loop-index
invariant-loop-index l = place_of_unh l.fn.before l.segments ≡ l.index + place_of_unh l.before (drop l.index l.segments)
