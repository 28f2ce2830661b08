use Rattle.std.proofs.Common.{◌≡◌, ◌+◌, drop}
use Rattle.edi_envelope.specs.Check.{is_outer}
use Rattle.edi_places.specs.Counting.{first_place}
use Rattle.edi_places.proofs.envelope.first_outer_place.Given as goal

-- neither UNB nor UNZ so far
abbrev pub invariant-loop-index : goal.invariant-loop-index
invariant-loop-index l = first_place is_outer l.segments ≡ l.index + first_place is_outer (drop l.index l.segments)
