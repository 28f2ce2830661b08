use Rattle.std.proofs.Common.{◌≡◌, drop}
use Rattle.edi_messages.specs.Parts.{has_qualified}
use Rattle.edi_messages.proofs.parts.has_qualified.Given as goal

-- there is one where there is one in the rest
abbrev pub invariant-loop-segment : goal.invariant-loop-segment
invariant-loop-segment l = has_qualified l.tag l.qualifier l.part ≡ has_qualified l.tag l.qualifier (drop l.segment-index l.part)
