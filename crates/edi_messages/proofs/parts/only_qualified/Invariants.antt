use Rattle.std.proofs.Common.{◌≡◌, ◌++◌, drop}
use Rattle.edi_messages.specs.Parts.{qualified}
use Rattle.edi_messages.proofs.Found.{found_one}
use Rattle.edi_messages.proofs.parts.only_qualified.Given as goal

-- the segments are the one that was found, if any, and those of the rest
abbrev pub invariant-loop-segment : goal.invariant-loop-segment
invariant-loop-segment l =
    qualified l.tag l.qualifier l.part ≡ found_one l.found ++ qualified l.tag l.qualifier (drop l.segment-index l.part)
