use Rattle.std.proofs.Common.{◌≡◌, ◌++◌, filter, drop}
use Rattle.edi_messages.specs.Parts.{is_uns}
use Rattle.edi_messages.proofs.Found.{found_one}
use Rattle.edi_messages.proofs.summary.only_section.Given as goal

-- the sections are the one that was found, if any, and those of the rest
abbrev pub invariant-loop-segment : goal.invariant-loop-segment
invariant-loop-segment l = filter is_uns l.message ≡ found_one l.found ++ filter is_uns (drop l.segment-index l.message)
