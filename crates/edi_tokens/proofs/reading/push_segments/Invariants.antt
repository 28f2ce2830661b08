use Rattle.std.proofs.Common.{◌≡◌, length}
use Rattle.edi_segments.specs.Reading.{run}
use Rattle.edi_segments.specs.Machine.{reading_of}
use Rattle.edi_tokens.proofs.reading.push_segments.Given as goal

abbrev pub invariant-loop-count : goal.invariant-loop-count
invariant-loop-count l =
    run (reading_of l.segments.items l.machine) l.rest ≡ run (reading_of l.fn.segments.items l.fn.machine) l.bytes

abbrev pub decreases-loop-count : goal.decreases-loop-count
decreases-loop-count l = length l.rest
