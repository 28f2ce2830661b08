use Rattle.std.proofs.Common.{◌≡◌, ◌≤◌, ◌-◌, [], length, take, Ok}
use Rattle.edi_segments.specs.Reading.{run}
use Rattle.edi_segments.specs.Machine.{reading_of}
use Rattle.edi_segments.proofs.machine.Machine.push_all.Given as goal

abbrev pub invariant-loop-at : goal.invariant-loop-at
invariant-loop-at l = record {
  within : l.at ≤ length l.bytes;
  so_far : run (reading_of [] l.fn.self) (take l.at l.bytes) ≡ Ok (reading_of [] l.self);
}

abbrev pub decreases-loop-at : goal.decreases-loop-at
decreases-loop-at l = length l.bytes - l.at
