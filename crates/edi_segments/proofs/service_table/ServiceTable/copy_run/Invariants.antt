use Rattle.std.proofs.Common.{◌≡◌, ◌≤◌, ◌-◌, ◌++◌, true, length, take, drop}
use Rattle.edi_segments.specs.ServiceTable.{are_run}
use Rattle.edi_segments.proofs.service_table.ServiceTable.copy_run.Given as goal

abbrev pub invariant-loop-count : goal.invariant-loop-count
invariant-loop-count l = record {
  within : l.count ≤ length l.bytes;
  run : are_run l.self (take l.count l.bytes) ≡ true;
  one : l.one ≡ take l.count l.bytes ++ drop l.count l.fn.one;
  other : l.other ≡ take l.count l.bytes ++ drop l.count l.fn.other;
}

abbrev pub decreases-loop-count : goal.decreases-loop-count
decreases-loop-count l = length l.bytes - l.count
