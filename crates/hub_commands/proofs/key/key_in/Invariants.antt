use Rattle.std.proofs.Common.{length, ◌-◌, ◌≡◌, ◌≤◌, ◌++◌, take, drop}
use Rattle.hub_commands.specs.Key.{first_line, key_in, line_limit}
use Rattle.hub_commands.proofs.key.key_in.Given as goal

abbrev pub invariant-loop-end : goal.invariant-loop-end
invariant-loop-end l = record {
  within : l.end ≤ length l.bytes;
  kept : key_in l.bytes ≡ take l.end l.bytes ++ take (line_limit - l.end) (first_line (drop l.end l.bytes));
}

abbrev pub decreases-loop-end : goal.decreases-loop-end
decreases-loop-end l = length l.bytes - l.end
