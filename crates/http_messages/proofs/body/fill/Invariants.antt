use Rattle.std.proofs.Common.{◌≡◌, ◌≤◌, ◌-◌, length, take}
use Rattle.http_messages.proofs.Filling.{FollowsBefore}
use Rattle.http_messages.proofs.body.fill.Given as goal

abbrev pub invariant-loop-end : goal.invariant-loop-end
invariant-loop-end g l = record {
  bytes : FollowsBefore (g.R.Source.remaining l.fn.source) (g.R.Source.remaining l.source) (take l.filled l.fn.bytes) (take l.end l.bytes);
  flag : g.R.Source.failed l.source ≡ g.R.Source.failed l.fn.source;
  within : l.end ≤ length l.bytes;
  behind : l.filled ≤ l.end;
}

abbrev pub decreases-loop-end : goal.decreases-loop-end
decreases-loop-end g l = length l.bytes - l.end
