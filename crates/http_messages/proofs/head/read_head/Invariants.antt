use Rattle.std.proofs.Common.{◌≡◌, ◌≤◌, ◌-◌, take}
use Rattle.std.specs.Io.KnownBytes.{Consumes}
use Rattle.http_messages.specs.Head.{longest_head}
use Rattle.http_messages.proofs.head.read_head.Given as goal

abbrev pub invariant-reading : goal.invariant-reading
invariant-reading g l = record {
  bytes : Consumes (g.R.Source.remaining l.fn.source) (g.R.Source.remaining l.source) (take l.filled l.bytes);
  flag : g.R.Source.failed l.source ≡ g.R.Source.failed l.fn.source;
  within : l.filled ≤ longest_head;
}

abbrev pub decreases-reading : goal.decreases-reading
decreases-reading g l = longest_head - l.filled
