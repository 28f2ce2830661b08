use Rattle.std.proofs.Common.{◌≡◌, ◌≤◌, ◌-◌, length, vec_len, min}
use Rattle.std.specs.Io.KnownBytes.{Consumes}
use Rattle.edi_base.proofs.source.read_to_limit.Given as goal

abbrev pub invariant-loop-read : goal.invariant-loop-read
invariant-loop-read g l = record {
  bytes : Consumes (g.R.Source.remaining l.fn.source) (g.R.Source.remaining l.source) l.read.items;
  flag : g.R.Source.failed l.source ≡ g.R.Source.failed l.fn.source;
  within : length l.read.items ≤ l.limit;
  len : vec_len l.read ≡ length l.read.items;
  piece : vec_len l.piece ≡ min 65536 l.limit;
}

abbrev pub decreases-loop-read : goal.decreases-loop-read
decreases-loop-read g l = l.limit - vec_len l.read
