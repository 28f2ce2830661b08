use Rattle.std.proofs.Common.{◌≡◌, [], length}
use Rattle.edi_base.specs.Buffer.{WritesSome}
use Rattle.edi_base.proofs.buffer.write_whole.Given as goal

abbrev pub invariant-loop-rest : goal.invariant-loop-rest
invariant-loop-rest g l = record {
  bytes : WritesSome (g.W.Sink.contents l.fn.out) (g.W.Sink.contents l.out) [] [] l.rest l.bytes;
  flag : g.W.Sink.failed l.out ≡ g.W.Sink.failed l.fn.out;
}

abbrev pub decreases-loop-rest : goal.decreases-loop-rest
decreases-loop-rest g l = length l.rest
