use Rattle.std.proofs.Common.{◌≡◌, length}
use Rattle.edi_tokens.specs.Text.{component_text}
use Rattle.edi_base.specs.Buffer.{WritesSome}
use Rattle.edi_tokens.proofs.text.put_component.Given as goal

abbrev pub invariant-loop-byte : goal.invariant-loop-byte
invariant-loop-byte g l = record {
  bytes : WritesSome (g.W.Sink.contents l.fn.out) (g.W.Sink.contents l.out) l.fn.buffer l.buffer (component_text l.rest)
      (component_text l.component);
  flag : g.W.Sink.failed l.out ≡ g.W.Sink.failed l.fn.out;
}

abbrev pub decreases-loop-byte : goal.decreases-loop-byte
decreases-loop-byte g l = length l.rest
