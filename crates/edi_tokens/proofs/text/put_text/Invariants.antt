use Rattle.std.proofs.Common.{◌≡◌, drop}
use Rattle.std.specs.List.{flat_map}
use Rattle.edi_tokens.specs.Text.{segment_text, text}
use Rattle.edi_base.specs.Buffer.{WritesSome}
use Rattle.edi_tokens.proofs.text.put_text.Given as goal

abbrev pub invariant-loop-segment : goal.invariant-loop-segment
invariant-loop-segment g l = record {
  bytes : WritesSome (g.W.Sink.contents l.fn.out) (g.W.Sink.contents l.out) l.fn.buffer l.buffer
      (flat_map segment_text (drop l.segment-index l.segments)) (text l.segments);
  flag : g.W.Sink.failed l.out ≡ g.W.Sink.failed l.fn.out;
}
