use Rattle.std.proofs.Common.{◌≡◌, [], ◌∷◌, ◌++◌, drop}
use Rattle.std.specs.List.{flat_map}
use Rattle.edi_tokens.specs.Text.{element_text, segment_text}
use Rattle.edi_base.specs.Buffer.{WritesSome}
use Rattle.edi_tokens.proofs.text.put_segment.Given as goal

abbrev pub invariant-loop-components : goal.invariant-loop-components
invariant-loop-components g l = record {
  bytes : WritesSome (g.W.Sink.contents l.fn.out) (g.W.Sink.contents l.out) l.fn.buffer l.buffer
      (flat_map element_text (drop l.components-index l.components-items) ++ 39 ∷ []) (segment_text l.segment);
  flag : g.W.Sink.failed l.out ≡ g.W.Sink.failed l.fn.out;
}
