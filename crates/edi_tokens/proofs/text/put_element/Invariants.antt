use Rattle.std.proofs.Common.{◌≡◌, ◌∷◌, drop}
use Rattle.std.specs.List.{flat_map}
use Rattle.edi_tokens.specs.Text.{component_text, element_text}
use Rattle.edi_base.specs.Buffer.{WritesSome}
use Rattle.edi_tokens.proofs.text.put_element.Given as goal

abbrev pub invariant-loop-component : goal.invariant-loop-component
invariant-loop-component g l = record {
  bytes : WritesSome (g.W.Sink.contents l.fn.out) (g.W.Sink.contents l.out) l.fn.buffer l.buffer
      (flat_map (λ component. 58 ∷ component_text component) (drop l.component-index l.others)) (element_text l.components);
  flag : g.W.Sink.failed l.out ≡ g.W.Sink.failed l.fn.out;
}
