use Rattle.std.proofs.Common.{◌≡◌, ◌∷◌, ◌++◌, drop}
use Rattle.std.specs.List.{flat_map}
use Rattle.edi_segments.specs.Segment.{element_at}
use Rattle.edi_segments.specs.SegmentRef.{segment_in}
use Rattle.edi_tokens.specs.Text.{component_text, others_text}
use Rattle.edi_tokens.specs.Appending.{KeepsFront}
use Rattle.edi_tokens.proofs.appending.append_others.Given as goal

abbrev pub invariant-loop-place : goal.invariant-loop-place
invariant-loop-place l = record {
  text : l.out.items ++ flat_map (λ component. 58 ∷ component_text component)
      (drop l.place (element_at (segment_in l.segment).elements l.element))
      ≡ l.fn.out.items ++ others_text (element_at (segment_in l.segment).elements l.element);
  kept : KeepsFront l.fn.out.items l.out.items;
}
