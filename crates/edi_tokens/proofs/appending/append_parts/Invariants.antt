use Rattle.std.proofs.Common.{◌≡◌, ◌++◌, drop}
use Rattle.std.specs.List.{flat_map}
use Rattle.edi_segments.specs.SegmentRef.{segment_in}
use Rattle.edi_tokens.specs.Text.{element_text}
use Rattle.edi_tokens.specs.Appending.{KeepsFront}
use Rattle.edi_tokens.proofs.appending.append_parts.Given as goal

abbrev pub invariant-loop-element : goal.invariant-loop-element
invariant-loop-element l = record {
  text : l.out.items ++ flat_map element_text (drop l.element (segment_in l.segment).elements)
      ≡ l.fn.out.items ++ ((segment_in l.segment).tag ++ flat_map element_text (segment_in l.segment).elements);
  kept : KeepsFront l.fn.out.items l.out.items;
}
