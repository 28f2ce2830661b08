use Rattle.std.proofs.Common.{ap, ◌∙◌, sym, [], ◌∷◌}
use Rattle.edi_segments.specs.SegmentText.{text_in}
use Rattle.edi_segments.specs.Text.{open_text}
use Rattle.edi_segments.proofs.OpenText.{still, text_element}
use Rattle.edi_segments.proofs.open_segment.OpenSegment.end_element.Goals as goal

pub invariant_of-self-else-drops : goal.invariant_of-self-else-drops
invariant_of-self-else-drops c = record {
  room = c.push.ensures.room;
  kept =
      still (text_in c.self.inside.text) (text_in c.push.new.self) (43 ∷ []) c.self.inside.parts c.end_element.new.self
      c.self.invariant.kept c.push.ensures.grows
      (ap open_text c.end_element.ensures
      ∙ text_element c.self.inside.parts (sym c.drops_component-drops.ensures ∙ c.if-drops.false));
}
