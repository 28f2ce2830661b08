use Rattle.std.proofs.Common.{ap, ◌∙◌}
use Rattle.edi_segments.specs.SegmentText.{text_in}
use Rattle.edi_segments.specs.Text.{byte_text, open_text}
use Rattle.edi_segments.proofs.OpenText.{still, text_byte}
use Rattle.edi_segments.proofs.open_segment.OpenSegment.push.Goals as goal

pub invariant_of-self : goal.invariant_of-self
invariant_of-self c = record {
  room = c.push_data.ensures.room;
  kept =
      still (text_in c.self.inside.text) (text_in c.push_data.new.self) (byte_text c.args.byte) c.self.inside.parts c.push.new.self
      c.self.invariant.kept c.push_data.ensures.grows (ap open_text c.push.ensures ∙ text_byte c.self.inside.parts c.args.byte);
}
