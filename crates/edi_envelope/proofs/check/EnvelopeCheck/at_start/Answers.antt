use Rattle.std.proofs.Common.{sym, ◌∙◌}
use Rattle.edi_segments.specs.SegmentRef.{segment_in}
use Rattle.edi_envelope.proofs.CheckLemmas.{begins, begins_badly}
use Rattle.edi_envelope.proofs.check.EnvelopeCheck.at_start.Goals as goal

pub returns-then-not-unb : goal.returns-then-not-unb
returns-then-not-unb c =
    begins_badly c.args.self.now (segment_in c.args.segment.now) c.requires (sym c.has_tag-unb.ensures ∙ c.if-not-unb.true)

pub returns : goal.returns
returns c =
    begins c.args.self.now (segment_in c.args.segment.now) c.of-self.result c.is_outside-self.result c.requires
    (sym c.has_tag-unb.ensures ∙ c.if-not-unb.false) c.of-self.ensures c.is_outside-self.ensures
