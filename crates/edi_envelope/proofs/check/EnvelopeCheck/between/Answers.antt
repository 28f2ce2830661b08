use Rattle.std.proofs.Common.{sym, ap, ◌∙◌, refl}
use Rattle.std.proofs.lemmas.Bool.{or_from}
use Rattle.edi_segments.specs.SegmentRef.{segment_in}
use Rattle.edi_envelope.specs.Reference.{filled_reference}
use Rattle.edi_envelope.specs.Check.{lowest_of}
use Rattle.edi_envelope.proofs.CheckLemmas.{breaks_between, ends_between, loses_between, opens}
use Rattle.edi_envelope.proofs.check.EnvelopeCheck.between.Goals as goal

pub returns-then-unb : goal.returns-then-unb
returns-then-unb c = breaks_between c.args.self.now (segment_in c.args.segment.now) c.requires (sym c.has_tag-unb.ensures ∙ c.if-unb.true)

pub returns-then-unz : goal.returns-then-unz
returns-then-unz c =
    ends_between c.args.self.now (segment_in c.args.segment.now) c.lowest.result c.requires (sym c.has_tag-unz.ensures ∙ c.if-unz.true)
    (c.lowest.ensures ∙ ap lowest_of c.marks.ensures)

pub returns-then-not-unh : goal.returns-then-not-unh
returns-then-not-unh c =
    loses_between c.args.self.now (segment_in c.args.segment.now) c.requires
    (or_from _ _ (sym c.has_tag-unb.ensures ∙ c.if-unb.false) (sym c.has_tag-unz.ensures ∙ c.if-unz.false))
    (sym c.has_tag-unh.ensures ∙ c.if-not-unh.true)

pub returns : goal.returns
returns c =
    opens c.args.self.now (segment_in c.args.segment.now) c.is_outside-self.result c.is_outside-self.ensures c.take.new.self _ c.requires
    (sym c.has_tag-unh.ensures ∙ c.if-not-unh.false) c.in_ok-take.ensures.heads c.in_ok-take.ensures.falls
    (c.filled_reference.ensures ∙ ap filled_reference c.component.ensures) refl
