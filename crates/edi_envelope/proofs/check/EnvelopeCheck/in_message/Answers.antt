use Rattle.std.proofs.Common.{sym, ◌∙◌, refl}
use Rattle.std.proofs.lemmas.Bool.{or_from}
use Rattle.edi_segments.specs.SegmentRef.{segment_in}
use Rattle.edi_envelope.proofs.CheckLemmas.{breaks_in_message, ends_in_message, ended_with, loses_in_message, shuts, goes_on}
use Rattle.edi_envelope.proofs.check.EnvelopeCheck.in_message.Goals as goal

pub returns-then-unb : goal.returns-then-unb
returns-then-unb c =
    breaks_in_message c.args.self.now (segment_in c.args.segment.now) c.args.begun c.requires (sym c.has_tag-unb.ensures ∙ c.if-unb.true)

pub returns-then-unz : goal.returns-then-unz
returns-then-unz c =
    let j = c.args.self.now in
    let s = segment_in c.args.segment.now in
    ended_with j s c.lost_fault.result c.lost_fault.ensures
    (ends_in_message j s c.args.begun c.requires (sym c.has_tag-unz.ensures ∙ c.if-unz.true))

pub returns-then-unt : goal.returns-then-unt
returns-then-unt c =
    shuts c.args.self.now (segment_in c.args.segment.now) c.is_outside-self.result
    c.is_outside-self.ensures c.args.begun c.take.new.self c.requires
    (sym c.has_tag-unt.ensures ∙ c.if-unt.true) c.in_ok-take.ensures.trails c.in_ok-take.ensures.falls

pub returns-then-frame : goal.returns-then-frame
returns-then-frame c =
    loses_in_message c.args.self.now
    (segment_in c.args.segment.now) c.is_outside-self.result c.is_outside-self.ensures c.args.begun c.requires
    (or_from _ _ (sym c.has_tag-unb.ensures ∙ c.if-unb.false) (sym c.has_tag-unz.ensures ∙ c.if-unz.false))
    (sym c.has_tag-unt.ensures ∙ c.if-unt.false) (sym c.is_frame-frame.ensures ∙ c.if-frame.true)

pub returns : goal.returns
returns c =
    goes_on c.args.self.now (segment_in c.args.segment.now) c.is_outside-self.result c.is_outside-self.ensures c.args.begun _ c.requires
    (or_from _ _ (sym c.has_tag-unb.ensures ∙ c.if-unb.false) (sym c.has_tag-unz.ensures ∙ c.if-unz.false))
    (sym c.has_tag-unt.ensures ∙ c.if-unt.false) (sym c.is_frame-frame.ensures ∙ c.if-frame.false) refl c.in_ok-count.ensures
