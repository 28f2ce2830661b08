use Rattle.std.proofs.Common.{sym, subst, ◌∙◌}
use Rattle.std.proofs.lemmas.Bool.{or_from}
use Rattle.edi_segments.specs.SegmentRef.{segment_in}
use Rattle.edi_envelope.specs.declared.check.Stage.{Stage}
use Rattle.edi_envelope.specs.declared.check.Place.TheVariants as place
use Rattle.edi_envelope.specs.Check.{Steps}
use Rattle.edi_envelope.proofs.CheckLemmas.{breaks_when_lost, ends_when_lost, stays_lost, at_stage_of, ended_with}
use Rattle.edi_envelope.proofs.check.EnvelopeCheck.when_lost.Goals as goal

pub returns-then-unb : goal.returns-then-unb
returns-then-unb c =
    breaks_when_lost c.args.self.now (segment_in c.args.segment.now) c.requires (sym c.has_tag-unb.ensures ∙ c.if-unb.true)

pub returns-then-unz : goal.returns-then-unz
returns-then-unz c =
    let j = c.args.self.now in
    let s = segment_in c.args.segment.now in
    ended_with j s c.lost_fault.result c.lost_fault.ensures (ends_when_lost j s c.requires (sym c.has_tag-unz.ensures ∙ c.if-unz.true))

pub returns-else-unz : goal.returns-else-unz
returns-else-unz c =
    let j = c.args.self.now in
    let s = segment_in c.args.segment.now in
    let plain = or_from _ _ (sym c.has_tag-unb.ensures ∙ c.if-unb.false) (sym c.has_tag-unz.ensures ∙ c.if-unz.false) in
    subst (λ (st : Stage). Steps j place.Refused s (at_stage_of j st)) (sym c.requires) (stays_lost j s c.requires plain)
