use Rattle.std.proofs.Common.{ℕ, List, not, ap, ◌∙◌, ◌&&◌, ◌||◌, inl, inr}
use Rattle.std.specs.Str.{bytes_eq}
use Rattle.edi_base.specs.Seen.{is_among}
use Rattle.edi_segments.specs.SegmentRef.{segment_in}
use Rattle.edi_envelope.specs.Reference.{filled_reference}
use Rattle.edi_envelope.proofs.TallyLemmas.{heads_skipped, heads_seen, not_not}
use Rattle.edi_envelope.proofs.tally.Headers.take.Goals.{then-not-self-via-then-not-self, then-not-self-via-else-not-self+then-self}
use Rattle.edi_envelope.proofs.tally.Headers.take.Goals as goal

pub returns-then-not-self-clause-heads : goal.returns-then-not-self-clause-heads
returns-then-not-self-clause-heads c = λ messages heads.
    let h = c.args.self.now in
    heads_skipped messages h (segment_in c.args.unh.now) heads _ _ (ap (λ b. h.identified && b) c.has_identity.ensures) c.in_ok-self.ensures
    (elim c.then-not-self.branch [
      | then-not-self-via-then-not-self w ↦ inl w.if-not-self.true
      | then-not-self-via-else-not-self+then-self w ↦ inr w.if-self.true
    ])

pub returns-clause-heads : goal.returns-clause-heads
returns-clause-heads c = λ messages heads.
    let h = c.args.self.now in
    let key = c.filled_reference.ensures ∙ ap filled_reference c.component.ensures in
    heads_seen messages h (segment_in c.args.unh.now) heads _ _ _ _
    (ap (λ b. h.identified && b) c.has_identity.ensures) c.in_ok-self.ensures
    c.if-not-self.false c.if-self.false
    (ap not c.in_ok-new.ensures.new ∙ not_not (is_among c.filled_reference.result h.seen) ∙ ap (λ (l : List ℕ). is_among l h.seen) key)
    (λ other. c.in_ok-new.ensures.seen other ∙ ap (λ (l : List ℕ). bytes_eq other l || is_among other h.seen) key)
