use Rattle.std.proofs.Common.{ℕ, List, ap, ◌∙◌, ◌+◌, ◌&&◌}
use Rattle.std.specs.Str.{bytes_eq}
use Rattle.edi_base.specs.Limits.{is_count, is_count_of}
use Rattle.edi_segments.specs.SegmentRef.{segment_in}
use Rattle.edi_envelope.specs.Reference.{filled_reference}
use Rattle.edi_envelope.proofs.TallyLemmas.{trails_more}
use Rattle.edi_envelope.proofs.tally.Trailers.take.Goals as goal

pub returns-clause-trails : goal.returns-clause-trails
returns-clause-trails c = λ messages unh body trails count reference.
    let t = c.args.self.now in
    let first = c.filled_reference.ensures ∙ ap filled_reference c.component.ensures in
    trails_more messages t unh body (segment_in c.args.unt.now) trails c.in_ok-count.count _ _ _
    (c.in_ok-count.ensures ∙ ap (λ n. n + 1) count)
    (ap (λ b. t.within && b) (c.are_digits.ensures ∙ ap is_count c.component-written.ensures))
    (ap (λ b. t.counted && b) (c.is_count_of.ensures ∙ ap (λ (l : List ℕ). is_count_of l c.in_ok-count.count) c.component-written.ensures))
    (ap (λ b. t.closed && b) (c.eq.ensures ∙ ap (λ (l : List ℕ). bytes_eq l c.args.begun.reference) first ∙ ap (bytes_eq _) reference))
