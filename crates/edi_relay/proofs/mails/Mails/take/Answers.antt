use Rattle.std.proofs.Common.{ℕ, List, ◌++◌, refl, sym, ap, subst, ◌∙◌, codes}
use Rattle.std.proofs.Common.{inl, inr}
use Rattle.edi_segments.specs.declared.segment.Segment.{Segment}
use Rattle.edi_segments.specs.SegmentRef.{segment_in}
use Rattle.edi_tokens.specs.Appending.{with_component}
use Rattle.edi_tokens.specs.Text.{segment_text}
use Rattle.edi_envelope.specs.declared.check.Place.{Place}
use Rattle.edi_envelope.specs.Check.{Placed}
use Rattle.edi_envelope.proofs.GatherLemmas.{goes_at}
use Rattle.edi_relay.proofs.Written.{unh_written, more_written, renumbered_inside, renumbered_unt}
use Rattle.edi_relay.proofs.mails.Mails.take.Goals as goal

pub returns-in_ok-append_segment_with-in-MessageHeader : goal.returns-in_ok-append_segment_with-in-MessageHeader
returns-in_ok-append_segment_with-in-MessageHeader c = λ words lent writes known placed.
    let s = segment_in c.args.segment.now in
    let at = subst (λ (q : Place). Placed q lent s) c.in-MessageHeader.is placed in
    let whole = c.in_ok-end-in-MessageHeader.ensures words c.args.mark lent (writes.going at.0.1) in
    let begin = c.in_ok-begin-in-MessageHeader.ensures in
    unh_written words c.args.mark lent c.end.new.self _ s whole at (ap (λ v. v.items) begin.header) begin.begun begin.number
    (c.in_ok-append_segment_with-in-MessageHeader.ensures.ok
    ∙ ap (λ (t : List ℕ). t ++ segment_text (with_component s 0 (codes "1"))) begin.out)

pub returns-in_ok-append_segment-in-Inside : goal.returns-in_ok-append_segment-in-Inside
returns-in_ok-append_segment-in-Inside c = λ words lent writes known placed.
    let s = segment_in c.args.segment.now in
    let at = subst (λ (q : Place). Placed q lent s) c.in-Inside.is placed in
    more_written words c.args.mark lent c.args.self.now _ s writes (goes_at c.args.place lent s (inl c.in-Inside.is) placed) refl refl refl
    (c.in_ok-append_segment-in-Inside.ensures.ok
    ∙ ap (λ (x : Segment). c.args.self.now.out.items ++ segment_text x) (sym (renumbered_inside s at.2)))

pub returns-in_ok-append_segment_with-in-MessageTrailer : goal.returns-in_ok-append_segment_with-in-MessageTrailer
returns-in_ok-append_segment_with-in-MessageTrailer c = λ words lent writes known placed.
    let s = segment_in c.args.segment.now in
    let at = subst (λ (q : Place). Placed q lent s) c.in-MessageTrailer.is placed in
    more_written words c.args.mark lent c.args.self.now _ s writes
    (goes_at c.args.place lent s (inr c.in-MessageTrailer.is) placed) refl refl
    refl
    (c.in_ok-append_segment_with-in-MessageTrailer.ensures.ok
    ∙ ap (λ (x : Segment). c.args.self.now.out.items ++ segment_text x) (sym (renumbered_unt s at.2)))
