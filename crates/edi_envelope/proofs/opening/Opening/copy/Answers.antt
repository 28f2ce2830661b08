use Rattle.std.proofs.Common.{◌∷◌, ◌++◌, [], refl, subst}
use Rattle.std.specs.Prelude.{OnOk}
use Rattle.edi_segments.specs.declared.segment.Segment.{Segment}
use Rattle.edi_segments.specs.SegmentRef.{segment_in}
use Rattle.edi_envelope.specs.declared.check.Place.{Place}
use Rattle.edi_envelope.specs.Check.{Placed}
use Rattle.edi_envelope.specs.Gathered.{Gathers}
use Rattle.edi_envelope.proofs.OpenLemmas.{keeps}
use Rattle.edi_envelope.proofs.opening.Opening.copy.Goals as goal

pub returns-in-Trailer : goal.returns-in-Trailer
returns-in-Trailer c = λ lent stands.
    let next = c.in_ok-place.ensures in
    let s = segment_in c.args.segment.now in
    keeps lent s s c.args.self.now c.next.new.self c.in_ok-place.place refl stands
    (next.checked lent stands.checked) (next.placed lent stands.checked) next.refused.0 next.for_good
    c.end.result c.end.new.self
    (λ gathers known placed. c.end.ensures lent s gathers (subst (λ (q : Place). Placed q lent s) c.in-Trailer.is placed))

pub returns-in_ok-to_segment-in_default : goal.returns-in_ok-to_segment-in_default
returns-in_ok-to_segment-in_default c = λ lent stands.
    let next = c.in_ok-place.ensures in
    let s = segment_in c.args.segment.now in
    keeps lent s s c.args.self.now c.next.new.self c.in_ok-place.place refl stands
    (next.checked lent stands.checked) (next.placed lent stands.checked) next.refused.0 next.for_good
    c.keep.result c.keep.new.self
    (λ gathers known placed.
    subst (λ (x : Segment). Placed c.in_ok-place.place lent x → OnOk c.keep.result (Gathers (lent ++ x ∷ []) c.keep.new.self))
    c.in_ok-to_segment-in_default.ensures (c.keep.ensures lent gathers known) placed)
