use Rattle.std.proofs.Common.{◌≤◌, length, take, sym, ap, ◌∙◌, arith}
use Rattle.std.proofs.lemmas.List.{length-take-le}
use Rattle.edi_segments.specs.Reading.{Open}
use Rattle.edi_segments.specs.Flat.{cut}
use Rattle.edi_segments.proofs.Flat.{length-cut}
use Rattle.edi_segments.proofs.flat_segment.FlatSegment.closed_elements.Goals as goal

pub returns : goal.returns
returns c =
    let s = c.self.inside in
    let room = c.self.invariant.room in
    let within : s.elements ≤ length s.element_ends.items =
    omega (arith, s.element_ends.ok.0, room.element_ends_long, room.elements_within, room.is_short) in
    sym (length-take-le s.elements s.element_ends.items within)
    ∙ sym (length-cut 0 (take s.elements s.element_ends.items)
    (cut (take s.components s.component_ends.items) (take s.filled s.bytes.items)))
    ∙ ap (λ (o : Open). length o.elements) c.self.view_is
