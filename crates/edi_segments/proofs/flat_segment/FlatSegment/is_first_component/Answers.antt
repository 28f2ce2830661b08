use Rattle.std.proofs.Common.{◌≡◌, ◌≤◌, ◌-◌, length, take, sym, ap, ◌∙◌, arith}
use Rattle.std.proofs.lemmas.List.{length-take-le, length-drop}
use Rattle.edi_segments.specs.Reading.{Open}
use Rattle.edi_segments.specs.Flat.{cut}
use Rattle.edi_segments.proofs.Flat.{length-cut, equal_from_none}
use Rattle.edi_segments.proofs.flat_segment.FlatSegment.is_first_component.Goals as goal

pub returns : goal.returns
returns c =
    let s = c.self.inside in
    let room = c.self.invariant.room in
    let flat = c.self.invariant.flat in
    let within : s.components ≤ length s.component_ends.items =
    omega (arith, s.component_ends.ok.0, room.component_ends_long, room.components_within, room.is_short) in
    let all : length (take s.components s.component_ends.items) ≡ s.components =
    length-take-le s.components s.component_ends.items within in
    let pieces = cut (take s.components s.component_ends.items) (take s.filled s.bytes.items) in
    let long : length pieces ≡ s.components = length-cut 0 (take s.components s.component_ends.items) (take s.filled s.bytes.items) ∙ all in
    equal_from_none s.element_from s.components (length c.args.self.now.element) (omega (arith, flat.element_within, flat.kept_within, all))
    (sym (ap (λ (o : Open). length o.element) c.self.view_is) ∙ length-drop s.element_from pieces ∙ ap (λ n. n - s.element_from) long)
