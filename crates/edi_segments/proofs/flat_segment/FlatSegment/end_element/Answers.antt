use Rattle.std.proofs.Common.{◌≡◌, ◌<◌, ◌≤◌, length, ap, ◌∙◌, arith}
use Rattle.edi_segments.specs.Reading.{Open, with_element}
use Rattle.edi_segments.proofs.Flat.{flat-ended, open-ended}
use Rattle.edi_segments.proofs.flat_segment.FlatSegment.end_element.Goals as goal

pub invariant_of-self : goal.invariant_of-self
invariant_of-self c =
    let s = c.self.inside in
    let room = c.self.invariant.room in
    let size : s.size ≡ c.args.self.now.length = ap (λ (o : Open). o.length) c.self.view_is in
    let within : s.components < length s.component_ends.items =
    omega (arith, c.requires, size, s.component_ends.ok.0, room.component_ends_long, room.components_within) in
    let elements_within : s.elements < length s.element_ends.items =
    omega (arith, c.requires, size, s.element_ends.ok.0, room.element_ends_long, room.elements_within) in
    let filled_within : s.filled ≤ length s.bytes.items = omega (arith, s.bytes.ok.0, room.bytes_long, room.filled_within, room.is_short) in
    let ended = flat-ended s.bytes.items s.component_ends.items s.element_ends.items s.filled s.components s.elements s.component_from
    s.element_from s.components_kept s.elements_kept c.self.invariant.flat filled_within within elements_within
    c.count_left-components.result c.count_left-components.ensures c.count_left-self-inside.result c.count_left-self-inside.ensures in
    record {
      flat = ended.0;
      room = record {
        bytes_long = room.bytes_long;
        component_ends_long = room.component_ends_long;
        element_ends_long = room.element_ends_long;
        filled_within = omega (arith, room.filled_within);
        components_within = omega (arith, room.components_within, ended.1);
        elements_within = omega (arith, room.elements_within);
        is_short = omega (arith, size, c.requires);
      };
    }

pub returns : goal.returns
returns c =
    let s = c.self.inside in
    let room = c.self.invariant.room in
    let size : s.size ≡ c.args.self.now.length = ap (λ (o : Open). o.length) c.self.view_is in
    let within : s.components < length s.component_ends.items =
    omega (arith, c.requires, size, s.component_ends.ok.0, room.component_ends_long, room.components_within) in
    let elements_within : s.elements < length s.element_ends.items =
    omega (arith, c.requires, size, s.element_ends.ok.0, room.element_ends_long, room.elements_within) in
    let filled_within : s.filled ≤ length s.bytes.items = omega (arith, s.bytes.ok.0, room.bytes_long, room.filled_within, room.is_short) in
    open-ended s.bytes.items s.component_ends.items s.element_ends.items s.filled s.components s.elements s.component_from
    s.element_from s.components_kept s.elements_kept c.self.invariant.flat filled_within within elements_within
    c.count_left-components.result c.count_left-components.ensures s.tag s.size
    ∙ ap with_element c.self.view_is
