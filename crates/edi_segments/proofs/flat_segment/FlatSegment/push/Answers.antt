use Rattle.std.proofs.Common.{◌≡◌, ◌<◌, [], ◌∷◌, length, take, refl, ap, ◌∙◌, arith}
use Rattle.std.proofs.lemmas.List.{take_more_set}
use Rattle.edi_segments.specs.Reading.{Open, with_byte}
use Rattle.edi_segments.proofs.Flat.{flat-longer, open-longer}
use Rattle.edi_segments.proofs.flat_segment.FlatSegment.push.Goals as goal

pub invariant_of-self : goal.invariant_of-self
invariant_of-self c =
    let s = c.self.inside in
    let room = c.self.invariant.room in
    let size : s.size ≡ c.args.self.now.length = ap (λ (o : Open). o.length) c.self.view_is in
    let within : s.filled < length s.bytes.items =
    omega (arith, c.requires, size, s.bytes.ok.0, room.bytes_long, room.filled_within) in
    record {
      flat =
          flat-longer (take s.filled s.bytes.items) (c.args.byte ∷ []) _ _ _ _ _ _ c.self.invariant.flat _
          (take_more_set s.bytes.items s.filled c.args.byte within);
      room = record {
        bytes_long = room.bytes_long;
        component_ends_long = room.component_ends_long;
        element_ends_long = room.element_ends_long;
        filled_within = omega (arith, room.filled_within);
        components_within = omega (arith, room.components_within);
        elements_within = omega (arith, room.elements_within);
        is_short = omega (arith, size, c.requires);
      };
    }

pub returns : goal.returns
returns c =
    let s = c.self.inside in
    let room = c.self.invariant.room in
    let size : s.size ≡ c.args.self.now.length = ap (λ (o : Open). o.length) c.self.view_is in
    let within : s.filled < length s.bytes.items =
    omega (arith, c.requires, size, s.bytes.ok.0, room.bytes_long, room.filled_within) in
    open-longer (take s.filled s.bytes.items) (c.args.byte ∷ []) _ _ _ _ _ _ c.self.invariant.flat s.tag _ s.size _
    (take_more_set s.bytes.items s.filled c.args.byte within) refl
    ∙ ap (λ (o : Open). with_byte o c.args.byte) c.self.view_is
