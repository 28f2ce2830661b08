use Rattle.std.proofs.Common.{◌≡◌, ℕ, ◌+◌, ◌<◌, [], ◌∷◌, ◌++◌, length, take, set, sym, ap, subst, ◌∙◌, arith}
use Rattle.std.proofs.lemmas.List.{take_more_set, length-take-le}
use Rattle.edi_segments.specs.Flat.{IsLeft, IsFlat, flat_open}
use Rattle.edi_segments.specs.Reading.{Open, with_component}
use Rattle.edi_segments.proofs.Flat.{flat-component, open-component, counted}
use Rattle.edi_segments.proofs.flat_segment.FlatSegment.end_component.Goals as goal

pub invariant_of-self : goal.invariant_of-self
invariant_of-self c =
    let s = c.self.inside in
    let room = c.self.invariant.room in
    let flat = c.self.invariant.flat in
    let size : s.size ≡ c.args.self.now.length = ap (λ (o : Open). o.length) c.self.view_is in
    let within : s.components < length s.component_ends.items =
    omega (arith, c.requires, size, s.component_ends.ok.0, room.component_ends_long, room.components_within) in
    let more : take (s.components + 1) (set s.component_ends.items s.components s.filled)
    ≡ take s.components s.component_ends.items ++ s.filled ∷ [] =
    take_more_set s.component_ends.items s.components s.filled within in
    let whole : s.filled ≡ length (take s.filled s.bytes.items) =
    sym (length-take-le s.filled s.bytes.items (omega (arith, s.bytes.ok.0, room.bytes_long, room.filled_within, room.is_short))) in
    let all : s.components + 1 ≡ length (take s.components s.component_ends.items) + 1 =
    sym (counted s.component_ends.items s.components within) in
    let left : IsLeft s.components_kept
    (length (take s.components s.component_ends.items) + 1) s.component_from s.filled c.count_left-self-inside.result =
    subst (λ (n : ℕ). IsLeft s.components_kept n s.component_from s.filled c.count_left-self-inside.result) all
    c.count_left-self-inside.ensures in
    record {
      flat =
          subst (λ l. IsFlat (take s.filled s.bytes.items) l (take s.elements s.element_ends.items) s.filled s.element_from
          c.count_left-self-inside.result s.elements_kept) (sym more)
          (flat-component (take s.filled s.bytes.items) (take s.components s.component_ends.items)
          (take s.elements s.element_ends.items) s.component_from s.element_from s.components_kept s.elements_kept s.filled
          flat whole c.count_left-self-inside.result left);
      room = record {
        bytes_long = room.bytes_long;
        component_ends_long = room.component_ends_long;
        element_ends_long = room.element_ends_long;
        filled_within = omega (arith, room.filled_within);
        components_within = omega (arith, room.components_within);
        elements_within = omega (arith, room.elements_within);
        is_short = omega (arith, size, c.requires);
      };
    }

pub returns : goal.returns
returns c =
    let s = c.self.inside in
    let room = c.self.invariant.room in
    let flat = c.self.invariant.flat in
    let size : s.size ≡ c.args.self.now.length = ap (λ (o : Open). o.length) c.self.view_is in
    let within : s.components < length s.component_ends.items =
    omega (arith, c.requires, size, s.component_ends.ok.0, room.component_ends_long, room.components_within) in
    let more : take (s.components + 1) (set s.component_ends.items s.components s.filled)
    ≡ take s.components s.component_ends.items ++ s.filled ∷ [] =
    take_more_set s.component_ends.items s.components s.filled within in
    let whole : s.filled ≡ length (take s.filled s.bytes.items) =
    sym (length-take-le s.filled s.bytes.items (omega (arith, s.bytes.ok.0, room.bytes_long, room.filled_within, room.is_short))) in
    ap (λ l. flat_open s.tag (take s.filled s.bytes.items) l
    (take s.elements s.element_ends.items) s.filled s.element_from (s.size + 1)) more
    ∙ open-component (take s.filled s.bytes.items) (take s.components s.component_ends.items)
    (take s.elements s.element_ends.items) s.component_from s.element_from s.components_kept s.elements_kept s.filled
    flat whole s.tag s.size
    ∙ ap with_component c.self.view_is
