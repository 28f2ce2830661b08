use Rattle.std.proofs.Common.{◌≡◌, ◌+◌, ◌≤◌, ◌∷◌, length, take, get_or, sym, ap, ◌∙◌, arith}
use Rattle.std.proofs.lemmas.List.{length-take}
use Rattle.edi_segments.specs.Spelling.{without_empty_end}
use Rattle.edi_segments.specs.Segment.{component_at}
use Rattle.edi_segments.specs.Reading.{Open}
use Rattle.edi_segments.proofs.Flat.{component_there, place_there, element_there, shown_within, same_bytes}
use Rattle.edi_segments.proofs.flat_segment.FlatSegment.component.Goals as goal

pub start_of-requires : goal.start_of-requires
start_of-requires c =
    let s = c.self.inside in
    let shown = element_there (take s.filled s.bytes.items) s.component_ends.items s.element_ends.items s.components s.elements
    s.component_from s.element_from s.components_kept s.elements_kept c.self.invariant.flat c.args.element c.args.place
    (place_there c.args.self.now _ c.args.element c.args.place c.components.result c.self.view_is c.components.ensures (omega arith)) in
    let within = shown_within (take s.filled s.bytes.items) s.component_ends.items s.element_ends.items s.components s.elements
    s.component_from s.element_from s.components_kept s.elements_kept c.self.invariant.flat c.args.element shown in
    omega (arith, within, length-take s.elements s.element_ends.items, ap length c.as_slice.ensures.value)

pub overflow_add-index : goal.overflow_add-index
overflow_add-index c =
    let s = c.self.inside in
    let low : c.start_of.result ≡ get_or (0 ∷ s.element_ends.items) c.args.element 0 =
    c.start_of.ensures ∙ ap (λ l. get_or (0 ∷ l) c.args.element 0) c.as_slice.ensures.value in
    let there = component_there (take s.filled s.bytes.items) s.component_ends.items s.element_ends.items s.components s.elements
    s.component_from s.element_from s.components_kept s.elements_kept c.self.invariant.flat c.args.element c.args.place
    (c.start_of.result + c.args.place)
    (place_there c.args.self.now _ c.args.element c.args.place c.components.result c.self.view_is c.components.ensures (omega arith))
    (omega (arith, low)) in
    omega (arith, there.1, c.self.invariant.room.components_within, c.self.invariant.room.is_short)

pub piece_of-requires-clause-within : goal.piece_of-requires-clause-within
piece_of-requires-clause-within c =
    let s = c.self.inside in
    let low : c.start_of.result ≡ get_or (0 ∷ s.element_ends.items) c.args.element 0 =
    c.start_of.ensures ∙ ap (λ l. get_or (0 ∷ l) c.args.element 0) c.as_slice.ensures.value in
    let there = component_there (take s.filled s.bytes.items) s.component_ends.items s.element_ends.items s.components s.elements
    s.component_from s.element_from s.components_kept s.elements_kept c.self.invariant.flat c.args.element c.args.place
    (c.start_of.result + c.args.place)
    (place_there c.args.self.now _ c.args.element c.args.place c.components.result c.self.view_is c.components.ensures (omega arith))
    (omega (arith, low)) in
    let counted : s.components ≤ length s.component_ends.items =
    omega (
      arith,
      s.component_ends.ok.0,
      c.self.invariant.room.component_ends_long,
      c.self.invariant.room.components_within,
      c.self.invariant.room.is_short,
    ) in
    omega (arith, there.1, counted, ap length c.as_slice-3.ensures.value)

pub piece_of-requires-clause-rises : goal.piece_of-requires-clause-rises
piece_of-requires-clause-rises c =
    let s = c.self.inside in
    let low : c.start_of.result ≡ get_or (0 ∷ s.element_ends.items) c.args.element 0 =
    c.start_of.ensures ∙ ap (λ l. get_or (0 ∷ l) c.args.element 0) c.as_slice.ensures.value in
    let there = component_there (take s.filled s.bytes.items) s.component_ends.items s.element_ends.items s.components s.elements
    s.component_from s.element_from s.components_kept s.elements_kept c.self.invariant.flat c.args.element c.args.place
    (c.start_of.result + c.args.place)
    (place_there c.args.self.now _ c.args.element c.args.place c.components.result c.self.view_is c.components.ensures (omega arith))
    (omega (arith, low)) in
    rw c.as_slice-3.ensures.value there.2

pub piece_of-requires-clause-ends : goal.piece_of-requires-clause-ends
piece_of-requires-clause-ends c =
    let s = c.self.inside in
    let low : c.start_of.result ≡ get_or (0 ∷ s.element_ends.items) c.args.element 0 =
    c.start_of.ensures ∙ ap (λ l. get_or (0 ∷ l) c.args.element 0) c.as_slice.ensures.value in
    let there = component_there (take s.filled s.bytes.items) s.component_ends.items s.element_ends.items s.components s.elements
    s.component_from s.element_from s.components_kept s.elements_kept c.self.invariant.flat c.args.element c.args.place
    (c.start_of.result + c.args.place)
    (place_there c.args.self.now _ c.args.element c.args.place c.components.result c.self.view_is c.components.ensures (omega arith))
    (omega (arith, low)) in
    rw (c.as_slice-3.ensures.value, c.as_slice-2.ensures.value) (omega (arith, there.3, length-take s.filled s.bytes.items))

pub returns : goal.returns
returns c =
    let s = c.self.inside in
    let low : c.start_of.result ≡ get_or (0 ∷ s.element_ends.items) c.args.element 0 =
    c.start_of.ensures ∙ ap (λ l. get_or (0 ∷ l) c.args.element 0) c.as_slice.ensures.value in
    let there = component_there (take s.filled s.bytes.items) s.component_ends.items s.element_ends.items s.components s.elements
    s.component_from s.element_from s.components_kept s.elements_kept c.self.invariant.flat c.args.element c.args.place
    (c.start_of.result + c.args.place)
    (place_there c.args.self.now _ c.args.element c.args.place c.components.result c.self.view_is c.components.ensures (omega arith))
    (omega (arith, low)) in
    c.piece_of.ensures
    ∙ rw (c.as_slice-3.ensures.value, c.as_slice-2.ensures.value)
    (same_bytes s.bytes.items s.filled _ _ there.2 there.3 ∙ sym there.4
    ∙ ap (λ (o : Open). component_at (without_empty_end o.elements) c.args.element c.args.place) c.self.view_is)
