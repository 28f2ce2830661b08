use Rattle.std.proofs.Common.{◌≡◌, ◌<◌, ◌∷◌, length, take, get_or, sym, ap, ◌∙◌, arith}
use Rattle.std.proofs.lemmas.List.{get_or_read, length-take}
use Rattle.edi_segments.specs.Spelling.{without_empty_end}
use Rattle.edi_segments.specs.Segment.{element_at}
use Rattle.edi_segments.specs.Reading.{Open}
use Rattle.edi_segments.proofs.Flat.{shown_within, element_rises, element_long_is}
use Rattle.edi_segments.proofs.flat_segment.FlatSegment.components.Goals as goal

pub index-requires : goal.index-requires
index-requires c =
    let s = c.self.inside in
    let lt : c.args.element < s.elements_kept = omega arith in
    let within = shown_within (take s.filled s.bytes.items) s.component_ends.items s.element_ends.items s.components s.elements
    s.component_from s.element_from s.components_kept s.elements_kept c.self.invariant.flat c.args.element lt in
    omega (arith, within, length-take s.elements s.element_ends.items, s.element_ends.ok.0)

pub start_of-requires : goal.start_of-requires
start_of-requires c =
    let s = c.self.inside in
    let lt : c.args.element < s.elements_kept = omega arith in
    let within = shown_within (take s.filled s.bytes.items) s.component_ends.items s.element_ends.items s.components s.elements
    s.component_from s.element_from s.components_kept s.elements_kept c.self.invariant.flat c.args.element lt in
    omega (arith, within, length-take s.elements s.element_ends.items, ap length c.as_slice.ensures.value)

pub overflow_sub-result : goal.overflow_sub-result
overflow_sub-result c =
    let s = c.self.inside in
    let lt : c.args.element < s.elements_kept = omega arith in
    let within = shown_within (take s.filled s.bytes.items) s.component_ends.items s.element_ends.items s.components s.elements
    s.component_from s.element_from s.components_kept s.elements_kept c.self.invariant.flat c.args.element lt in
    let inside : c.args.element < length s.element_ends.items = omega (arith, within, length-take s.elements s.element_ends.items) in
    let high : c.index.result.now ≡ get_or s.element_ends.items c.args.element 0 =
    get_or_read s.element_ends.items c.args.element c.index.result.now inside c.index.ensures 0 in
    let low : c.start_of.result ≡ get_or (0 ∷ s.element_ends.items) c.args.element 0 =
    c.start_of.ensures ∙ ap (λ l. get_or (0 ∷ l) c.args.element 0) c.as_slice.ensures.value in
    let rises = element_rises (take s.filled s.bytes.items) s.component_ends.items s.element_ends.items s.components s.elements
    s.component_from s.element_from s.components_kept s.elements_kept c.self.invariant.flat c.args.element lt in
    omega (arith, rises.0)

pub returns : goal.returns
returns c =
    let s = c.self.inside in
    let lt : c.args.element < s.elements_kept = omega arith in
    let within = shown_within (take s.filled s.bytes.items) s.component_ends.items s.element_ends.items s.components s.elements
    s.component_from s.element_from s.components_kept s.elements_kept c.self.invariant.flat c.args.element lt in
    let inside : c.args.element < length s.element_ends.items = omega (arith, within, length-take s.elements s.element_ends.items) in
    let high : c.index.result.now ≡ get_or s.element_ends.items c.args.element 0 =
    get_or_read s.element_ends.items c.args.element c.index.result.now inside c.index.ensures 0 in
    let low : c.start_of.result ≡ get_or (0 ∷ s.element_ends.items) c.args.element 0 =
    c.start_of.ensures ∙ ap (λ l. get_or (0 ∷ l) c.args.element 0) c.as_slice.ensures.value in
    let long = element_long_is (take s.filled s.bytes.items) s.component_ends.items s.element_ends.items s.components s.elements
    s.component_from s.element_from s.components_kept s.elements_kept c.self.invariant.flat c.args.element lt in
    rw (high, low) (sym long ∙ ap (λ (o : Open). length (element_at (without_empty_end o.elements) c.args.element)) c.self.view_is)
