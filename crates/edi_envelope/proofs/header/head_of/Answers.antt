use Rattle.std.proofs.Common.{◌≡◌, ℕ, List, ◌<◌, length, get_or, remove, ap, ◌∙◌, arith, [], refl}
use Rattle.edi_segments.specs.Segment.{component_at}
use Rattle.edi_envelope.proofs.HeaderLemmas.{header_places, get_or-remove}
use Rattle.edi_envelope.proofs.header.head_of.Goals as goal

-- a component before an element that was taken out
component_at-remove : (xs : List (List (List ℕ))) (i k : ℕ) → k < i → component_at (remove xs i) k 0 ≡ component_at xs k 0
component_at-remove xs i k h = ap (λ element. get_or element 0 []) (get_or-remove xs i k [] h)

pub array_of-date-requires : goal.array_of-date-requires
array_of-date-requires c = (omega arith, ap length c.component-2.ensures ∙ (header_places c.args.unb c.requires).date)

pub array_of-time-requires : goal.array_of-time-requires
array_of-time-requires c = (omega arith, ap length c.component-3.ensures ∙ (header_places c.args.unb c.requires).time)

pub take_first-reference-requires : goal.take_first-reference-requires
take_first-reference-requires c = rw c.into_vec-elements.ensures (header_places c.args.unb c.requires).reference

pub take_first-recipient-requires : goal.take_first-recipient-requires
take_first-recipient-requires c =
    let xs = c.args.unb.elements in
    let rest : c.take_first-reference.new.elements.items ≡ remove xs 4 =
    c.take_first-reference.ensures.rest ∙ ap (λ elements. remove elements 4) c.into_vec-elements.ensures in
    rw (rest, component_at-remove xs 4 2 (omega arith)) (header_places c.args.unb c.requires).recipient

pub take_first-sender-requires : goal.take_first-sender-requires
take_first-sender-requires c =
    let xs = c.args.unb.elements in
    let rest : c.take_first-reference.new.elements.items ≡ remove xs 4 =
    c.take_first-reference.ensures.rest ∙ ap (λ elements. remove elements 4) c.into_vec-elements.ensures in
    let rest_2 : c.take_first-recipient.new.elements.items ≡ remove (remove xs 4) 2 =
    c.take_first-recipient.ensures.rest ∙ ap (λ elements. remove elements 2) rest in
    rw (rest_2, component_at-remove (remove xs 4) 2 1 (omega arith), component_at-remove xs 4 1 (omega arith))
    (header_places c.args.unb c.requires).sender

pub returns : goal.returns
returns c =
    let xs = c.args.unb.elements in
    let rest : c.take_first-reference.new.elements.items ≡ remove xs 4 =
    c.take_first-reference.ensures.rest ∙ ap (λ elements. remove elements 4) c.into_vec-elements.ensures in
    let rest_2 : c.take_first-recipient.new.elements.items ≡ remove (remove xs 4) 2 =
    c.take_first-recipient.ensures.rest ∙ ap (λ elements. remove elements 2) rest in
    let syntax = c.array_of-syntax.ensures ∙ c.component.ensures in
    let date = c.array_of-date.ensures ∙ c.component-2.ensures in
    let time = c.array_of-time.ensures ∙ c.component-3.ensures in
    let reference = c.take_first-reference.ensures.value ∙ ap (λ elements. component_at elements 4 0) c.into_vec-elements.ensures in
    let recipient = c.take_first-recipient.ensures.value
    ∙ ap (λ elements. component_at elements 2 0) rest
    ∙ component_at-remove xs 4 2 (omega arith) in
    let sender = c.take_first-sender.ensures.value
    ∙ ap (λ elements. component_at elements 1 0) rest_2
    ∙ component_at-remove (remove xs 4) 2 1 (omega arith)
    ∙ component_at-remove xs 4 1 (omega arith) in
    rw (syntax, date, time, reference, recipient, sender) refl
