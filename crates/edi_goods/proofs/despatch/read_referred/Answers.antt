use Rattle.std.proofs.Common.{rules, ◌≡◌, ℕ, List, map, ap, ◌∙◌}
use Rattle.edi_messages.specs.EdiSegments.declared.segment.Segment.{Segment}
use Rattle.edi_goods.specs.Despatch as spec
use Rattle.edi_goods.specs.Units.{read_units}
use Rattle.edi_goods.proofs.despatch.read_referred.Goals as goal

pub returns-clause-said : goal.returns-clause-said
returns-clause-said c =
    let segments = c.args.message.now.segments in
    let order = c.in_ok-order.order.now in
    let read : c.in_ok-units.units ≡ map (spec.unit_from order) c.in_ok-referred.referred.items = search rules in
    let referred : c.in_ok-referred.referred.items ≡ read_units segments = search rules in
    let named : order ≡ spec.header_order segments = search rules in
    read
    ∙ ap (λ (units : List (List Segment)). map (spec.unit_from order) units) referred
    ∙ ap (λ (named : List ℕ). map (spec.unit_from named) (read_units segments)) named
