-- What is known of an order that was read, without its definition.
use Rattle.std.proofs.Common.{◌≡◌, not, List, map, false, Ok, refl, sym, ap, ◌∙◌}
use Rattle.std.specs.List.{list_all}
use Rattle.std.proofs.lemmas.Bool.{or_parts}
use Rattle.std.proofs.lemmas.Simd.{map-map}
use Rattle.edi_base.specs.Seen.{has_number_twice}
use Rattle.edi_messages.specs.EdiSegments.declared.segment.Segment.{Segment}
use Rattle.edi_messages.specs.EdiEnvelope.declared.interchange.RawMessage.{RawMessage}
use Rattle.edi_messages.specs.Lines.{number_or_zero, is_line}
use Rattle.edi_messages.specs.Parts.{line_groups}
use Rattle.edi_messages.specs.declared.fault.MessageFault.TheVariants as fault
use Rattle.edi_messages.proofs.Valid.{content_is, no_fault_holds}
use Rattle.edi_orders.specs.Order.{holds, line_of, contents_of, order_of}
use Rattle.edi_orders.specs.declared.order.Order.{Order}
use Rattle.edi_orders.specs.declared.order.OrderLine.{OrderLine}

-- whether a number stands twice, in the lines as in their groups
pub numbers_of : (groups : List (List Segment))
    → has_number_twice (map (λ line. line.line) (map line_of groups)) ≡ has_number_twice (map number_or_zero groups)
numbers_of groups = ap has_number_twice (map-map (λ (line : OrderLine). line.line) line_of groups)

-- no line number of an order stands twice
pub order_apart : (m : RawMessage) (order : Order) → order_of m ≡ Ok order → has_number_twice (map (λ line. line.line) order.lines) ≡ false
unfolding order_of
order_apart m order h =
    let groups = line_groups m.segments in
    let right = no_fault_holds (λ f. holds f m) (contents_of m.segments) order refl h fault.Line in
    ap (λ (o : Order). has_number_twice (map (λ line. line.line) o.lines))
    (sym (content_is (λ f. holds f m) (contents_of m.segments) order h))
    ∙ numbers_of groups
    ∙ (or_parts (not (list_all is_line groups)) (has_number_twice (map number_or_zero groups)) right).1
