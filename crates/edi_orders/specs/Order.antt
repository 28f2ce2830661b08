-- The order that a message is (ORDERS), or its message fault.
use Rattle.std.specs.Prelude.{ℕ, ◌==◌, Bool, false, not, ◌&&◌, ◌||◌, List, [], map, find, is_some, codes, Option, Result}
use Rattle.std.specs.List.{list_all}
use Rattle.std.specs.Option.{unwrap_or}
use Rattle.std.specs.Str.{bytes_eq}
use Rattle.edi_base.specs.Seen.{has_number_twice}
use Rattle.edi_messages.specs.EdiSegments.declared.segment.Segment.{Segment}
use Rattle.edi_messages.specs.EdiEnvelope.declared.interchange.RawMessage.{RawMessage}
use Rattle.edi_messages.specs.Parts.{line_groups}
use Rattle.edi_messages.specs.Header.{is_type, begins_as, document_number, function, has_date, party}
use Rattle.edi_messages.specs.Lines.{number_or_zero, gtin, is_line, quantity_of}
use Rattle.edi_messages.specs.Summary.{has_summary, line_count, is_controlled}
use Rattle.edi_messages.specs.Fault.{unless_any}
use Rattle.edi_messages.specs.declared.fault.MessageFault.{MessageFault}
use Rattle.edi_messages.specs.declared.fault.MessageFault.TheVariants as fault
use Rattle.edi_orders.specs.declared.order.Order.{Order}
use Rattle.edi_orders.specs.declared.order.OrderLine.{OrderLine}

-- the quantity ordered: QTY with 6063 21
abbrev pub ordered : List Segment → Option ℕ
ordered group = quantity_of (codes "21") 1 group

-- Each condition, of the whole message. Each is defined even if another one holds.
abbrev pub holds : MessageFault → RawMessage → Bool
holds fault.MessageType m = not (is_type (codes "ORDERS") m)
holds fault.Beginning m = not (begins_as (codes "220") m.segments)
holds fault.Function m = not (bytes_eq (function m.segments) (codes "9"))
holds fault.Date m = not (has_date m.segments)
holds fault.Parties m = not (is_some (party (codes "BY") m.segments) && is_some (party (codes "SU") m.segments))
holds fault.Summary m = not (has_summary m.segments)
holds fault.Line m = not (list_all is_line (line_groups m.segments))
    || has_number_twice (map number_or_zero (line_groups m.segments))
holds fault.Quantity m = not (list_all (λ group. is_some (ordered group)) (line_groups m.segments))
holds fault.Control m = not (is_controlled m.segments)
holds fault.WithoutLines m = line_count m.segments == 0
holds other m = false

-- the lowest of these faults whose condition holds
abbrev pub lowest : List MessageFault → RawMessage → Option MessageFault
lowest among m = find (λ fault. holds fault m) among

abbrev pub line_of : List Segment → OrderLine
line_of group =
    record { line = number_or_zero group; gtin = unwrap_or (gtin group) []; quantity = unwrap_or (ordered group) 0 }

-- what the message says
abbrev pub contents_of : List Segment → Order
contents_of message = record {
  number = document_number message;
  buyer = unwrap_or (party (codes "BY") message) [];
  supplier = unwrap_or (party (codes "SU") message) [];
  lines = map line_of (line_groups message);
}

-- the order of a message if no condition holds, or else the lowest fault
unfoldable pub order_of : RawMessage → Result Order MessageFault
order_of m = unless_any (λ fault. holds fault m) (contents_of m.segments)
