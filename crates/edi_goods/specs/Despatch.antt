-- The despatch advice that a message is (DESADV), or its message fault.
use Rattle.std.specs.Prelude.{ℕ, ◌==◌, Bool, false, not, ◌&&◌, List, [], map, find, is_some, codes}
use Rattle.std.specs.Prelude.{Option, Some, None, Result}
use Rattle.std.specs.List.{list_all}
use Rattle.std.specs.Option.{unwrap_or}
use Rattle.std.specs.Str.{bytes_eq}
use Rattle.edi_messages.specs.EdiSegments.declared.segment.Segment.{Segment}
use Rattle.edi_messages.specs.EdiEnvelope.declared.interchange.RawMessage.{RawMessage}
use Rattle.edi_messages.specs.Fault.{unless_any}
use Rattle.edi_messages.specs.Header.{is_type, begins_as, document_number, function, has_date, party}
use Rattle.edi_messages.specs.Lines.{gtin, quantity_of}
use Rattle.edi_messages.specs.Parts.{header, line_groups, is_read}
use Rattle.edi_messages.specs.References.{has_reference, reference, none_or_one_reference, order_named}
use Rattle.edi_messages.specs.References.{is_order_reference, order, group_order, group_line}
use Rattle.edi_messages.specs.Summary.{line_count, is_controlled}
use Rattle.edi_messages.specs.declared.fault.MessageFault.{MessageFault}
use Rattle.edi_messages.specs.declared.fault.MessageFault.TheVariants as fault
use Rattle.edi_goods.specs.Parties.{has_parties, buyer}
use Rattle.edi_goods.specs.Units.{read_units, has_lines, has_units, sscc_or_none}
use Rattle.edi_goods.specs.declared.despatch.Despatch.{Despatch}
use Rattle.edi_goods.specs.declared.despatch.DespatchLine.{DespatchLine}
use Rattle.edi_goods.specs.declared.despatch.Unit.{Unit as DespatchUnit}

-- the quantity despatched: QTY with 6063 12
abbrev pub despatched : List Segment → Option ℕ
despatched group = quantity_of (codes "12") 1 group

abbrev pub has_quantities : List Segment → Bool
has_quantities unit = list_all (λ group. is_some (despatched group)) (line_groups unit)

-- the header has a reference to an order
abbrev pub inherits : List Segment → Bool
inherits message = has_reference (header message)

-- none, or one, with an order number
abbrev pub has_header_reference_or_none : List Segment → Bool
has_header_reference_or_none message = none_or_one_reference (is_read order_named) (header message)

-- The one reference of a group is valid. If there is not exactly one, the group has none at all, and the header has
-- one.
abbrev pub is_reference_or_inherits : Bool → Bool → Option Segment → Bool
is_reference_or_inherits there inherited (Some rff) = is_order_reference rff
is_reference_or_inherits there inherited None = not there && inherited

abbrev pub has_reference_or_inherits : Bool → List Segment → Bool
has_reference_or_inherits inherited group = is_reference_or_inherits (has_reference group) inherited (reference group)

abbrev pub has_references : Bool → List Segment → Bool
has_references inherited unit = list_all (has_reference_or_inherits inherited) (line_groups unit)

-- the order of a line: the one that its group names, or that of the header
abbrev pub order_of_line : List ℕ → List Segment → List ℕ
order_of_line header_order group = unwrap_or (group_order group) header_order

-- the order of the header, or nothing if it has none
abbrev pub header_order : List Segment → List ℕ
header_order message = unwrap_or (order message) []

-- Each condition, of the whole message. Each is defined even if another one holds.
abbrev pub holds : MessageFault → RawMessage → Bool
holds fault.MessageType m = not (is_type (codes "DESADV") m)
holds fault.Beginning m = not (begins_as (codes "351") m.segments)
holds fault.Function m = not (bytes_eq (function m.segments) (codes "9"))
holds fault.Date m = not (has_date m.segments)
holds fault.Parties m = not (has_parties m.segments)
holds fault.Line m = not (list_all has_lines (read_units m.segments))
holds fault.Quantity m = not (list_all has_quantities (read_units m.segments))
holds fault.Reference m =
    not (has_header_reference_or_none m.segments
    && list_all (has_references (inherits m.segments)) (read_units m.segments))
holds fault.Unit m = not (has_units m.segments)
holds fault.Control m = not (is_controlled m.segments)
holds fault.WithoutLines m = line_count m.segments == 0
holds other m = false

-- the lowest of these faults whose condition holds
abbrev pub lowest : List MessageFault → RawMessage → Option MessageFault
lowest among m = find (λ fault. holds fault m) among

abbrev pub line_of : List ℕ → List Segment → DespatchLine
line_of order group = record {
  order = order_of_line order group;
  order_line = group_line group;
  gtin = unwrap_or (gtin group) [];
  quantity = unwrap_or (despatched group) 0;
}

abbrev pub lines_in_unit : List ℕ → List Segment → List DespatchLine
lines_in_unit order unit = map (line_of order) (line_groups unit)

abbrev pub unit_from : List ℕ → List Segment → DespatchUnit
unit_from order unit = record { sscc = sscc_or_none unit; lines = lines_in_unit order unit }

-- what the message says
abbrev pub contents_of : List Segment → Despatch
contents_of message = record {
  number = document_number message;
  buyer = buyer message;
  supplier = unwrap_or (party (codes "SU") message) [];
  units = map (unit_from (header_order message)) (read_units message);
}

-- the despatch advice of a message if no condition holds, or else the lowest fault
unfoldable pub despatch_of : RawMessage → Result Despatch MessageFault
despatch_of m = unless_any (λ fault. holds fault m) (contents_of m.segments)
