-- The receiving advice that a message is (RECADV), or its message fault.
use Rattle.std.specs.Prelude.{ℕ, ◌==◌, Bool, false, not, ◌&&◌, ◌||◌, List, [], map, find, is_some, codes, Option, Result}
use Rattle.std.specs.List.{list_all}
use Rattle.std.specs.Option.{unwrap_or}
use Rattle.std.specs.Str.{bytes_eq}
use Rattle.edi_messages.specs.EdiSegments.declared.segment.Segment.{Segment}
use Rattle.edi_messages.specs.EdiEnvelope.declared.interchange.RawMessage.{RawMessage}
use Rattle.edi_messages.specs.Fault.{unless_any}
use Rattle.edi_messages.specs.Header.{is_type, begins_as, document_number, function, has_date, party}
use Rattle.edi_messages.specs.Lines.{gtin, amount, quantity_of}
use Rattle.edi_messages.specs.Parts.{line_groups, none_or_one, is_read}
use Rattle.edi_messages.specs.Summary.{line_count, is_controlled}
use Rattle.edi_messages.specs.declared.fault.MessageFault.{MessageFault}
use Rattle.edi_messages.specs.declared.fault.MessageFault.TheVariants as fault
use Rattle.edi_goods.specs.Parties.{has_parties, buyer}
use Rattle.edi_goods.specs.Units.{read_units, has_lines, has_units, sscc_or_none}
use Rattle.edi_goods.specs.Sums.{sums_within}
use Rattle.edi_goods.specs.declared.kind.ReceivedKind.{ReceivedKind}
use Rattle.edi_goods.specs.declared.kind.ReceivedKind.TheVariants.{Accepted, Returned, Destroyed}
use Rattle.edi_goods.specs.declared.receipt.Receipt.{Receipt}
use Rattle.edi_goods.specs.declared.receipt.ReceiptLine.{ReceiptLine}
use Rattle.edi_goods.specs.declared.receipt.ReceiptUnit.{ReceiptUnit}
use Rattle.edi_goods.specs.declared.sums.Amount.{Amount}

-- the quantities of a line (6063): 194 received and accepted, 195 to be returned, 196 to be destroyed
abbrev pub accepted : List Segment → Option ℕ
accepted group = quantity_of (codes "194") 0 group

abbrev pub returned : List Segment → Option ℕ
returned group = quantity_of (codes "195") 0 group

abbrev pub destroyed : List Segment → Option ℕ
destroyed group = quantity_of (codes "196") 0 group

-- a group has no quantity of a kind, or one that is valid
abbrev pub is_once_or_none : List ℕ → List Segment → Bool
is_once_or_none kind group = none_or_one (is_read (amount 0)) (codes "QTY") kind group

-- each kind at most once, and one of them at least
abbrev pub is_received : List Segment → Bool
is_received group =
    is_once_or_none (codes "194") group && is_once_or_none (codes "195") group && is_once_or_none (codes "196") group
    && (is_some (accepted group) || is_some (returned group) || is_some (destroyed group))

abbrev pub line_of : List Segment → ReceiptLine
line_of group = record {
  gtin = unwrap_or (gtin group) [];
  accepted = unwrap_or (accepted group) 0;
  returned = unwrap_or (returned group) 0;
  destroyed = unwrap_or (destroyed group) 0;
}

abbrev pub lines_in_unit : List Segment → List ReceiptLine
lines_in_unit unit = map line_of (line_groups unit)

-- what a line says of one kind
abbrev pub of_kind : ReceivedKind → ReceiptLine → ℕ
of_kind Accepted line = line.accepted
of_kind Returned line = line.returned
of_kind Destroyed line = line.destroyed

abbrev pub amounts : ReceivedKind → List ReceiptLine → List Amount
amounts kind lines = map (λ line. record { gtin = line.gtin; quantity = of_kind kind line }) lines

-- no kind's sum over the lines of one article is above 999,999,999
abbrev pub has_sums : List ReceiptLine → Bool
has_sums lines = sums_within (amounts Accepted lines) && sums_within (amounts Returned lines)
    && sums_within (amounts Destroyed lines)

-- the quantities of each line of a unit, and their sums by article
abbrev pub has_quantities : List Segment → Bool
has_quantities unit = list_all is_received (line_groups unit) && has_sums (lines_in_unit unit)

-- the function of an advice (BGM 1225): 9, an original, or 5, which replaces what was received
abbrev pub replaces : List Segment → Bool
replaces message = bytes_eq (function message) (codes "5")

abbrev pub has_function : List Segment → Bool
has_function message = bytes_eq (function message) (codes "9") || replaces message

-- Each condition, of the whole message. Each is defined even if another one holds.
abbrev pub holds : MessageFault → RawMessage → Bool
holds fault.MessageType m = not (is_type (codes "RECADV") m)
holds fault.Beginning m = not (begins_as (codes "632") m.segments)
holds fault.Function m = not (has_function m.segments)
holds fault.Date m = not (has_date m.segments)
holds fault.Parties m = not (has_parties m.segments)
holds fault.Line m = not (list_all has_lines (read_units m.segments))
holds fault.Quantity m = not (list_all has_quantities (read_units m.segments))
holds fault.Unit m = not (has_units m.segments)
holds fault.Control m = not (is_controlled m.segments)
holds fault.WithoutLines m = line_count m.segments == 0
holds other m = false

-- the lowest of these faults whose condition holds
abbrev pub lowest : List MessageFault → RawMessage → Option MessageFault
lowest among m = find (λ fault. holds fault m) among

abbrev pub unit_from : List Segment → ReceiptUnit
unit_from unit = record { sscc = sscc_or_none unit; lines = lines_in_unit unit }

-- what the message says
abbrev pub contents_of : List Segment → Receipt
contents_of message = record {
  number = document_number message;
  buyer = buyer message;
  supplier = unwrap_or (party (codes "SU") message) [];
  replaces = replaces message;
  units = map unit_from (read_units message);
}

-- the receiving advice of a message if no condition holds, or else the lowest fault
unfoldable pub receipt_of : RawMessage → Result Receipt MessageFault
receipt_of m = unless_any (λ fault. holds fault m) (contents_of m.segments)
