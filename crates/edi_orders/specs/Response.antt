-- The response that a message is (ORDRSP), or its message fault.
use Rattle.std.specs.Prelude.{ℕ, ◌==◌, Bool, true, false, not, ◌&&◌, ◌||◌, if◌then◌else◌, List, [], map, find}
use Rattle.std.specs.Prelude.{is_some, codes, Option, Some, None, option_map, Result}
use Rattle.std.specs.List.{list_all}
use Rattle.std.specs.Option.{unwrap_or}
use Rattle.std.specs.Str.{bytes_eq}
use Rattle.edi_messages.specs.EdiSegments.declared.segment.Segment.{Segment}
use Rattle.edi_messages.specs.EdiEnvelope.Segments.{component}
use Rattle.edi_messages.specs.EdiEnvelope.declared.interchange.RawMessage.{RawMessage}
use Rattle.edi_messages.specs.Parts.{line_groups, has_qualified}
use Rattle.edi_messages.specs.Header.{is_type, begins_as, document_number, function, has_date, party}
use Rattle.edi_messages.specs.Lines.{line, gtin, is_line, quantity_of}
use Rattle.edi_messages.specs.References.{none_or_one_reference, order_named, is_order_reference, order, group_line}
use Rattle.edi_messages.specs.Summary.{has_summary, line_count, is_controlled}
use Rattle.edi_orders.specs.declared.action.Action.{Action}
use Rattle.edi_orders.specs.declared.action.Action.TheVariants as actions
use Rattle.edi_orders.specs.declared.extent.Extent.{Extent}
use Rattle.edi_orders.specs.declared.extent.Extent.TheVariants as extents
use Rattle.edi_messages.specs.Fault.{unless_any}
use Rattle.edi_messages.specs.declared.fault.MessageFault.{MessageFault}
use Rattle.edi_messages.specs.declared.fault.MessageFault.TheVariants as fault
use Rattle.edi_orders.specs.declared.response.Response.{Response}
use Rattle.edi_orders.specs.declared.response.Answer.{Answer}
use Rattle.edi_orders.specs.declared.response.Answer.TheVariants as answers
use Rattle.edi_orders.specs.declared.response.AnswerLine.{AnswerLine}
use Rattle.edi_orders.specs.declared.response.LineAnswer.{LineAnswer}
use Rattle.edi_orders.specs.declared.response.LineAnswer.TheVariants as line_answers

-- what the message function (1225) says: 4 change and 9 original have lines, 27 is not accepted, 29 accepted without
-- amendment
abbrev pub extent_of : List ℕ → Option Extent
extent_of function =
    if bytes_eq function (codes "4") || bytes_eq function (codes "9") then Some extents.Lines
    else if bytes_eq function (codes "27") then Some extents.AllRefused
    else if bytes_eq function (codes "29") then Some extents.AllAccepted
    else None

abbrev pub extent : List Segment → Option Extent
extent message = extent_of (function message)

abbrev pub has_lines : Option Extent → Bool
has_lines (Some extents.Lines) = true
has_lines _ = false

-- the line groups that are read
abbrev pub read_groups : List Segment → List (List Segment)
read_groups message = if has_lines (extent message) then line_groups message else []

-- the action of a line (1229): 3 changed, 5 accepted without amendment, 6 accepted with amendment, 7 not accepted
abbrev pub action_of : List ℕ → Option Action
action_of code =
    if bytes_eq code (codes "5") then Some actions.Accept
    else if bytes_eq code (codes "7") then Some actions.Refuse
    else if bytes_eq code (codes "3") || bytes_eq code (codes "6") then Some actions.Change
    else None

abbrev pub action : List Segment → Option Action
action group = action_of (component (line group) 1 0)

-- the quantity to be delivered (QTY with 6063 113), or else the quantity ordered (21)
abbrev pub changed_quantity : List Segment → Option ℕ
changed_quantity group = if has_qualified (codes "QTY") (codes "113") group then quantity_of (codes "113") 0 group
    else quantity_of (codes "21") 0 group

-- the answer to a line; only a change has a quantity. A missing action is a fault of the line and not of its quantity.
abbrev pub answer_by : Option Action → List Segment → Option LineAnswer
answer_by (Some actions.Accept) group = Some line_answers.Accepted
answer_by (Some actions.Refuse) group = Some line_answers.Refused
answer_by (Some actions.Change) group = option_map line_answers.Changed (changed_quantity group)
answer_by None group = Some line_answers.Accepted

abbrev pub line_answer : List Segment → Option LineAnswer
line_answer group = answer_by (action group) group

-- the reference names the order of the header
abbrev pub is_of_order : Option (List ℕ) → Option (List ℕ) → Bool
is_of_order (Some one) (Some other) = bytes_eq one other
is_of_order _ _ = false

-- a valid reference to the order of the header
abbrev pub is_reference_to : Option (List ℕ) → Option Segment → Bool
is_reference_to order None = false
is_reference_to order (Some rff) = is_order_reference rff && is_of_order (order_named rff) order

-- a group has no reference, or one to this order
abbrev pub has_no_reference_or_one_to : Option (List ℕ) → List Segment → Bool
has_no_reference_or_one_to order group = none_or_one_reference (is_reference_to order) group

-- Each condition, of the whole message. Each is defined even if another one holds.
abbrev pub holds : MessageFault → RawMessage → Bool
holds fault.MessageType m = not (is_type (codes "ORDRSP") m)
holds fault.Beginning m = not (begins_as (codes "231") m.segments)
holds fault.Function m = not (is_some (extent m.segments))
holds fault.Date m = not (has_date m.segments)
holds fault.Parties m = not (is_some (party (codes "BY") m.segments) && is_some (party (codes "SU") m.segments))
holds fault.Summary m = not (has_summary m.segments)
holds fault.Line m = not (list_all is_line (read_groups m.segments)
    && list_all (λ group. is_some (action group)) (read_groups m.segments))
holds fault.Quantity m = not (list_all (λ group. is_some (line_answer group)) (read_groups m.segments))
holds fault.Reference m =
    not (is_some (order m.segments) && list_all (has_no_reference_or_one_to (order m.segments)) (read_groups m.segments))
holds fault.Control m = not (is_controlled m.segments)
holds fault.WithoutLines m = has_lines (extent m.segments) && line_count m.segments == 0
holds other m = false

-- the lowest of these faults whose condition holds
abbrev pub lowest : List MessageFault → RawMessage → Option MessageFault
lowest among m = find (λ fault. holds fault m) among

abbrev pub line_of : List Segment → AnswerLine
line_of group =
    record {
      order_line = group_line group;
      gtin = unwrap_or (gtin group) [];
      answer = unwrap_or (line_answer group) line_answers.Accepted;
    }

abbrev pub answer_of : Option Extent → List AnswerLine → Answer
answer_of (Some extents.AllAccepted) lines = answers.AllAccepted
answer_of (Some extents.AllRefused) lines = answers.AllRefused
answer_of _ lines = answers.Lines lines

-- what the message says
abbrev pub contents_of : List Segment → Response
contents_of message = record {
  number = document_number message;
  buyer = unwrap_or (party (codes "BY") message) [];
  supplier = unwrap_or (party (codes "SU") message) [];
  order = unwrap_or (order message) [];
  answer = answer_of (extent message) (map line_of (read_groups message));
}

-- the response of a message if no condition holds, or else the lowest fault
unfoldable pub response_of : RawMessage → Result Response MessageFault
response_of m = unless_any (λ fault. holds fault m) (contents_of m.segments)
