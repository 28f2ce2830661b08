-- Finds the segment that shows a fault of an order or a response, by its number. UNH is number 1.
use Rattle.std.specs.Prelude.{ℕ, ◌+◌, Bool, not, ◌&&◌, nat_eq, if◌then◌else◌, List, [], ◌∷◌}
use Rattle.std.specs.Prelude.{Option, Some, None}
use Rattle.edi_base.specs.Seen.{comes_among}
use Rattle.edi_segments.specs.declared.segment.Segment.{Segment}
use Rattle.edi_messages.specs.Parts.{is_lin}
use Rattle.edi_messages.specs.Lines.{is_line, number_or_zero}
use Rattle.edi_messages.specs.References.{order}
use Rattle.edi_messages.specs.declared.fault.MessageFault.{MessageFault}
use Rattle.edi_messages.specs.declared.fault.MessageFault.TheVariants as fault
use Rattle.edi_places.specs.Groups.{group_place_or_last}
use Rattle.edi_places.specs.declared.groups.Condition.TheVariants as condition
use Rattle.edi_places.specs.Header.{beginning_place, date_place, parties_place, reference_place, summary_place, control_place}

-- a LIN is valid; its line number, 0 if it is not
abbrev pub is_lin_valid : Segment → Bool
is_lin_valid lin = is_line (lin ∷ [])

abbrev pub lin_number : Segment → ℕ
lin_number lin = number_or_zero (lin ∷ [])

-- a LIN that is wrong, or has one of these numbers
abbrev pub shows_line : List ℕ → Segment → Bool
shows_line come segment =
    is_lin segment && not (is_lin_valid segment && not (comes_among nat_eq (lin_number segment) come))

abbrev pub numbers_with : List ℕ → Segment → List ℕ
numbers_with come segment = if is_lin segment then lin_number segment ∷ come else come

-- the first of them, after lines with these numbers
abbrev pub first_line_place : List ℕ → List Segment → ℕ
first_line_place come [] = 0
first_line_place come (segment ∷ rest) =
    if shows_line come segment then 1 else 1 + first_line_place (numbers_with come segment) rest

-- the segment that shows each fault of an order
abbrev pub order_place : MessageFault → List Segment → ℕ
order_place fault.Beginning message = beginning_place message
order_place fault.Function message = 2
order_place fault.Date message = date_place message
order_place fault.Parties message = parties_place message
order_place fault.Summary message = summary_place message
order_place fault.Line message = first_line_place [] message
order_place fault.Quantity message = group_place_or_last condition.Ordered [] 0 message
order_place fault.Control message = control_place message
order_place _ message = 1

-- of the header if it names no order, or else of a line group
abbrev pub response_reference_place : Option (List ℕ) → List Segment → ℕ
response_reference_place None message = reference_place message
response_reference_place (Some order) message = group_place_or_last condition.SameOrder order 0 message

-- the segment that shows each fault of a response
abbrev pub response_place : MessageFault → List Segment → ℕ
response_place fault.Beginning message = beginning_place message
response_place fault.Function message = 2
response_place fault.Date message = date_place message
response_place fault.Parties message = parties_place message
response_place fault.Summary message = summary_place message
response_place fault.Line message = group_place_or_last condition.Action [] 0 message
response_place fault.Quantity message = group_place_or_last condition.Answered [] 0 message
response_place fault.Reference message = response_reference_place (order message) message
response_place fault.Control message = control_place message
response_place _ message = 1
