-- Finds the segment that shows a fault of a despatch advice or a receiving advice, by its number. UNH is number 1.
use Rattle.std.specs.Prelude.{ℕ, ◌+◌, Bool, true, false, not, ◌&&◌, if◌then◌else◌, List, [], ◌∷◌, is_some, codes}
use Rattle.std.specs.List.{list_any, prefix_len}
use Rattle.std.specs.Option.{unwrap_or}
use Rattle.edi_base.specs.Seen.{is_among}
use Rattle.edi_segments.specs.declared.segment.Segment.{Segment}
use Rattle.edi_envelope.specs.Segments.{first_segment}
use Rattle.edi_messages.specs.Parts.{is_lin, is_cps, is_qualified}
use Rattle.edi_messages.specs.declared.fault.MessageFault.{MessageFault}
use Rattle.edi_messages.specs.declared.fault.MessageFault.TheVariants as fault
use Rattle.edi_goods.specs.Units.{unit_of, head, has_identifier, sscc, sscc_or_none, has_line_outside}
use Rattle.edi_goods.specs.Despatch.{inherits, has_header_reference_or_none}
use Rattle.edi_places.specs.Counting.{first_place, once_place}
use Rattle.edi_places.specs.Groups.{group_place, group_place_or_last}
use Rattle.edi_places.specs.declared.groups.Condition.{Condition}
use Rattle.edi_places.specs.declared.groups.Condition.TheVariants as condition
use Rattle.edi_places.specs.Header.{beginning_place, date_place, goods_parties_place, reference_place, control_place}

-- how many segments come before the first CPS
abbrev pub outside : List Segment → ℕ
outside message = prefix_len (λ segment. not (is_cps segment)) message

-- the segment that shows that a condition does not hold of a line group of a unit
abbrev pub unit_group_place : Condition → List Segment → ℕ
unit_group_place condition message = group_place_or_last condition [] (outside message) message

-- what is asked of the references of line groups, by whether the header has one that they inherit
abbrev pub reference_condition : Bool → Condition
reference_condition true = condition.ReferenceOrNone
reference_condition false = condition.Reference

-- the GIN with 7405 BJ of a unit: the second in its head, or else the only one, or else CPS
abbrev pub sscc_place : List Segment → ℕ
sscc_place unit = once_place (is_qualified (codes "GIN") (codes "BJ")) 1 (head unit)

-- a unit has an SSCC that is not among these
abbrev pub is_new_unit : List (List ℕ) → List Segment → Bool
is_new_unit come unit = is_some (sscc unit) && not (is_among (sscc_or_none unit) come)

-- a unit that has lines begins here; others are not read
abbrev pub begins_unit : List Segment → Bool
begins_unit segments = is_cps (first_segment segments) && list_any is_lin (unit_of segments)

-- such a unit without an identifier, or without an SSCC of its own
abbrev pub begins_wrong_unit : List (List ℕ) → List Segment → Bool
begins_wrong_unit come segments =
    begins_unit segments && not (has_identifier (unit_of segments) && is_new_unit come (unit_of segments))

abbrev pub ssccs_with : List (List ℕ) → List Segment → List (List ℕ)
ssccs_with come segments = if begins_unit segments then sscc_or_none (unit_of segments) ∷ come else come

-- CPS if it has no identifier, or else GIN
abbrev pub place_in_unit : List Segment → ℕ
place_in_unit unit = if has_identifier unit then sscc_place unit else 1

-- of the first such unit, after units with these SSCC
abbrev pub first_unit_place : List (List ℕ) → List Segment → ℕ
first_unit_place come [] = 0
first_unit_place come (segment ∷ rest) =
    if begins_wrong_unit come (segment ∷ rest) then place_in_unit (unit_of (segment ∷ rest))
    else 1 + first_unit_place (ssccs_with come (segment ∷ rest)) rest

-- a LIN before the first CPS, or else a segment of such a unit
abbrev pub unit_place : List Segment → ℕ
unit_place message = if has_line_outside message then first_place is_lin message else first_unit_place [] message

-- the segment that shows each fault of a despatch advice
abbrev pub despatch_place : MessageFault → List Segment → ℕ
despatch_place fault.Beginning message = beginning_place message
despatch_place fault.Function message = 2
despatch_place fault.Date message = date_place message
despatch_place fault.Parties message = goods_parties_place message
despatch_place fault.Line message = unit_group_place condition.Line message
despatch_place fault.Quantity message = unit_group_place condition.Despatched message
despatch_place fault.Reference message =
    if has_header_reference_or_none message then unit_group_place (reference_condition (inherits message)) message
    else reference_place message
despatch_place fault.Unit message = unit_place message
despatch_place fault.Control message = control_place message
despatch_place _ message = 1

-- a line group whose quantities are wrong; UNH if each is valid, since no one segment shows a sum that is too great
abbrev pub receipt_quantity_place : List Segment → ℕ
receipt_quantity_place message = unwrap_or (group_place condition.Received [] (outside message) message) 1

-- the segment that shows each fault of a receiving advice
abbrev pub receipt_place : MessageFault → List Segment → ℕ
receipt_place fault.Beginning message = beginning_place message
receipt_place fault.Function message = 2
receipt_place fault.Date message = date_place message
receipt_place fault.Parties message = goods_parties_place message
receipt_place fault.Line message = unit_group_place condition.Line message
receipt_place fault.Quantity message = receipt_quantity_place message
receipt_place fault.Unit message = unit_place message
receipt_place fault.Control message = control_place message
receipt_place _ message = 1
