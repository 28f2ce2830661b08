-- The units of a despatch advice or a receiving advice (EANCOM 2002, the segment tables of DESADV and RECADV): CPS
-- and what follows it.
use Rattle.std.specs.Prelude.{ℕ, ◌==◌, Bool, not, ◌&&◌, ◌||◌, if◌then◌else◌, List, [], length, map, filter, is_some}
use Rattle.std.specs.Prelude.{codes, Option, None, option_and_then}
use Rattle.std.specs.List.{list_all, list_any}
use Rattle.std.specs.Option.{unwrap_or}
use Rattle.edi_base.specs.Seen.{has_twice}
use Rattle.gs1_ids.specs.Sscc.{sscc_of}
use Rattle.edi_messages.specs.EdiSegments.declared.segment.Segment.{Segment}
use Rattle.edi_messages.specs.EdiSegments.Segment.{element_at}
use Rattle.edi_messages.specs.EdiEnvelope.Segments.{component, first_segment, is_unt}
use Rattle.edi_messages.specs.Lines.{is_line}
use Rattle.edi_messages.specs.Parts.{is_lin, is_cps, before_first, up_to_next, parts_of, line_groups, only_qualified}

-- a segment before which a unit ends
abbrev pub ends_unit : Segment → Bool
ends_unit segment = is_cps segment || is_unt segment

-- the segment that a unit begins with, and what follows it up to the next CPS or UNT
abbrev pub unit_of : List Segment → List Segment
unit_of segments = up_to_next ends_unit segments

-- the units: each CPS, with what follows it up to the next CPS or UNT
abbrev pub units : List Segment → List (List Segment)
units segments = parts_of is_cps ends_unit segments

-- those that are read have a LIN
abbrev pub read_units : List Segment → List (List Segment)
read_units message = filter (list_any is_lin) (units message)

-- what comes before the first LIN of a unit
abbrev pub head : List Segment → List Segment
head unit = before_first is_lin unit

-- CPS has an identifier (7164)
abbrev pub has_identifier : List Segment → Bool
has_identifier unit = not (length (component (first_segment unit) 0 0) == 0)

-- the one SSCC of a GIN (7402), the only component after the qualifier
abbrev pub sscc_in : Segment → Option (List ℕ)
sscc_in gin = if length gin.elements == 2 && length (element_at gin.elements 1) == 1 then sscc_of (component gin 1 0)
    else None

-- the SSCC of the one GIN with 7405 BJ in the head of a unit
abbrev pub sscc : List Segment → Option (List ℕ)
sscc unit = option_and_then sscc_in (only_qualified (codes "GIN") (codes "BJ") (head unit))

-- the SSCC of a unit, or no digits if it has none
abbrev pub sscc_or_none : List Segment → List ℕ
sscc_or_none unit = unwrap_or (sscc unit) []

-- a LIN before the first CPS
abbrev pub has_line_outside : List Segment → Bool
has_line_outside message = list_any is_lin (before_first is_cps message)

-- an identifier, and an SSCC
abbrev pub is_unit : List Segment → Bool
is_unit unit = has_identifier unit && is_some (sscc unit)

-- no LIN comes before the first CPS, and each unit that is read has an identifier and an SSCC of its own
abbrev pub has_units : List Segment → Bool
has_units message = not (has_line_outside message) && list_all is_unit (read_units message)
    && not (has_twice (map sscc_or_none (read_units message)))

-- each LIN of a unit is a line
abbrev pub has_lines : List Segment → Bool
has_lines unit = list_all is_line (line_groups unit)
