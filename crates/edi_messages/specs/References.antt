-- References to an order and its lines: RFF with 1153 ON.
use Rattle.std.specs.Prelude.{ℕ, ◌==◌, Bool, ◌&&◌, ◌||◌, if◌then◌else◌, List, length, is_some, codes, Option, Some}
use Rattle.std.specs.Prelude.{None, option_and_then}
use Rattle.edi_envelope.specs.EdiSegments.declared.segment.Segment.{Segment}
use Rattle.edi_envelope.specs.Segments.{component}
use Rattle.edi_messages.specs.Parts.{header, has_qualified, only_qualified, none_or_one}
use Rattle.edi_messages.specs.Values.{is_document_number, line_number}

-- there is a reference in a part
abbrev pub has_reference : List Segment → Bool
has_reference part = has_qualified (codes "RFF") (codes "ON") part

-- the one reference in a part
abbrev pub reference : List Segment → Option Segment
reference part = only_qualified (codes "RFF") (codes "ON") part

-- there is none in a part, or what is asked of the one holds
abbrev pub none_or_one_reference : (Option Segment → Bool) → List Segment → Bool
none_or_one_reference holds part = none_or_one holds (codes "RFF") (codes "ON") part

-- the order number of a reference (1154)
abbrev pub order_named : Segment → Option (List ℕ)
order_named rff = if is_document_number (component rff 0 1) then Some (component rff 0 1) else None

-- the order that the one reference in the header names; its line number is not read
abbrev pub order : List Segment → Option (List ℕ)
order message = option_and_then order_named (reference (header message))

-- the line number of a reference (1156), which may be absent
abbrev pub line_named : Segment → Option ℕ
line_named rff = line_number (component rff 0 2)

-- the order and its line that the one reference of a group names
abbrev pub group_order : List Segment → Option (List ℕ)
group_order group = option_and_then order_named (reference group)

abbrev pub group_line : List Segment → Option ℕ
group_line group = option_and_then line_named (reference group)

abbrev pub has_line_or_none : Segment → Bool
has_line_or_none rff = length (component rff 0 2) == 0 || is_some (line_named rff)

-- an order number, and a line number or none
abbrev pub is_order_reference : Segment → Bool
is_order_reference rff = is_some (order_named rff) && has_line_or_none rff
