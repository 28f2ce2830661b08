-- Defines the kinds of segments by which a message is divided and read (EANCOM 2002).
use Rattle.std.specs.Prelude.{ℕ, Bool, ◌||◌, ◌&&◌, List, codes}
use Rattle.std.specs.Str.{bytes_eq}
use Rattle.edi_segments.specs.declared.segment.Segment.{Segment}
use Rattle.edi_envelope.specs.Segments.{has_tag, component}

-- LIN begins a line, CPS a unit, and UNS the summary; UNT ends the message
abbrev pub is_line_item : Segment → Bool
is_line_item = has_tag (codes "LIN")

abbrev pub is_packing : Segment → Bool
is_packing = has_tag (codes "CPS")

abbrev pub is_section_control : Segment → Bool
is_section_control = has_tag (codes "UNS")

abbrev pub is_trailer : Segment → Bool
is_trailer = has_tag (codes "UNT")

-- a segment that ends the header or a line group before it
abbrev pub parts_lines : Segment → Bool
parts_lines segment = is_line_item segment || is_packing segment || is_section_control segment || is_trailer segment

-- a segment that ends a unit before it
abbrev pub parts_units : Segment → Bool
parts_units segment = is_packing segment || is_trailer segment

-- a segment with this tag and, as the first component of its first element, this qualifier
abbrev pub says : List ℕ → List ℕ → Segment → Bool
says tag qualifier segment = has_tag tag segment && bytes_eq (component segment 0 0) qualifier
