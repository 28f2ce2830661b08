-- Reads LIN and QTY of a line group.
use Rattle.std.specs.Prelude.{ℕ, ◌==◌, Bool, not, ◌&&◌, ◌||◌, nat_le, if◌then◌else◌, List, length, is_some, codes}
use Rattle.std.specs.Prelude.{Option, Some, None, option_and_then}
use Rattle.std.specs.Option.{unwrap_or}
use Rattle.std.specs.Str.{bytes_eq}
use Rattle.gs1_ids.specs.Gtin.{gtin_of}
use Rattle.edi_envelope.specs.EdiSegments.declared.segment.Segment.{Segment}
use Rattle.edi_envelope.specs.EdiSegments.Segment.{element_at}
use Rattle.edi_envelope.specs.Segments.{component, first_segment}
use Rattle.edi_messages.specs.Parts.{only_qualified}
use Rattle.edi_messages.specs.Values.{line_number, quantity}

-- LIN of a group
abbrev pub line : List Segment → Segment
line group = first_segment group

abbrev pub number : List Segment → Option ℕ
number group = line_number (component (line group) 0 0)

-- the line number, or 0 if it is not valid
abbrev pub number_or_zero : List Segment → ℕ
number_or_zero group = unwrap_or (number group) 0

-- the article: a valid GTIN (7140), said to be one by SRV (7143)
abbrev pub gtin_in : Segment → Option (List ℕ)
gtin_in lin = if bytes_eq (component lin 2 1) (codes "SRV") then gtin_of (component lin 2 0) else None

abbrev pub gtin : List Segment → Option (List ℕ)
gtin group = gtin_in (line group)

-- LIN belongs to another line (C829)
abbrev pub is_sub_line : List Segment → Bool
is_sub_line group = not (length (element_at (line group).elements 3) == 0)

-- LIN with a line number and an article, and no sub-line
abbrev pub is_line : List Segment → Bool
is_line group = is_some (number group) && is_some (gtin group) && not (is_sub_line group)

-- a unit (6411): absent, or PCE, the piece
abbrev pub is_piece : List ℕ → Bool
is_piece bytes = length bytes == 0 || bytes_eq bytes (codes "PCE")

-- the number, from a least one on
abbrev pub from_least : ℕ → ℕ → Option ℕ
from_least least n = if nat_le least n then Some n else None

-- the quantity of a QTY (6060), in pieces, from a least one on
abbrev pub amount : ℕ → Segment → Option ℕ
amount least qty = if is_piece (component qty 0 2)
    then option_and_then (from_least least) (quantity (component qty 0 1)) else None

-- the quantity of the one QTY of a kind (6063) in a group
abbrev pub quantity_of : List ℕ → ℕ → List Segment → Option ℕ
quantity_of kind least group = option_and_then (amount least) (only_qualified (codes "QTY") kind group)
