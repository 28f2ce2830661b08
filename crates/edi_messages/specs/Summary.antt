-- What the summary of a message says: UNS and CNT.
use Rattle.std.specs.Prelude.{ℕ, Bool, false, not, ◌&&◌, if◌then◌else◌, List, [], ◌∷◌, length, filter, codes, Option}
use Rattle.std.specs.Prelude.{Some, None}
use Rattle.std.specs.List.{list_any}
use Rattle.std.specs.Str.{bytes_eq}
use Rattle.edi_base.specs.Limits.{is_count_of}
use Rattle.edi_envelope.specs.EdiSegments.declared.segment.Segment.{Segment}
use Rattle.edi_envelope.specs.Segments.{component}
use Rattle.edi_messages.specs.Parts.{is_lin, is_uns, only, none_or_one}

-- what follows the first UNS
abbrev pub behind_uns : List Segment → List Segment
behind_uns [] = []
behind_uns (segment ∷ rest) = if is_uns segment then rest else behind_uns rest

-- the element of UNS (0081) is S
abbrev pub is_summary : Option Segment → Bool
is_summary None = false
is_summary (Some uns) = bytes_eq (component uns 0 0) (codes "S")

-- there is one UNS, and no LIN after it
abbrev pub has_summary : List Segment → Bool
has_summary message = is_summary (only (filter is_uns message)) && not (list_any is_lin (behind_uns message))

-- how many LIN there are
abbrev pub line_count : List Segment → ℕ
line_count message = length (filter is_lin message)

-- the number of a CNT (6066) is this one
abbrev pub is_control_of : ℕ → Option Segment → Bool
is_control_of count None = false
is_control_of count (Some control) = is_count_of (component control 0 1) count

-- no control of the number of line items (CNT with 6069 2), or one, with the number of LIN
abbrev pub is_controlled : List Segment → Bool
is_controlled message = none_or_one (is_control_of (line_count message)) (codes "CNT") (codes "2") message
