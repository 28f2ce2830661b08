-- The service segments of an interchange (ISO 9735, structures and service segments), and places in a list of segments.
use Rattle.std.specs.Prelude.{ℕ, ◌-◌, Bool, List, [], codes, length, take, drop, slice_index_or}
use Rattle.std.specs.Str.{bytes_eq}
use Rattle.edi_segments.specs.declared.segment.Segment.{Segment}
use Rattle.edi_segments.specs.Segment.{component_at}

abbrev pub has_tag : List ℕ → Segment → Bool
has_tag tag segment = bytes_eq segment.tag tag

-- the interchange header and trailer
abbrev pub is_unb : Segment → Bool
is_unb = has_tag (codes "UNB")

abbrev pub is_unz : Segment → Bool
is_unz = has_tag (codes "UNZ")

-- the message header and trailer
abbrev pub is_unh : Segment → Bool
is_unh = has_tag (codes "UNH")

abbrev pub is_unt : Segment → Bool
is_unt = has_tag (codes "UNT")

-- the functional group's header and trailer
abbrev pub is_ung : Segment → Bool
is_ung = has_tag (codes "UNG")

abbrev pub is_une : Segment → Bool
is_une = has_tag (codes "UNE")

-- a component of a segment, element and place counted from 0: empty if it is absent
abbrev pub component : Segment → ℕ → ℕ → List ℕ
component segment element place = component_at segment.elements element place

-- what is found at a place without a segment
abbrev pub no_segment : Segment
no_segment = record { tag = []; elements = [] }

abbrev pub first_segment : List Segment → Segment
first_segment segments = slice_index_or segments 0 no_segment

abbrev pub last_segment : List Segment → Segment
last_segment segments = slice_index_or segments (length segments - 1) no_segment

-- what comes between the first and the last
abbrev pub between : List Segment → List Segment
between segments = drop 1 (take (length segments - 1) segments)
