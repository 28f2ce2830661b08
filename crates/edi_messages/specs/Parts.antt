-- The parts of a message, UNH to UNT: its header and its line groups (EANCOM 2002, the segment tables of the messages),
-- and the segments of a kind in a part.
use Rattle.std.specs.Prelude.{ℕ, Bool, not, ◌||◌, ◌&&◌, if◌then◌else◌, List, [], ◌∷◌, drop, filter, is_some, codes}
use Rattle.std.specs.Prelude.{Option, Some, None, option_and_then}
use Rattle.std.specs.List.{list_any, take_while}
use Rattle.std.specs.Str.{bytes_eq}
use Rattle.edi_envelope.specs.EdiSegments.declared.segment.Segment.{Segment}
use Rattle.edi_envelope.specs.Segments.{has_tag, is_unt, component}

-- line item, and packing group
abbrev pub is_lin : Segment → Bool
is_lin = has_tag (codes "LIN")

abbrev pub is_cps : Segment → Bool
is_cps = has_tag (codes "CPS")

-- section control
abbrev pub is_uns : Segment → Bool
is_uns = has_tag (codes "UNS")

-- what comes before the first segment of a kind
abbrev pub before_first : (Segment → Bool) → List Segment → List Segment
before_first kind segments = take_while (λ segment. not (kind segment)) segments

-- the first segment, and what follows it up to the next of a kind
abbrev pub up_to_next : (Segment → Bool) → List Segment → List Segment
up_to_next ends [] = []
up_to_next ends (segment ∷ rest) = segment ∷ before_first ends rest

-- the parts of a list: each segment that begins one, and what follows it up to the next that ends one
abbrev pub parts_of : (Segment → Bool) → (Segment → Bool) → List Segment → List (List Segment)
parts_of begins ends [] = []
parts_of begins ends (segment ∷ rest) =
    if begins segment then up_to_next ends (segment ∷ rest) ∷ parts_of begins ends rest else parts_of begins ends rest

-- a segment before which a header or a line group ends
abbrev pub ends_part : Segment → Bool
ends_part segment = is_lin segment || is_cps segment || is_uns segment || is_unt segment

abbrev pub up_to_end : List Segment → List Segment
up_to_end segments = before_first ends_part segments

-- the header: what comes after UNH and before the first such segment
abbrev pub header : List Segment → List Segment
header message = up_to_end (drop 1 message)

-- the segment that they begin with, and what follows it up to the next such segment
abbrev pub group_of : List Segment → List Segment
group_of segments = up_to_next ends_part segments

-- the line groups: each LIN, with what follows up to the next such segment
abbrev pub line_groups : List Segment → List (List Segment)
line_groups segments = parts_of is_lin ends_part segments

-- a segment with this tag whose first component of element 1 is this qualifier
abbrev pub is_qualified : List ℕ → List ℕ → Segment → Bool
is_qualified tag qualifier segment = has_tag tag segment && bytes_eq (component segment 0 0) qualifier

-- the segments of a part with this tag and this qualifier
abbrev pub qualified : List ℕ → List ℕ → List Segment → List Segment
qualified tag qualifier part = filter (is_qualified tag qualifier) part

-- there is one
abbrev pub has_qualified : List ℕ → List ℕ → List Segment → Bool
has_qualified tag qualifier part = list_any (is_qualified tag qualifier) part

-- the one segment that there is
abbrev pub only : List Segment → Option Segment
only (segment ∷ []) = Some segment
only _ = None

abbrev pub only_qualified : List ℕ → List ℕ → List Segment → Option Segment
only_qualified tag qualifier part = only (qualified tag qualifier part)

-- there is none, or what is asked holds of the only one
abbrev pub none_or_one : (Option Segment → Bool) → List ℕ → List ℕ → List Segment → Bool
none_or_one holds tag qualifier part =
    not (has_qualified tag qualifier part) || holds (only_qualified tag qualifier part)

-- there is one, of which something is read
abbrev pub is_read : {X : Type 0} → (Segment → Option X) → Option Segment → Bool
is_read read one = is_some (option_and_then read one)
