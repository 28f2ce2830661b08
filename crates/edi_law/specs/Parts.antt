-- Defines how a message, UNH to UNT, is divided into its header, its line groups and its units, independently of how
-- they are found.
use Rattle.std.specs.Prelude.{◌≡◌, Bool, true, false, List, [], ◌∷◌, ◌++◌, ⊤, Option, Some, None}
use Rattle.std.specs.List.{AllByRecursion}
use Rattle.edi_segments.specs.declared.segment.Segment.{Segment}
use Rattle.edi_law.specs.Segments.{is_line_item, is_packing, parts_lines, parts_units}

-- the part has no segment of this kind
abbrev pub HasNone : (Segment → Bool) → List Segment → Type 0
HasNone kind part = AllByRecursion (λ segment. kind segment ≡ false) part

-- empty, or a segment of this kind and what follows it
abbrev pub BeginsWith : (Segment → Bool) → List Segment → Type 0
BeginsWith kind [] = ⊤
BeginsWith kind (segment ∷ rest) = kind segment ≡ true

-- the part is all that comes before the first segment of this kind, or everything if there is none
pub record IsFront (kind : Segment → Bool) (part segments : List Segment) : Type 0 where
  pub rest : List Segment
  pub place : segments ≡ part ++ rest
  pub within : HasNone kind part
  pub ends : BeginsWith kind rest

-- the segment is the only one of its kind in the part
pub record IsOnly (kind : Segment → Bool) (part : List Segment) (segment : Segment) : Type 0 where
  pub before : List Segment
  pub after : List Segment
  pub place : part ≡ before ++ (segment ∷ after)
  pub is : kind segment ≡ true
  pub none_before : HasNone kind before
  pub none_after : HasNone kind after

-- the header is what follows UNH, up to the first LIN, CPS, UNS or UNT
abbrev pub IsHeader : List Segment → List Segment → Type 0
IsHeader header [] = header ≡ []
IsHeader header (unh ∷ segments) = IsFront parts_lines header segments

-- the part is the first segment that begins a part, with what follows it up to the next segment that ends one
pub record IsFirst (begins ends : Segment → Bool) (segments part rest : List Segment) : Type 0 where
  pub before : List Segment
  pub first : Segment
  pub body : List Segment
  pub place : segments ≡ before ++ (first ∷ (body ++ rest))
  pub part_is : part ≡ first ∷ body
  pub none_before : HasNone begins before
  pub is_begun : begins first ≡ true
  pub within : HasNone ends body
  pub is_ended : BeginsWith ends rest

-- these are all the parts, in their order
abbrev pub AreParts : (Segment → Bool) → (Segment → Bool) → List Segment → List (List Segment) → Type 0
AreParts begins ends segments [] = HasNone begins segments
AreParts begins ends segments (part ∷ parts) =
    (rest : List Segment) × IsFirst begins ends segments part rest × AreParts begins ends rest parts

-- the line groups: each a LIN with what follows it up to the next LIN, CPS, UNS or UNT
abbrev pub AreLineGroups : List Segment → List (List Segment) → Type 0
AreLineGroups = AreParts is_line_item parts_lines

-- the units: each a CPS with what follows it up to the next CPS or UNT
abbrev pub AreUnits : List Segment → List (List Segment) → Type 0
AreUnits = AreParts is_packing parts_units

-- the header of the message meets `Is`
pub record OfHeader (Is : List Segment → Type 0) (message : List Segment) : Type 0 where
  pub header : List Segment
  pub is_header : IsHeader header message
  pub is : Is header

-- the line groups of the segments meet `Are`
pub record OfLines (Are : List (List Segment) → Type 0) (segments : List Segment) : Type 0 where
  pub groups : List (List Segment)
  pub are_groups : AreLineGroups segments groups
  pub are : Are groups

-- the part has exactly one segment of this kind, and it meets `Is`
pub record OfOnly (kind : Segment → Bool) (part : List Segment) (Is : Segment → Type 0) : Type 0 where
  pub segment : Segment
  pub is_only : IsOnly kind part segment
  pub is : Is segment

-- the part has no segment of this kind, or exactly one, which meets `Is`
abbrev pub OneOrNone : {X : Type 0} → (Segment → Bool) → (X → Segment → Type 0) → List Segment → Option X → Type 0
OneOrNone kind Is part None = HasNone kind part
OneOrNone kind Is part (Some x) = OfOnly kind part (Is x)
