-- Defines what valid references to an order and its lines are: RFF with 1153 ON.
use Rattle.std.specs.Prelude.{◌≡◌, ◌⊎◌, ℕ, Bool, List, [], codes, Option, Some, None}
use Rattle.edi_segments.specs.declared.segment.Segment.{Segment}
use Rattle.edi_envelope.specs.Segments.{component}
use Rattle.edi_law.specs.Parts.{HasNone, OfHeader, OfOnly}
use Rattle.edi_law.specs.Segments.{says}
use Rattle.edi_law.specs.Values.{IsDocumentNumber, IsLineNumber}

abbrev pub is_rff_on : Segment → Bool
is_rff_on = says (codes "RFF") (codes "ON")

-- the reference names the order with this number, which is valid
pub record NamesOrder (number : List ℕ) (rff : Segment) : Type 0 where
  pub number_is : component rff 0 1 ≡ number
  pub right : IsDocumentNumber number

-- the reference names no line, or one with a valid number
abbrev pub NamesLineOrNone : Segment → Type 0
NamesLineOrNone rff = (component rff 0 2 ≡ []) ⊎ ((line : ℕ) × IsLineNumber (component rff 0 2) line)

-- the header has exactly one reference, which names this order
abbrev pub HeaderNames : List Segment → List ℕ → Type 0
HeaderNames message number = OfHeader (λ header. OfOnly is_rff_on header (NamesOrder number)) message

-- the order line that a group names, if it names one
abbrev pub NamesLine : List Segment → Option ℕ → Type 0
NamesLine group None = HasNone is_rff_on group ⊎ OfOnly is_rff_on group (λ rff. component rff 0 2 ≡ [])
NamesLine group (Some line) = OfOnly is_rff_on group (λ rff. IsLineNumber (component rff 0 2) line)
