-- What the LIN of a line group says, beside the group.
use Rattle.std.specs.Prelude.{◌≡◌, ℕ, List, Some}
use Rattle.edi_envelope.specs.EdiSegments.declared.segment.Segment.{Segment}
use Rattle.edi_messages.specs.Lines as lines

-- the number and the article are those of the group
pub record IsLineItem (group : List Segment) (number : ℕ) (gtin : List ℕ) : Type 0 where
  pub number_is : lines.number group ≡ Some number
  pub gtin_is : lines.gtin group ≡ Some gtin
