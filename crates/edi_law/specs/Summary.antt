-- Defines what a valid summary of a message is, and a valid count of its lines.
use Rattle.std.specs.Prelude.{◌≡◌, ◌⊎◌, true, List, ◌∷◌, ◌++◌, length, filter, codes}
use Rattle.edi_segments.specs.declared.segment.Segment.{Segment}
use Rattle.edi_envelope.specs.Segments.{component}
use Rattle.edi_law.specs.Parts.{HasNone, IsOnly, OfOnly}
use Rattle.edi_law.specs.Segments.{is_line_item, is_section_control, says}
use Rattle.edi_law.specs.Values.{IsCount}

-- the message has exactly one UNS, which says S, and no LIN after it
pub record IsClosed (message : List Segment) : Type 0 where
  pub uns : Segment
  pub is_only : IsOnly is_section_control message uns
  pub summary : component uns 0 0 ≡ codes "S"
  pub no_line_later : HasNone is_line_item is_only.after

-- the message has no control of the number of lines, or exactly one, which gives the number of LIN segments
abbrev pub IsControlled : List Segment → Type 0
IsControlled message =
    HasNone (says (codes "CNT") (codes "2")) message
    ⊎ OfOnly (says (codes "CNT") (codes "2")) message (λ cnt.
    IsCount (component cnt 0 1) (length (filter is_line_item message)))

-- the message has a LIN
pub record HasLine (message : List Segment) : Type 0 where
  pub before : List Segment
  pub lin : Segment
  pub after : List Segment
  pub place : message ≡ before ++ (lin ∷ after)
  pub is_line : is_line_item lin ≡ true
