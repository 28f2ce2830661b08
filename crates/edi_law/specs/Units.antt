-- Defines what valid units of a despatch advice or a receiving advice are.
use Rattle.std.specs.Prelude.{◌≡◌, ◌≢◌, ℕ, List, [], ◌∷◌, filter, codes}
use Rattle.std.specs.List.{list_any, AllZip, AllByRecursion}
use Rattle.gs1_ids.specs.Sscc.{IsSscc}
use Rattle.edi_segments.specs.declared.segment.Segment.{Segment}
use Rattle.edi_envelope.specs.Segments.{component}
use Rattle.edi_law.specs.Lines.{IsLine, NoneTwice}
use Rattle.edi_law.specs.Parts.{HasNone, IsFront, AreUnits, OfLines, OfOnly}
use Rattle.edi_law.specs.Segments.{is_line_item, is_packing, says}

-- the units that are read, in their order: those that have a LIN
pub record AreReadUnits (message : List Segment) (units : List (List Segment)) : Type 0 where
  pub all : List (List Segment)
  pub are_all : AreUnits message all
  pub are_read : units ≡ filter (list_any is_line_item) all

-- the units that are read meet `Are`
pub record OfUnits (Are : List (List Segment) → Type 0) (message : List Segment) : Type 0 where
  pub units : List (List Segment)
  pub are_units : AreReadUnits message units
  pub are : Are units

-- the line groups of each unit that is read meet `Are`
abbrev pub OfUnitLines : (List (List Segment) → Type 0) → List Segment → Type 0
OfUnitLines Are message = OfUnits (AllByRecursion (OfLines Are)) message

-- each LIN of the units that are read is a valid line
abbrev pub AreLines : List Segment → Type 0
AreLines message =
    OfUnitLines (AllByRecursion (λ group. (number : ℕ) × (gtin : List ℕ) × IsLine group number gtin)) message

-- no LIN comes before the first CPS
pub record NoLineOutside (message : List Segment) : Type 0 where
  pub outside : List Segment
  pub is_front : IsFront is_packing outside message
  pub no_line : HasNone is_line_item outside

-- a GIN has nothing but the SSCC after its qualifier, and the SSCC is valid
pub record IsMarked (sscc : List ℕ) (gin : Segment) : Type 0 where
  pub qualifier : List (List ℕ)
  pub place : gin.elements ≡ qualifier ∷ ((sscc ∷ []) ∷ [])
  pub right : IsSscc sscc

-- before its first LIN, the unit has exactly one GIN with BJ, and it gives this SSCC
pub record HasSscc (unit : List Segment) (sscc : List ℕ) : Type 0 where
  pub head : List Segment
  pub is_head : IsFront is_line_item head unit
  pub gin : OfOnly (says (codes "GIN") (codes "BJ")) head (IsMarked sscc)

-- the CPS of a unit has an identifier, and the unit has this SSCC
pub record IsUnit (unit : List Segment) (sscc : List ℕ) : Type 0 where
  pub cps : Segment
  pub body : List Segment
  pub place : unit ≡ cps ∷ body
  pub identifier : component cps 0 0 ≢ []
  pub sscc_is : HasSscc unit sscc

-- each unit is valid, and no SSCC occurs twice
pub record AreMarked (units : List (List Segment)) : Type 0 where
  pub ssccs : List (List ℕ)
  pub marked : AllZip IsUnit units ssccs
  pub apart : NoneTwice ssccs

-- the units of a message are valid
pub record HasUnits (message : List Segment) : Type 0 where
  pub outside : NoLineOutside message
  pub units : OfUnits AreMarked message
