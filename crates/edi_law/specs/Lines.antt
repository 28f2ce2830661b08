-- Defines what a valid line group is.
use Rattle.std.specs.Prelude.{◌≡◌, ◌≢◌, ◌≤◌, ◌⊎◌, ℕ, List, [], ◌∷◌, codes, ⊤}
use Rattle.std.specs.List.{AllByRecursion}
use Rattle.gs1_ids.specs.Gtin.{IsGtin, in_fourteen}
use Rattle.edi_segments.specs.declared.segment.Segment.{Segment}
use Rattle.edi_segments.specs.Segment.{element_at}
use Rattle.edi_envelope.specs.Segments.{component}
use Rattle.edi_law.specs.Parts.{OfOnly}
use Rattle.edi_law.specs.Segments.{says}
use Rattle.edi_law.specs.Values.{IsLineNumber, IsQuantity}

-- LIN has a valid GTIN, with the code that says so; `gtin` is its fourteen digits
pub record HasGtin (lin : Segment) (gtin : List ℕ) : Type 0 where
  pub said : component lin 2 1 ≡ codes "SRV"
  pub right : IsGtin (component lin 2 0)
  pub gtin_is : in_fourteen (component lin 2 0) ≡ gtin

-- LIN has a line number and an article, and no sub-line
pub record IsLine (group : List Segment) (number : ℕ) (gtin : List ℕ) : Type 0 where
  pub lin : Segment
  pub body : List Segment
  pub place : group ≡ lin ∷ body
  pub number_is : IsLineNumber (component lin 0 0) number
  pub article : HasGtin lin gtin
  pub no_sub_line : element_at lin.elements 3 ≡ []

-- a QTY has a valid quantity of at least `least`, in pieces
pub record IsAmount (least number : ℕ) (qty : Segment) : Type 0 where
  pub unit : (component qty 0 2 ≡ []) ⊎ (component qty 0 2 ≡ codes "PCE")
  pub number_is : IsQuantity (component qty 0 1) number
  pub from_least : least ≤ number

-- the group has exactly one QTY of this kind, with this quantity
abbrev pub HasQuantity : List ℕ → ℕ → List Segment → ℕ → Type 0
HasQuantity kind least group number = OfOnly (says (codes "QTY") kind) group (IsAmount least number)

-- none occurs twice
abbrev pub NoneTwice : {X : Type 0} → List X → Type 0
NoneTwice [] = ⊤
NoneTwice (one ∷ others) = AllByRecursion (λ other. one ≢ other) others × NoneTwice others
