-- Defines what a valid despatch advice (DESADV) is, by the number of each fault, and what an advice says.
use Rattle.std.specs.Prelude.{◌≡◌, ◌⊎◌, ⊤, ℕ, List, codes, Option, Some}
use Rattle.std.specs.List.{AllByRecursion, AllZip}
use Rattle.edi_segments.specs.declared.segment.Segment.{Segment}
use Rattle.edi_envelope.specs.declared.interchange.RawMessage.{RawMessage}
use Rattle.edi_messages.specs.declared.fault.MessageFault.{MessageFault}
use Rattle.edi_messages.specs.declared.fault.MessageFault.TheVariants as fault
use Rattle.edi_goods.specs.declared.despatch.Despatch.{Despatch}
use Rattle.edi_goods.specs.declared.despatch.DespatchLine.{DespatchLine}
use Rattle.edi_goods.specs.declared.despatch.Unit.{Unit as DespatchUnit}
use Rattle.edi_law.specs.Header.{IsOfType, HasBeginning, HasFunction, IsDated, NamesParty, NamesBuyer}
use Rattle.edi_law.specs.Lines.{IsLine, HasQuantity}
use Rattle.edi_law.specs.Parts.{HasNone, OfHeader, OfLines, OfOnly, OneOrNone}
use Rattle.edi_law.specs.References.{is_rff_on, NamesOrder, NamesLineOrNone, NamesLine}
use Rattle.edi_law.specs.Summary.{IsControlled, HasLine}
use Rattle.edi_law.specs.Units.{OfUnits, OfUnitLines, AreLines, HasUnits, HasSscc}

-- the header has no reference, or exactly one, which names this order
abbrev pub Inherits : List Segment → Option (List ℕ) → Type 0
Inherits message order = OfHeader (λ header. OneOrNone is_rff_on NamesOrder header order) message

-- the order of a line: the one that the only reference of its group names, or, if the group has none, the one of the
-- header
abbrev pub IsOfOrder : Option (List ℕ) → List Segment → List ℕ → Type 0
IsOfOrder inherited group order = OfOnly is_rff_on group (NamesOrder order)
    ⊎ (HasNone is_rff_on group × (inherited ≡ Some order))

-- the only reference of a group is valid, or the group has none and the header has one
abbrev pub HasReferenceOrInherits : Option (List ℕ) → List Segment → Type 0
HasReferenceOrInherits inherited group =
    OfOnly is_rff_on group (λ rff. ((order : List ℕ) × NamesOrder order rff) × NamesLineOrNone rff)
    ⊎ (HasNone is_rff_on group × ((order : List ℕ) × (inherited ≡ Some order)))

abbrev pub IsRightDespatch : RawMessage → MessageFault → Type 0
IsRightDespatch m fault.MessageType = IsOfType (codes "DESADV") m
IsRightDespatch m fault.Beginning = (number : List ℕ) × HasBeginning (codes "351") m.segments number
IsRightDespatch m fault.Function = HasFunction m.segments (codes "9")
IsRightDespatch m fault.Date = IsDated m.segments
IsRightDespatch m fault.Parties = ((buyer : Option (List ℕ)) × NamesBuyer m.segments buyer)
    × ((supplier : List ℕ) × NamesParty (codes "SU") m.segments supplier)
IsRightDespatch m fault.Line = AreLines m.segments
IsRightDespatch m fault.Quantity =
    OfUnitLines (AllByRecursion (λ group. (quantity : ℕ) × HasQuantity (codes "12") 1 group quantity)) m.segments
IsRightDespatch m fault.Reference = (inherited : Option (List ℕ)) × Inherits m.segments inherited
    × OfUnitLines (AllByRecursion (HasReferenceOrInherits inherited)) m.segments
IsRightDespatch m fault.Unit = HasUnits m.segments
IsRightDespatch m fault.Control = IsControlled m.segments
IsRightDespatch m fault.WithoutLines = HasLine m.segments
IsRightDespatch m other = ⊤

-- a line of the advice is what its group says
pub record IsDespatchLine (inherited : Option (List ℕ)) (group : List Segment) (line : DespatchLine) : Type 0 where
  pub order_is : IsOfOrder inherited group line.order
  pub order_line_is : NamesLine group line.order_line
  pub number : ℕ
  pub line_is : IsLine group number line.gtin
  pub quantity_is : HasQuantity (codes "12") 1 group line.quantity

-- a unit of the advice is what the unit of the message says
pub record IsDespatchUnit (inherited : Option (List ℕ)) (segments : List Segment) (unit : DespatchUnit) : Type 0 where
  pub sscc_is : HasSscc segments unit.sscc
  pub lines_are : OfLines (λ groups. AllZip (IsDespatchLine inherited) groups unit.lines) segments

-- the advice is what the message says
pub record IsDespatch (message : List Segment) (despatch : Despatch) : Type 0 where
  pub number_is : HasBeginning (codes "351") message despatch.number
  pub buyer_is : NamesBuyer message despatch.buyer
  pub supplier_is : NamesParty (codes "SU") message despatch.supplier
  pub inherited : Option (List ℕ)
  pub inherited_is : Inherits message inherited
  pub units_are : OfUnits (λ units. AllZip (IsDespatchUnit inherited) units despatch.units) message
