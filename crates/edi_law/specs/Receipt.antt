-- Defines what a valid receiving advice (RECADV) is, by the number of each fault, and what an advice says.
use Rattle.std.specs.Prelude.{◌≡◌, ◌≤◌, ◌||◌, ⊤, ℕ, Bool, true, false, List, filter, sum_by, is_some, unwrap_or, codes, Option}
use Rattle.std.specs.List.{AllByRecursion, AllZip}
use Rattle.std.specs.Str.{bytes_eq}
use Rattle.edi_segments.specs.declared.segment.Segment.{Segment}
use Rattle.edi_envelope.specs.declared.interchange.RawMessage.{RawMessage}
use Rattle.edi_messages.specs.declared.fault.MessageFault.{MessageFault}
use Rattle.edi_messages.specs.declared.fault.MessageFault.TheVariants as fault
use Rattle.edi_goods.specs.declared.receipt.Receipt.{Receipt}
use Rattle.edi_goods.specs.declared.receipt.ReceiptLine.{ReceiptLine}
use Rattle.edi_goods.specs.declared.receipt.ReceiptUnit.{ReceiptUnit}
use Rattle.edi_law.specs.Header.{IsOfType, HasBeginning, HasFunction, IsDated, NamesParty, NamesBuyer}
use Rattle.edi_law.specs.Lines.{IsLine, IsAmount}
use Rattle.edi_law.specs.Parts.{OfLines, OneOrNone}
use Rattle.edi_law.specs.Segments.{says}
use Rattle.edi_law.specs.Summary.{IsControlled, HasLine}
use Rattle.edi_law.specs.Values.{nine_digits}
use Rattle.edi_law.specs.Units.{OfUnits, AreLines, HasUnits, HasSscc}

-- the group has no QTY of this kind, or exactly one, with this quantity
abbrev pub HasKind : List ℕ → List Segment → Option ℕ → Type 0
HasKind kind group quantity = OneOrNone (says (codes "QTY") kind) (IsAmount 0) group quantity

-- the quantities of a group: 194 accepted, 195 to be returned, 196 to be destroyed; at least one is given
pub record HasReceived (group : List Segment) (accepted returned destroyed : Option ℕ) : Type 0 where
  pub accepted_is : HasKind (codes "194") group accepted
  pub returned_is : HasKind (codes "195") group returned
  pub destroyed_is : HasKind (codes "196") group destroyed
  pub some : (is_some accepted || is_some returned || is_some destroyed) ≡ true

-- a line of the advice is what its group says; a quantity that is not given counts as 0
pub record IsReceiptLine (group : List Segment) (line : ReceiptLine) : Type 0 where
  pub number : ℕ
  pub line_is : IsLine group number line.gtin
  pub accepted : Option ℕ
  pub returned : Option ℕ
  pub destroyed : Option ℕ
  pub received : HasReceived group accepted returned destroyed
  pub accepted_is : unwrap_or accepted 0 ≡ line.accepted
  pub returned_is : unwrap_or returned 0 ≡ line.returned
  pub destroyed_is : unwrap_or destroyed 0 ≡ line.destroyed

-- the total of one quantity over all lines of an article
abbrev pub total : (ReceiptLine → ℕ) → List ℕ → List ReceiptLine → ℕ
total quantity article lines = sum_by quantity (filter (λ line. bytes_eq line.gtin article) lines)

-- no total of an article is above 999,999,999
pub record AreWithin (lines : List ReceiptLine) : Type 0 where
  pub accepted : (article : List ℕ) → total (λ line. line.accepted) article lines ≤ nine_digits
  pub returned : (article : List ℕ) → total (λ line. line.returned) article lines ≤ nine_digits
  pub destroyed : (article : List ℕ) → total (λ line. line.destroyed) article lines ≤ nine_digits

-- the groups of a unit have valid quantities with valid totals
pub record AreReceived (groups : List (List Segment)) : Type 0 where
  pub lines : List ReceiptLine
  pub lines_are : AllZip IsReceiptLine groups lines
  pub within : AreWithin lines

-- the function of an advice: an original (9), or one that replaces (5)
abbrev pub HasFunctionOf : Bool → List Segment → Type 0
HasFunctionOf false message = HasFunction message (codes "9")
HasFunctionOf true message = HasFunction message (codes "5")

abbrev pub IsRightReceipt : RawMessage → MessageFault → Type 0
IsRightReceipt m fault.MessageType = IsOfType (codes "RECADV") m
IsRightReceipt m fault.Beginning = (number : List ℕ) × HasBeginning (codes "632") m.segments number
IsRightReceipt m fault.Function = (replaces : Bool) × HasFunctionOf replaces m.segments
IsRightReceipt m fault.Date = IsDated m.segments
IsRightReceipt m fault.Parties = ((buyer : Option (List ℕ)) × NamesBuyer m.segments buyer)
    × ((supplier : List ℕ) × NamesParty (codes "SU") m.segments supplier)
IsRightReceipt m fault.Line = AreLines m.segments
IsRightReceipt m fault.Quantity = OfUnits (AllByRecursion (OfLines AreReceived)) m.segments
IsRightReceipt m fault.Unit = HasUnits m.segments
IsRightReceipt m fault.Control = IsControlled m.segments
IsRightReceipt m fault.WithoutLines = HasLine m.segments
IsRightReceipt m other = ⊤

-- a unit of the advice is what the unit of the message says
pub record IsReceiptUnit (segments : List Segment) (unit : ReceiptUnit) : Type 0 where
  pub sscc_is : HasSscc segments unit.sscc
  pub lines_are : OfLines (λ groups. AllZip IsReceiptLine groups unit.lines) segments

-- the advice is what the message says
pub record IsReceipt (message : List Segment) (receipt : Receipt) : Type 0 where
  pub number_is : HasBeginning (codes "632") message receipt.number
  pub buyer_is : NamesBuyer message receipt.buyer
  pub supplier_is : NamesParty (codes "SU") message receipt.supplier
  pub replaces_is : HasFunctionOf receipt.replaces message
  pub units_are : OfUnits (λ units. AllZip IsReceiptUnit units receipt.units) message
