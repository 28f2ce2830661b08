-- Defines what a valid order (ORDERS) is, by the number of each fault, and what an order says.
use Rattle.std.specs.Prelude.{ℕ, List, codes, ⊤}
use Rattle.std.specs.List.{AllByRecursion, AllZip}
use Rattle.edi_segments.specs.declared.segment.Segment.{Segment}
use Rattle.edi_envelope.specs.declared.interchange.RawMessage.{RawMessage}
use Rattle.edi_messages.specs.declared.fault.MessageFault.{MessageFault}
use Rattle.edi_messages.specs.declared.fault.MessageFault.TheVariants as fault
use Rattle.edi_orders.specs.declared.order.Order.{Order}
use Rattle.edi_orders.specs.declared.order.OrderLine.{OrderLine}
use Rattle.edi_law.specs.Header.{IsOfType, HasBeginning, HasFunction, IsDated, NamesParty}
use Rattle.edi_law.specs.Lines.{IsLine, HasQuantity, NoneTwice}
use Rattle.edi_law.specs.Parts.{OfLines}
use Rattle.edi_law.specs.Summary.{IsClosed, IsControlled, HasLine}

-- each group is a line, and no line number occurs twice
pub record AreNumbered (groups : List (List Segment)) : Type 0 where
  pub numbers : List ℕ
  pub lines : AllZip (λ group number. (gtin : List ℕ) × IsLine group number gtin) groups numbers
  pub apart : NoneTwice numbers

abbrev pub IsRightOrder : RawMessage → MessageFault → Type 0
IsRightOrder m fault.MessageType = IsOfType (codes "ORDERS") m
IsRightOrder m fault.Beginning = (number : List ℕ) × HasBeginning (codes "220") m.segments number
IsRightOrder m fault.Function = HasFunction m.segments (codes "9")
IsRightOrder m fault.Date = IsDated m.segments
IsRightOrder m fault.Parties = ((buyer : List ℕ) × NamesParty (codes "BY") m.segments buyer)
    × ((supplier : List ℕ) × NamesParty (codes "SU") m.segments supplier)
IsRightOrder m fault.Summary = IsClosed m.segments
IsRightOrder m fault.Line = OfLines AreNumbered m.segments
IsRightOrder m fault.Quantity =
    OfLines (AllByRecursion (λ group. (quantity : ℕ) × HasQuantity (codes "21") 1 group quantity)) m.segments
IsRightOrder m fault.Control = IsControlled m.segments
IsRightOrder m fault.WithoutLines = HasLine m.segments
IsRightOrder m other = ⊤

-- a line of the order is what its group says
pub record IsOrderLine (group : List Segment) (line : OrderLine) : Type 0 where
  pub line_is : IsLine group line.line line.gtin
  pub quantity_is : HasQuantity (codes "21") 1 group line.quantity

-- the order is what the message says
pub record IsOrder (message : List Segment) (order : Order) : Type 0 where
  pub number_is : HasBeginning (codes "220") message order.number
  pub buyer_is : NamesParty (codes "BY") message order.buyer
  pub supplier_is : NamesParty (codes "SU") message order.supplier
  pub lines_are : OfLines (λ groups. AllZip IsOrderLine groups order.lines) message
