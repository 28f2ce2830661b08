-- Defines what a valid order response (ORDRSP) is, by the number of each fault, and what a response says.
use Rattle.std.specs.Prelude.{◌≡◌, ◌⊎◌, ⊤, ℕ, List, ◌∷◌, codes}
use Rattle.std.specs.List.{AllByRecursion, AllZip}
use Rattle.edi_segments.specs.declared.segment.Segment.{Segment}
use Rattle.edi_envelope.specs.Segments.{component}
use Rattle.edi_envelope.specs.declared.interchange.RawMessage.{RawMessage}
use Rattle.edi_messages.specs.declared.fault.MessageFault.{MessageFault}
use Rattle.edi_messages.specs.declared.fault.MessageFault.TheVariants as fault
use Rattle.edi_orders.specs.declared.response.Answer.{Answer}
use Rattle.edi_orders.specs.declared.response.Answer.TheVariants as answers
use Rattle.edi_orders.specs.declared.response.AnswerLine.{AnswerLine}
use Rattle.edi_orders.specs.declared.response.LineAnswer.{LineAnswer}
use Rattle.edi_orders.specs.declared.response.LineAnswer.TheVariants as line_answers
use Rattle.edi_orders.specs.declared.response.Response.{Response}
use Rattle.edi_law.specs.Header.{IsOfType, HasBeginning, HasFunction, IsDated, NamesParty}
use Rattle.edi_law.specs.Lines.{IsLine, HasQuantity}
use Rattle.edi_law.specs.Parts.{HasNone, OfLines, OfOnly}
use Rattle.edi_law.specs.References.{is_rff_on, NamesOrder, NamesLineOrNone, HeaderNames, NamesLine}
use Rattle.edi_law.specs.Segments.{says}
use Rattle.edi_law.specs.Summary.{IsClosed, IsControlled, HasLine}

-- whether a response answers each line, or accepts or refuses all of them
pub data Extent : Type 0 where
  EachLine : Extent
  NoneOfAll : Extent
  AllOfAll : Extent

-- the answer to one line
pub data Action : Type 0 where
  Accept : Action
  Refuse : Action
  Change : Action

-- the function: 4 (change) and 9 (original) answer each line, 27 refuses all lines, 29 accepts all without amendment
abbrev pub HasExtent : List Segment → Extent → Type 0
HasExtent message EachLine = HasFunction message (codes "4") ⊎ HasFunction message (codes "9")
HasExtent message NoneOfAll = HasFunction message (codes "27")
HasExtent message AllOfAll = HasFunction message (codes "29")

-- if each line is answered, the line groups meet `Are`
abbrev pub OfReadLines : (List (List Segment) → Type 0) → List Segment → Type 0
OfReadLines Are message = HasExtent message EachLine → OfLines Are message

-- the action of a line: 5 accepted without amendment, 7 not accepted, 3 changed, 6 accepted with amendment
abbrev pub IsAction : List ℕ → Action → Type 0
IsAction code Accept = code ≡ codes "5"
IsAction code Refuse = code ≡ codes "7"
IsAction code Change = (code ≡ codes "3") ⊎ (code ≡ codes "6")

pub record HasAction (group : List Segment) (action : Action) : Type 0 where
  pub lin : Segment
  pub body : List Segment
  pub place : group ≡ lin ∷ body
  pub action_is : IsAction (component lin 1 0) action

-- each group is a line and has an action
pub record AreAnswered (groups : List (List Segment)) : Type 0 where
  pub lines : AllByRecursion (λ group. (number : ℕ) × (gtin : List ℕ) × IsLine group number gtin) groups
  pub actions : AllByRecursion (λ group. (action : Action) × HasAction group action) groups

-- the quantity of a change: that of the only QTY with 113, or, if there is none, of the only one with 21
abbrev pub HasChange : List Segment → ℕ → Type 0
HasChange group quantity = HasQuantity (codes "113") 0 group quantity
    ⊎ (HasNone (says (codes "QTY") (codes "113")) group × HasQuantity (codes "21") 0 group quantity)

-- a line that is changed has a quantity
abbrev pub IsChangeRight : List Segment → Type 0
IsChangeRight group = HasAction group Change → (quantity : ℕ) × HasChange group quantity

-- the group has no reference, or exactly one, which names the order of the header and at most one line
abbrev pub HasNoReferenceOrOneTo : List ℕ → List Segment → Type 0
HasNoReferenceOrOneTo order group = HasNone is_rff_on group
    ⊎ OfOnly is_rff_on group (λ rff. NamesOrder order rff × NamesLineOrNone rff)

abbrev pub IsRightResponse : RawMessage → MessageFault → Type 0
IsRightResponse m fault.MessageType = IsOfType (codes "ORDRSP") m
IsRightResponse m fault.Beginning = (number : List ℕ) × HasBeginning (codes "231") m.segments number
IsRightResponse m fault.Function = (extent : Extent) × HasExtent m.segments extent
IsRightResponse m fault.Date = IsDated m.segments
IsRightResponse m fault.Parties = ((buyer : List ℕ) × NamesParty (codes "BY") m.segments buyer)
    × ((supplier : List ℕ) × NamesParty (codes "SU") m.segments supplier)
IsRightResponse m fault.Summary = IsClosed m.segments
IsRightResponse m fault.Line = OfReadLines AreAnswered m.segments
IsRightResponse m fault.Quantity = OfReadLines (AllByRecursion IsChangeRight) m.segments
IsRightResponse m fault.Reference = (order : List ℕ) × HeaderNames m.segments order
    × OfReadLines (AllByRecursion (HasNoReferenceOrOneTo order)) m.segments
IsRightResponse m fault.Control = IsControlled m.segments
IsRightResponse m fault.WithoutLines = HasExtent m.segments EachLine → HasLine m.segments
IsRightResponse m other = ⊤

-- the answer to a line
abbrev pub HasAnswer : List Segment → LineAnswer → Type 0
HasAnswer group line_answers.Accepted = HasAction group Accept
HasAnswer group line_answers.Refused = HasAction group Refuse
HasAnswer group (line_answers.Changed quantity) = HasAction group Change × HasChange group quantity

-- a line of the response is what its group says
pub record IsAnswerLine (group : List Segment) (line : AnswerLine) : Type 0 where
  pub order_line_is : NamesLine group line.order_line
  pub number : ℕ
  pub line_is : IsLine group number line.gtin
  pub answer_is : HasAnswer group line.answer

-- the answer to all lines, or to each
abbrev pub HasAnswers : List Segment → Answer → Type 0
HasAnswers message answers.AllAccepted = HasExtent message AllOfAll
HasAnswers message answers.AllRefused = HasExtent message NoneOfAll
HasAnswers message (answers.Lines lines) =
    HasExtent message EachLine × OfLines (λ groups. AllZip IsAnswerLine groups lines) message

-- the response is what the message says
pub record IsResponse (message : List Segment) (response : Response) : Type 0 where
  pub number_is : HasBeginning (codes "231") message response.number
  pub buyer_is : NamesParty (codes "BY") message response.buyer
  pub supplier_is : NamesParty (codes "SU") message response.supplier
  pub order_is : HeaderNames message response.order
  pub answer_is : HasAnswers message response.answer
