-- Defines which messages and cancellations are within their limits, so that the rows made from them are clean.
use Rattle.std.specs.Prelude.{◌≡◌, ◌≤◌, ⊤, true, List, length}
use Rattle.std.specs.List.{AllByRecursion}
use Rattle.edi_base.specs.Limits.{greatest}
use Rattle.edi_segments.specs.Service.{is_decimal}
use Rattle.edi_envelope.specs.Limits.{is_reference}
use Rattle.edi_envelope.specs.declared.interchange.RawMessage.{RawMessage}
use Rattle.edi_moment.specs.Moment.{last_moment}
use Rattle.gs1_ids.specs.Digits.{is_key}
use Rattle.gs1_ids.specs.Gln.{is_gln}
use Rattle.edi_documents.specs.declared.document.Document.{Document}
use Rattle.edi_documents.specs.declared.document.Document.TheVariants.{Order, Response, Despatch, Receipt}
use Rattle.edi_orders.specs.declared.order.Order.{Order as OrderRecord}
use Rattle.edi_orders.specs.declared.order.OrderLine.{OrderLine}
use Rattle.edi_goods.specs.declared.despatch.Despatch.{Despatch as DespatchAdvice}
use Rattle.edi_goods.specs.declared.despatch.DespatchLine.{DespatchLine}
use Rattle.edi_goods.specs.declared.despatch.Unit.{Unit}
use Rattle.edi_goods.specs.declared.receipt.Receipt.{Receipt as ReceivingAdvice}
use Rattle.edi_goods.specs.declared.receipt.ReceiptLine.{ReceiptLine}
use Rattle.edi_goods.specs.declared.receipt.ReceiptUnit.{ReceiptUnit}
use Rattle.hub_parties.specs.declared.row.SupplierRow.{SupplierRow}
use Rattle.hub_tables.specs.Change.{apply_all}
use Rattle.hub_tables.specs.Tables.{Tables, view}
use Rattle.hub_rules.specs.Judging.{Judge}
use Rattle.hub_rules.specs.ReceiptRules.{total}
use Rattle.hub_rules.specs.Submissions.{Submission, Of, Cancels, Beside}
use Rattle.hub_rules.specs.declared.cancel.Cancel.{Cancel as Cancellation}
use Rattle.hub_rules.specs.declared.incoming.IncomingMessage.{IncomingMessage}
use Rattle.hub_rules.specs.declared.verdict.Verdict.{Verdict}
use Rattle.hub_rules.specs.declared.verdict.Verdict.TheVariants.{Accept, Refuse}
use Rattle.hub_store.specs.Calls.{have_places}
use Rattle.hub_store.specs.Clean.{are_bytes, is_number, is_line, is_quantity, are_clean}
use Rattle.hub_law.specs.HubRequests.declared.request.Input.{Input}
use Rattle.hub_law.specs.HubRequests.declared.request.Request.{Request}
use Rattle.hub_law.specs.HubRequests.declared.request.Request.TheVariants.{Cancel}
use Rattle.hub_law.specs.Messages.{body_of}
use Rattle.hub_law.specs.Told.{changed}

-- references, content, moment and decimal mark are within their limits
pub record WithinIncoming (incoming : IncomingMessage) : Type 0 where
  pub control : is_reference incoming.control ≡ true
  pub message : is_reference incoming.message ≡ true
  pub content : are_bytes incoming.content ≡ true
  pub moment : incoming.moment ≤ last_moment
  pub decimal : is_decimal incoming.decimal ≡ true

-- a message and what comes with it are within those limits; its segments can be counted in six digits, and its text is
-- bytes
pub record WithinMessage (message : RawMessage) (came : IncomingMessage) : Type 0 where
  pub incoming : WithinIncoming came
  pub segments : length message.segments ≤ 999_999
  pub body : are_bytes (body_of message) ≡ true

pub record WithinOrderLine (line : OrderLine) : Type 0 where
  pub number : is_line line.line ≡ true
  pub item : is_key 14 line.gtin ≡ true
  pub quantity : is_quantity line.quantity ≡ true

pub record WithinOrder (order : OrderRecord) : Type 0 where
  pub number : is_number order.number ≡ true
  pub lines : AllByRecursion WithinOrderLine order.lines

pub record WithinUnit (unit : Unit) : Type 0 where
  pub sscc : is_key 18 unit.sscc ≡ true
  pub places : length unit.lines ≤ 999_999
  pub quantities : AllByRecursion (λ (line : DespatchLine). is_quantity line.quantity ≡ true) unit.lines

pub record WithinDespatch (despatch : DespatchAdvice) : Type 0 where
  pub number : is_number despatch.number ≡ true
  pub units : AllByRecursion WithinUnit despatch.units

-- a line of a unit, with the totals of its article over the unit
pub record WithinReceiptLine (lines : List ReceiptLine) (line : ReceiptLine) : Type 0 where
  pub item : is_key 14 line.gtin ≡ true
  pub accepted : total (λ line. line.accepted) line.gtin lines ≤ greatest
  pub returned : total (λ line. line.returned) line.gtin lines ≤ greatest
  pub destroyed : total (λ line. line.destroyed) line.gtin lines ≤ greatest

pub record WithinReceiptUnit (unit : ReceiptUnit) : Type 0 where
  pub sscc : is_key 18 unit.sscc ≡ true
  pub lines : AllByRecursion (WithinReceiptLine unit.lines) unit.lines

pub record WithinReceipt (receipt : ReceivingAdvice) : Type 0 where
  pub number : is_number receipt.number ≡ true
  pub units : AllByRecursion WithinReceiptUnit receipt.units

-- a cancellation whose fields are within their limits
pub record WithinCancel (cancel : Cancellation) : Type 0 where
  pub reference : is_reference cancel.reference ≡ true
  pub order : is_number cancel.order ≡ true
  pub line : is_line cancel.line ≡ true
  pub quantity : is_quantity cancel.quantity ≡ true

-- A document with what the rules need beside it. Only messages of the retailer need a text for the mailbox, and an
-- answer has no limits of its own.
abbrev pub WithinDocument : Beside → Document → Type 0
WithinDocument b (Order order) = (are_bytes b.body ≡ true) × WithinOrder order
WithinDocument b (Response response) = ⊤
WithinDocument b (Despatch despatch) = WithinDespatch despatch
WithinDocument b (Receipt receipt) = (are_bytes b.body ≡ true) × WithinReceipt receipt

abbrev pub WithinSubmission : Submission → Type 0
WithinSubmission (Of b document) = WithinIncoming b.incoming × WithinDocument b document
WithinSubmission (Cancels content cancel) = (is_reference cancel.reference ≡ true) × (are_bytes content ≡ true)

-- A document read from a message. The places of a unit's lines go up to 999,999, so an advice is within its limits if
-- its message has at most that many segments, as each message of an interchange has.
abbrev pub IsWithin : RawMessage → Document → Type 0
IsWithin message (Order order) = WithinOrder order
IsWithin message (Response response) = ⊤
IsWithin message (Despatch despatch) = length message.segments ≤ 999_999 → WithinDespatch despatch
IsWithin message (Receipt receipt) = WithinReceipt receipt

-- an upload may have any bytes: what is read from it is within the limits
abbrev pub WithinRequest : Request → Type 0
WithinRequest (Cancel cancel) = WithinCancel cancel
WithinRequest other = ⊤

-- an input at a moment that the hub supports
pub record WithinInput (input : Input) : Type 0 where
  pub moment : input.moment ≤ last_moment
  pub request : WithinRequest input.request

-- if the supplier's GLN is valid and all rows are clean, they still are after what the judge accepts for the supplier's
-- view
abbrev pub Cleaned : SupplierRow → Tables → Judge → Type 0
Cleaned s t judge =
    is_gln s.gln ≡ true → are_clean t ≡ true → are_clean (changed (judge (view s.gln t)) t) ≡ true

-- what is accepted sets only existing rows, and leaves all rows clean
abbrev pub VerdictClean : Verdict → Tables → Type 0
VerdictClean (Accept changes) t = (have_places changes t ≡ true) × (are_clean (apply_all changes t) ≡ true)
VerdictClean (Refuse code) t = ⊤
