-- Defines what the rules are applied to: a message that was read, or a cancellation, each checked by the rules of its
-- kind.
use Rattle.std.specs.Prelude.{◌≡◌, ⊤, ℕ, Bool, false, List, map, Option, Some}
use Rattle.edi_base.specs.Seen.{has_number_twice}
use Rattle.edi_documents.specs.declared.document.Document.{Document}
use Rattle.edi_documents.specs.declared.document.Document.TheVariants.{Order, Response, Despatch, Receipt}
use Rattle.hub_parties.specs.declared.row.SupplierRow.{SupplierRow}
use Rattle.hub_tables.specs.declared.cases.Side.{Side}
use Rattle.hub_tables.specs.declared.cases.Side.TheVariants as sides
use Rattle.hub_rules.specs.Judging.{Judge}
use Rattle.hub_rules.specs.PartyRules.{is_other_buyer}
use Rattle.hub_rules.specs.RepeatRules.{Reference}
use Rattle.hub_rules.specs.Rules.{referred_by, cancelled_by, judge_order, judge_response, judge_despatch}
use Rattle.hub_rules.specs.Rules.{judge_receipt, judge_cancel}
use Rattle.hub_rules.specs.declared.cancel.Cancel.{Cancel}
use Rattle.hub_rules.specs.declared.incoming.IncomingMessage.{IncomingMessage}

-- what the rules need beside a document: the retailer's GLN, which SSCCs are used, the references and the moment of the
-- message, and the text of its mailbox entry
pub record Beside : Type 0 where
  pub retailer : List ℕ
  pub used : List ℕ → Bool
  pub incoming : IncomingMessage
  pub body : List ℕ

-- a document with what the rules need beside it; or a cancellation with its content, which is its five lines
pub data Submission : Type 0 where
  Of : Beside → Document → Submission
  Cancels : List ℕ → Cancel → Submission

abbrev pub judge_document : Beside → Option SupplierRow → Document → Judge
judge_document b supplier (Order order) = judge_order b.retailer supplier b.incoming b.body order
judge_document b supplier (Response response) = judge_response b.retailer supplier b.incoming response
judge_document b supplier (Despatch despatch) = judge_despatch b.retailer supplier b.used b.incoming despatch
judge_document b supplier (Receipt receipt) = judge_receipt b.retailer supplier b.incoming b.body receipt

abbrev pub judge : Option SupplierRow → Submission → Judge
judge supplier (Of b document) = judge_document b supplier document
judge supplier (Cancels content cancel) = judge_cancel supplier content cancel

-- no two lines of an order have the same number (M07)
abbrev pub HasLinesApart : Document → Type 0
HasLinesApart (Order order) = has_number_twice (map (λ line. line.line) order.lines) ≡ false
HasLinesApart document = ⊤

abbrev pub SubmitsLinesApart : Submission → Type 0
SubmitsLinesApart (Of b document) = HasLinesApart document
SubmitsLinesApart (Cancels content cancel) = ⊤

-- the side that sends messages of this kind
abbrev pub side_of : Document → Side
side_of (Order order) = sides.Retailer
side_of (Response response) = sides.Supplier
side_of (Despatch despatch) = sides.Supplier
side_of (Receipt receipt) = sides.Retailer

abbrev pub buyer_of : Document → Option (List ℕ)
buyer_of (Order order) = Some order.buyer
buyer_of (Response response) = Some response.buyer
buyer_of (Despatch despatch) = despatch.buyer
buyer_of (Receipt receipt) = receipt.buyer

abbrev pub supplier_in : Document → List ℕ
supplier_in (Order order) = order.supplier
supplier_in (Response response) = response.supplier
supplier_in (Despatch despatch) = despatch.supplier
supplier_in (Receipt receipt) = receipt.supplier

-- the references under which a submission is remembered, and its content
abbrev pub reference_of : SupplierRow → Submission → Reference
reference_of s (Of b document) = referred_by s (side_of document) b.incoming
reference_of s (Cancels content cancel) = cancelled_by s cancel

abbrev pub content_of : Submission → List ℕ
content_of (Of b document) = b.incoming.content
content_of (Cancels content cancel) = content

-- the message names no buyer other than the retailer (B01), and names the supplier itself (B02)
abbrev pub IsAdmitted : SupplierRow → Submission → Type 0
IsAdmitted s (Of b document) = (is_other_buyer b.retailer (buyer_of document) ≡ false) × (supplier_in document ≡ s.gln)
IsAdmitted s (Cancels content cancel) = cancel.supplier ≡ s.gln
