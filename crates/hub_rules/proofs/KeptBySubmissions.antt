-- Shows that messages and cancellations of every kind keep a supplier's rows sound, and what they are remembered by.
use Rattle.std.proofs.Common.{Some}
use Rattle.edi_documents.specs.declared.document.Document.{Document}
use Rattle.edi_documents.specs.declared.document.Document.TheVariants.{Order, Response, Despatch, Receipt}
use Rattle.hub_parties.specs.declared.row.SupplierRow.{SupplierRow}
use Rattle.hub_tables.specs.Tables.{Tables}
use Rattle.hub_tables.specs.declared.cases.Side.TheVariants as sides
use Rattle.hub_rules.specs.CancellationRules.{judge_new_cancel}
use Rattle.hub_rules.specs.DespatchRules.{judge_new_despatch}
use Rattle.hub_rules.specs.Laws.{KeptOwn, Remembers}
use Rattle.hub_rules.specs.OrderRules.{judge_new_order}
use Rattle.hub_rules.specs.ReceiptRules.{judge_new_receipt}
use Rattle.hub_rules.specs.ResponseRules.{judge_new_response}
use Rattle.hub_rules.specs.Rules.{cancelled_by}
use Rattle.hub_rules.specs.Submissions.{Submission, Of, Cancels, Beside, HasLinesApart, SubmitsLinesApart, IsAdmitted, judge}
use Rattle.hub_rules.specs.Submissions.{judge_document, reference_of, content_of}
use Rattle.hub_rules.proofs.KeptByCancels.{leads_cancel}
use Rattle.hub_rules.proofs.KeptByDespatches.{leads_despatch}
use Rattle.hub_rules.proofs.KeptByOrders.{leads_order}
use Rattle.hub_rules.proofs.KeptByReceipts.{leads_receipt}
use Rattle.hub_rules.proofs.KeptByResponses.{leads_response}
use Rattle.hub_rules.proofs.Remembering.{registered_remembers, message_remembers}
use Rattle.hub_rules.proofs.Verdicts.{Leads}

module _ (s : SupplierRow) where
  leads_document : (b : Beside) (document : Document)
      → HasLinesApart document
      → Leads s (KeptOwn s) (KeptOwn s) (judge_document b (Some s) document)
  leads_document b (Order order) apart = leads_order s b.retailer b.incoming b.body order apart
  leads_document b (Response response) apart = leads_response s b.retailer b.incoming response
  leads_document b (Despatch despatch) apart = leads_despatch s b.retailer b.used b.incoming despatch
  leads_document b (Receipt receipt) apart = leads_receipt s b.retailer b.incoming b.body receipt

  pub leads : (submission : Submission)
      → SubmitsLinesApart submission
      → Leads s (KeptOwn s) (KeptOwn s) (judge (Some s) submission)
  leads (Of b document) read = leads_document b document read
  leads (Cancels content cancel) read = leads_cancel s content cancel

  document_remembers : (state : Tables) (b : Beside) (document : Document)
      → Remembers (reference_of s (Of b document)) b.incoming.content (IsAdmitted s (Of b document)) state
      (judge_document b (Some s) document state)
  document_remembers state b (Order order) =
      message_remembers s state b.retailer sides.Retailer b.incoming (Some order.buyer) order.supplier
      (λ s. judge_new_order s.gln b.incoming b.body order)
  document_remembers state b (Response response) =
      message_remembers s state b.retailer sides.Supplier b.incoming (Some response.buyer) response.supplier
      (λ s. judge_new_response response)
  document_remembers state b (Despatch despatch) =
      message_remembers s state b.retailer sides.Supplier b.incoming despatch.buyer despatch.supplier
      (λ s. judge_new_despatch s b.used despatch)
  document_remembers state b (Receipt receipt) =
      message_remembers s state b.retailer sides.Retailer b.incoming receipt.buyer receipt.supplier
      (λ s. judge_new_receipt s.gln b.incoming b.body receipt)

  pub remembers : (state : Tables) (submission : Submission)
      → Remembers (reference_of s submission) (content_of submission) (IsAdmitted s submission) state
      (judge (Some s) submission state)
  remembers state (Of b document) = document_remembers state b document
  remembers state (Cancels content cancel) =
      registered_remembers (cancelled_by s cancel) content state s cancel.supplier (judge_new_cancel cancel)
