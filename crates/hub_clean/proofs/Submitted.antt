-- Combines what holds for each kind of message and for cancellations into what holds for any submission.
use Rattle.std.proofs.Common.{◌≡◌, ℕ, Bool, true, false, List, [], Option, Some, None, Result, Ok, Err, refl, subst}
use Rattle.edi_envelope.specs.declared.interchange.RawMessage.{RawMessage}
use Rattle.edi_documents.specs.Document.{type_of, document_from, document_as, document_by, document_of}
use Rattle.edi_documents.specs.declared.document.Document.{Document}
use Rattle.edi_documents.specs.declared.document.Document.TheVariants.{Order, Response, Despatch, Receipt}
use Rattle.edi_documents.specs.declared.document.DocumentType.{DocumentType}
use Rattle.edi_documents.specs.declared.document.DocumentType.TheVariants as types
use Rattle.edi_messages.specs.declared.fault.MessageFault.{MessageFault}
use Rattle.edi_orders.specs.Order.{order_of}
use Rattle.edi_goods.specs.Despatch.{despatch_of}
use Rattle.edi_goods.specs.Receipt.{receipt_of}
use Rattle.hub_parties.specs.declared.row.SupplierRow.{SupplierRow}
use Rattle.hub_tables.specs.Tables.{Tables, view}
use Rattle.hub_tables.specs.declared.change.Change.{Change}
use Rattle.hub_store.specs.Calls.{have_places}
use Rattle.hub_rules.specs.Laws.{Registered}
use Rattle.hub_rules.specs.Submissions.{Submission, Of, Cancels, Beside, judge_document, judge}
use Rattle.hub_rules.specs.declared.incoming.IncomingMessage.{IncomingMessage}
use Rattle.hub_rules.specs.declared.verdict.Verdict.TheVariants.{Accept}
use Rattle.hub_clean.specs.Clean.{Cleaned, WithinIncoming, WithinDocument, WithinSubmission, IsWithin}
use Rattle.hub_clean.proofs.CleanJudges.{cleans_order, cleans_response, cleans_despatch, cleans_receipt, cleans_cancel}
use Rattle.hub_clean.proofs.CleanVerdicts.{cleaned}
use Rattle.hub_clean.proofs.Placing.{order_there, response_there, despatch_there, receipt_there, cancel_there}
use Rattle.hub_clean.proofs.ReadWithin.{order_within, despatch_within, receipt_within}

-- A document of the retailer, for which the rules do not need to know which SSCCs are used; and one of a supplier,
-- which makes no mailbox entry.

abbrev pub of_retailer : List ℕ → IncomingMessage → List ℕ → Document → Submission
of_retailer retailer incoming body =
    Of (record { retailer = retailer; used = λ sscc. false; incoming = incoming; body = body })

abbrev pub of_supplier : List ℕ → (List ℕ → Bool) → IncomingMessage → Document → Submission
of_supplier retailer used incoming =
    Of (record { retailer = retailer; used = used; incoming = incoming; body = [] })

-- Rows stay clean.

document_cleaned : (s : SupplierRow) (t : Tables) (b : Beside) (document : Document)
    → WithinIncoming b.incoming
    → WithinDocument b document
    → Cleaned s t (judge_document b (Some s) document)
document_cleaned s t b (Order order) within fine gln =
    cleaned s t _ (cleans_order s gln b.retailer b.incoming b.body order within fine.0 fine.1)
document_cleaned s t b (Response response) within fine gln =
    cleaned s t _ (cleans_response s gln b.retailer b.incoming response within)
document_cleaned s t b (Despatch despatch) within fine gln =
    cleaned s t _ (cleans_despatch s gln b.retailer b.used b.incoming despatch within fine)
document_cleaned s t b (Receipt receipt) within fine gln =
    cleaned s t _ (cleans_receipt s gln b.retailer b.incoming b.body receipt within fine.0 fine.1)

pub submission_cleaned : (s : SupplierRow) (t : Tables) (submission : Submission)
    → WithinSubmission submission
    → Cleaned s t (judge (Some s) submission)
submission_cleaned s t (Of b document) within gln = document_cleaned s t b document within.0 within.1 gln
submission_cleaned s t (Cancels content cancel) within gln =
    cleaned s t _ (cleans_cancel s gln content cancel within.0 within.1)

-- Only existing rows are set.

module _ (suppliers : List SupplierRow) (s : SupplierRow) (t : Tables) (here : Registered suppliers s t) where
  document_there : (b : Beside) (document : Document) (changes : List Change)
      → judge_document b (Some s) document (view s.gln t) ≡ Accept changes
      → have_places changes t ≡ true
  document_there b (Order order) changes h = order_there s t b.retailer b.incoming b.body order changes h
  document_there b (Response response) changes h =
      response_there suppliers s t here b.retailer b.incoming response changes h
  document_there b (Despatch despatch) changes h =
      despatch_there suppliers s t here b.retailer b.used b.incoming despatch changes h
  document_there b (Receipt receipt) changes h =
      receipt_there suppliers s t here b.retailer b.incoming b.body receipt changes h

  pub submission_there : (submission : Submission) (changes : List Change)
      → judge (Some s) submission (view s.gln t) ≡ Accept changes
      → have_places changes t ≡ true
  submission_there (Of b document) changes h = document_there b document changes h
  submission_there (Cancels content cancel) changes h = cancel_there suppliers s t here content cancel changes h

-- What is read is within its limits.

read_from : {X : Type 0} (of : X → Document) (P : Document → Type 0) (read : Result X MessageFault) (document : Document)
    → ((x : X) → read ≡ Ok x → P (of x))
    → document_from of read ≡ Ok document
    → P document
read_from of P (Ok x) document f h = let e : of x ≡ document = cc in subst P e (f x refl)
read_from of P (Err fault) document f h = absurd cc

pub as_within : (type : DocumentType) (m : RawMessage) (document : Document)
    → document_as type m ≡ Ok document
    → IsWithin m document
as_within types.Order m document h = read_from Order (IsWithin m) (order_of m) document (order_within m) h
as_within types.Response m document h = read_from Response (IsWithin m) _ document (λ response read. tt) h
as_within types.Despatch m document h = read_from Despatch (IsWithin m) (despatch_of m) document (despatch_within m) h
as_within types.Receipt m document h = read_from Receipt (IsWithin m) (receipt_of m) document (receipt_within m) h

by_within : (type : Option DocumentType) (m : RawMessage) (document : Document)
    → document_by type m ≡ Ok document
    → IsWithin m document
by_within (Some type) m document h = as_within type m document h
by_within None m document h = absurd cc

pub document_within : (m : RawMessage) (document : Document) → document_of m ≡ Ok document → IsWithin m document
document_within m document h = by_within (type_of m.kind) m document h
