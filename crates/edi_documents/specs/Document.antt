-- Defines which messages the hub reads, and how, by the type in UNH (data element 0065).
use Rattle.std.specs.Prelude.{ℕ, if◌then◌else◌, List, codes, Option, Some, None, Result, Ok, Err}
use Rattle.std.specs.Str.{bytes_eq}
use Rattle.edi_orders.specs.EdiEnvelope.declared.interchange.RawMessage.{RawMessage}
use Rattle.edi_orders.specs.EdiMessages.declared.fault.MessageFault.{MessageFault}
use Rattle.edi_orders.specs.EdiMessages.declared.fault.MessageFault.TheVariants.{MessageType}
use Rattle.edi_orders.specs.Order.{order_of}
use Rattle.edi_orders.specs.Response.{response_of}
use Rattle.edi_goods.specs.Despatch.{despatch_of}
use Rattle.edi_goods.specs.Receipt.{receipt_of}
use Rattle.edi_documents.specs.declared.document.Document.{Document}
use Rattle.edi_documents.specs.declared.document.Document.TheVariants.{Order, Response, Despatch, Receipt}
use Rattle.edi_documents.specs.declared.document.DocumentType.{DocumentType}
use Rattle.edi_documents.specs.declared.document.DocumentType.TheVariants as types

abbrev pub type_of : List ℕ → Option DocumentType
type_of kind =
    if bytes_eq kind (codes "ORDERS") then Some types.Order
    else if bytes_eq kind (codes "ORDRSP") then Some types.Response
    else if bytes_eq kind (codes "DESADV") then Some types.Despatch
    else if bytes_eq kind (codes "RECADV") then Some types.Receipt
    else None

-- the record read from a message, as a document
abbrev pub document_from : {X : Type 0} → (X → Document) → Result X MessageFault → Result Document MessageFault
document_from of (Ok record_of) = Ok (of record_of)
document_from of (Err fault) = Err fault

-- the document that a message is when read as this type, or its lowest fault
abbrev pub document_as : DocumentType → RawMessage → Result Document MessageFault
document_as types.Order m = document_from Order (order_of m)
document_as types.Response m = document_from Response (response_of m)
document_as types.Despatch m = document_from Despatch (despatch_of m)
document_as types.Receipt m = document_from Receipt (receipt_of m)

-- M01 if the hub does not read messages of this type
abbrev pub document_by : Option DocumentType → RawMessage → Result Document MessageFault
document_by (Some type) m = document_as type m
document_by None m = Err MessageType

-- the document that a message is, read by its type
abbrev pub document_of : RawMessage → Result Document MessageFault
document_of m = document_by (type_of m.kind) m
