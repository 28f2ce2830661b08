-- Defines what messages and cancellations do. Each sees the tables through `look` but changes the tables themselves;
-- whether an SSCC is used is also decided from the tables themselves.
use Rattle.std.specs.Prelude.{ℕ, List, [], map, if◌then◌else◌, codes, Option, Some}
use Rattle.std.specs.Option.{unwrap_or}
use Rattle.edi_envelope.specs.EdiTokens.Text.{text}
use Rattle.edi_envelope.specs.Mail.{renumbered}
use Rattle.edi_envelope.specs.declared.interchange.Interchange.{Interchange}
use Rattle.edi_envelope.specs.declared.interchange.RawMessage.{RawMessage}
use Rattle.edi_messages.specs.Fault as message_faults
use Rattle.edi_messages.specs.Header.{supplier_of}
use Rattle.edi_messages.specs.declared.fault.MessageFault.TheVariants.{MessageType}
use Rattle.edi_orders.specs.Order.{order_of}
use Rattle.edi_orders.specs.Response.{response_of}
use Rattle.edi_goods.specs.Despatch.{despatch_of}
use Rattle.edi_goods.specs.Receipt.{receipt_of}
use Rattle.hub_parties.specs.declared.row.SupplierRow.{SupplierRow}
use Rattle.hub_parties.specs.Rows.{Parties}
use Rattle.hub_tables.specs.Rows.{same}
use Rattle.hub_tables.specs.Tables.{Tables, has_pallet}
use Rattle.hub_rules.specs.Rules.{judge_order, judge_response, judge_despatch, judge_receipt, judge_cancel}
use Rattle.hub_rules.specs.declared.cancel.Cancel.{Cancel}
use Rattle.hub_rules.specs.declared.incoming.IncomingMessage.{IncomingMessage}
use Rattle.hub_law.specs.CancelText.{cancel_text}
use Rattle.hub_law.specs.Told.{Refused, Act, act, read_act}

-- what the rules need of a message beside the document in it, when its interchange comes at this moment; its content is
-- the canonical text from UNH to UNT
abbrev pub incoming : ℕ → Interchange → RawMessage → IncomingMessage
incoming moment interchange message = record {
  control = interchange.head.reference;
  message = message.reference;
  content = text message.segments;
  moment = moment;
  decimal = interchange.decimal;
}

-- the messages of an interchange that comes at this moment, each with what the rules need
abbrev pub messages_at : ℕ → Interchange → List (RawMessage × IncomingMessage)
messages_at moment interchange = map (λ message. (message, incoming moment interchange message)) interchange.messages

-- the text of its mailbox entry: the message with `1` as its reference
abbrev pub body_of : RawMessage → List ℕ
body_of message = text (map renumbered message.segments)

-- the supplier that a message names, or no digits if it names none
abbrev pub named : RawMessage → List ℕ
named message = unwrap_or (supplier_of message.segments) []

-- M01: this side does not send messages of this type
abbrev pub other_type : Act
other_type t = (Refused (message_faults.code_text MessageType), t)

-- an ORDERS of the retailer for a supplier
abbrev pub order_act : (Tables → Tables) → Parties → Option SupplierRow → RawMessage × IncomingMessage → Act
order_act look parties supplier (message, incoming) t =
    read_act (order_of message)
    (λ order. judge_order parties.retailer supplier incoming (body_of message) order (look t)) t

-- a RECADV of the retailer for a supplier
abbrev pub receipt_act : (Tables → Tables) → Parties → Option SupplierRow → RawMessage × IncomingMessage → Act
receipt_act look parties supplier (message, incoming) t =
    read_act (receipt_of message)
    (λ receipt. judge_receipt parties.retailer supplier incoming (body_of message) receipt (look t)) t

-- an ORDRSP of a supplier
abbrev pub response_act : (Tables → Tables) → Parties → SupplierRow → RawMessage × IncomingMessage → Act
response_act look parties s (message, incoming) t =
    read_act (response_of message)
    (λ response. judge_response parties.retailer (Some s) incoming response (look t)) t

-- a DESADV of a supplier
abbrev pub despatch_act : (Tables → Tables) → Parties → SupplierRow → RawMessage × IncomingMessage → Act
despatch_act look parties s (message, incoming) t =
    read_act (despatch_of message)
    (λ despatch. judge_despatch parties.retailer (Some s) (has_pallet t) incoming despatch (look t)) t

-- a message of the retailer for a supplier, handled by its type
abbrev pub deliver_retailers : (Tables → Tables) → Parties → Option SupplierRow → RawMessage × IncomingMessage → Act
deliver_retailers look parties supplier (message, incoming) t =
    if same message.kind (codes "ORDERS") then order_act look parties supplier (message, incoming) t
    else (if same message.kind (codes "RECADV") then receipt_act look parties supplier (message, incoming) t
    else other_type t)

-- a message of a supplier, handled by its type
abbrev pub deliver_suppliers : (Tables → Tables) → Parties → SupplierRow → RawMessage × IncomingMessage → Act
deliver_suppliers look parties s (message, incoming) t =
    if same message.kind (codes "ORDRSP") then response_act look parties s (message, incoming) t
    else (if same message.kind (codes "DESADV") then despatch_act look parties s (message, incoming) t
    else other_type t)

-- a cancellation of the retailer for a supplier
abbrev pub cancel : (Tables → Tables) → Option SupplierRow → Cancel → Act
cancel look supplier cancellation t = act (judge_cancel supplier (cancel_text cancellation) cancellation (look t)) t
