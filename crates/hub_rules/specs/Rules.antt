-- Defines the checks of each message and of cancellations, in their order. A message is checked against the state of
-- one supplier; a supplier that is not registered has none.
use Rattle.std.specs.Prelude.{ℕ, Bool, List, [], Option, Some}
use Rattle.edi_documents.specs.EdiOrders.declared.order.Order.{Order}
use Rattle.edi_documents.specs.EdiOrders.declared.response.Response.{Response}
use Rattle.edi_documents.specs.EdiGoods.declared.despatch.Despatch.{Despatch}
use Rattle.edi_documents.specs.EdiGoods.declared.receipt.Receipt.{Receipt}
use Rattle.hub_parties.specs.declared.row.SupplierRow.{SupplierRow}
use Rattle.hub_tables.specs.declared.cases.Side.{Side}
use Rattle.hub_tables.specs.declared.cases.Side.TheVariants as sides
use Rattle.hub_rules.specs.CancellationRules.{judge_new_cancel}
use Rattle.hub_rules.specs.DespatchRules.{judge_new_despatch}
use Rattle.hub_rules.specs.Judging.{Judge, refuse_if}
use Rattle.hub_rules.specs.OrderRules.{judge_new_order}
use Rattle.hub_rules.specs.PartyRules.{is_other_buyer, if_registered}
use Rattle.hub_rules.specs.ReceiptRules.{judge_new_receipt}
use Rattle.hub_rules.specs.RepeatRules.{Reference, judge_once}
use Rattle.hub_rules.specs.ResponseRules.{judge_new_response}
use Rattle.hub_rules.specs.declared.code.Code.TheVariants as codes
use Rattle.hub_rules.specs.declared.cancel.Cancel.{Cancel}
use Rattle.hub_rules.specs.declared.incoming.IncomingMessage.{IncomingMessage}

abbrev pub referred_by : SupplierRow → Side → IncomingMessage → Reference
referred_by s side incoming =
    record { supplier = s.gln; side = side; control = incoming.control; message = incoming.message }

-- B01, B02, B03; then the checks of the message itself
abbrev pub judge_message : List ℕ → Option SupplierRow → Side → IncomingMessage → Option (List ℕ) → List ℕ
    → (SupplierRow → Judge) → Judge
judge_message retailer supplier side incoming buyer named rest state =
    refuse_if (is_other_buyer retailer buyer) codes.Buyer (
    if_registered supplier named (λ s. judge_once (referred_by s side incoming) incoming.content (rest s) state))

-- ORDERS: B01, B02, B03, B04, B16
abbrev pub judge_order : List ℕ → Option SupplierRow → IncomingMessage → List ℕ → Order → Judge
judge_order retailer supplier incoming body order =
    judge_message retailer supplier sides.Retailer incoming (Some order.buyer) order.supplier (λ s.
    judge_new_order s.gln incoming body order)

-- ORDRSP: B01, B02, B03, B05; an answer for all lines: B07; each line: B06, B07, B08, B09
abbrev pub judge_response : List ℕ → Option SupplierRow → IncomingMessage → Response → Judge
judge_response retailer supplier incoming response =
    judge_message retailer supplier sides.Supplier incoming (Some response.buyer) response.supplier (λ s.
    judge_new_response response)

-- DESADV: B01, B02, B03, B13; each unit: B11, B12; each line: B05, B06, B09, B10
abbrev pub judge_despatch : List ℕ → Option SupplierRow → (List ℕ → Bool) → IncomingMessage → Despatch → Judge
judge_despatch retailer supplier used incoming despatch =
    judge_message retailer supplier sides.Supplier incoming despatch.buyer despatch.supplier (λ s.
    judge_new_despatch s used despatch)

-- RECADV: B01, B02, B03, B16; each unit: B14, B15
abbrev pub judge_receipt : List ℕ → Option SupplierRow → IncomingMessage → List ℕ → Receipt → Judge
judge_receipt retailer supplier incoming body receipt =
    judge_message retailer supplier sides.Retailer incoming receipt.buyer receipt.supplier (λ s.
    judge_new_receipt s.gln incoming body receipt)

abbrev pub cancelled_by : SupplierRow → Cancel → Reference
cancelled_by s cancel = record { supplier = s.gln; side = sides.Cancellation; control = cancel.reference; message = [] }

-- cancellations: B02, B03, B05, B06, B17
abbrev pub judge_cancel : Option SupplierRow → List ℕ → Cancel → Judge
judge_cancel supplier content cancel state =
    if_registered supplier cancel.supplier (λ s.
    judge_once (cancelled_by s cancel) content (judge_new_cancel cancel) state)
