-- Shows that what is accepted is remembered in its row.
use Rattle.std.proofs.Common.{◌≡◌, ℕ, Bool, true, false, cond, not, List, [], ◌∷◌, codes, Option, Some, None, Result, Ok}
use Rattle.std.proofs.Common.{Err, refl, subst}
use Rattle.edi_envelope.specs.declared.interchange.RawMessage.{RawMessage}
use Rattle.edi_messages.specs.declared.fault.MessageFault.{MessageFault}
use Rattle.edi_orders.specs.Order.{order_of}
use Rattle.edi_orders.specs.Response.{response_of}
use Rattle.edi_goods.specs.Despatch.{despatch_of}
use Rattle.edi_goods.specs.Receipt.{receipt_of}
use Rattle.hub_parties.specs.Rows.{Parties, RegisterRows, supplier_row}
use Rattle.hub_parties.specs.declared.row.SupplierRow.{SupplierRow}
use Rattle.hub_tables.specs.Change.{apply_all}
use Rattle.hub_tables.specs.Rows.{same}
use Rattle.hub_tables.specs.Sets.{Has}
use Rattle.hub_tables.specs.Tables.{Tables, has_pallet, view}
use Rattle.hub_tables.specs.declared.cases.Side.{Side}
use Rattle.hub_tables.specs.declared.cases.Side.TheVariants as sides
use Rattle.hub_tables.specs.declared.change.Change.{Change}
use Rattle.hub_tables.specs.declared.rows.RememberedRow.{RememberedRow}
use Rattle.hub_rules.specs.CancellationRules.{judge_new_cancel}
use Rattle.hub_rules.specs.DespatchRules.{judge_new_despatch}
use Rattle.hub_rules.specs.Judging.{Judge}
use Rattle.hub_rules.specs.OrderRules.{judge_new_order}
use Rattle.hub_rules.specs.ReceiptRules.{judge_new_receipt}
use Rattle.hub_rules.specs.RepeatRules.{Reference, judge_once, remembered}
use Rattle.hub_rules.specs.ResponseRules.{judge_new_response}
use Rattle.hub_rules.specs.PartyRules.{is_other_buyer, if_registered}
use Rattle.hub_rules.specs.Rules.{referred_by, judge_message, judge_order, judge_response, judge_despatch, judge_receipt, judge_cancel}
use Rattle.hub_rules.specs.declared.code.Code.TheVariants as rules
use Rattle.hub_rules.specs.declared.cancel.Cancel.{Cancel}
use Rattle.hub_rules.specs.declared.incoming.IncomingMessage.{IncomingMessage}
use Rattle.hub_rules.specs.declared.verdict.Verdict.{Verdict}
use Rattle.hub_rules.specs.declared.verdict.Verdict.TheVariants.{Accept, Refuse}
use Rattle.hub_rules.proofs.Repeating.{accepted_has}
use Rattle.hub_rules.proofs.Verdicts.{not_refused}
use Rattle.hub_rules.proofs.Prefixes.{gln_found}
use Rattle.hub_law.specs.CancelText.{cancel_text}
use Rattle.hub_law.specs.Messages.{named, body_of, deliver_suppliers, cancel}
use Rattle.hub_law.specs.Remembered.{row_of_message, row_of_cancel}
use Rattle.hub_law.specs.Requests.{deliver_named}
use Rattle.hub_law.specs.Told.{Told, Accepted, Refused, act, read_act}

-- if a verdict accepts something new, the row exists afterwards
abbrev PutsRemembered : Tables → RememberedRow → Verdict → Type 0
PutsRemembered t row verdict =
    (change : Change) (changes : List Change)
    → verdict ≡ Accept (change ∷ changes)
    → Has (apply_all (change ∷ changes) t).remembered row

-- the same, for the result of an act and what it left
abbrev LeavesRemembered : RememberedRow → Told × Tables → Type 0
LeavesRemembered row after = after.0 ≡ Accepted → Has after.1.remembered row

module _ (t : Tables) (row : RememberedRow) where
  act_leaves : (verdict : Verdict) → PutsRemembered t row verdict → LeavesRemembered row (act verdict t)
  act_leaves (Refuse code) f told = cc
  act_leaves (Accept []) f told = cc
  act_leaves (Accept (change ∷ changes)) f told = f change changes refl

  read_leaves : {X : Type 0} (read : Result X MessageFault) (judge : X → Verdict)
      → ((x : X) → PutsRemembered t row (judge x))
      → LeavesRemembered row (read_act read judge t)
  read_leaves (Err fault) judge f told = cc
  read_leaves (Ok x) judge f told = act_leaves (judge x) (f x) told

  either_leaves : (test : Bool) (one other : Told × Tables)
      → LeavesRemembered row one
      → LeavesRemembered row other
      → LeavesRemembered row (cond test one other)
  either_leaves true one other f g = f
  either_leaves false one other f g = g

  refused_never : (code : List ℕ) → LeavesRemembered row (Refused code, t)
  refused_never code told = cc

-- decided for a supplier with this GLN
module _ (t : Tables) (gln : List ℕ) (supplier : Option SupplierRow)
    (whose : (s : SupplierRow) → supplier ≡ Some s → s.gln ≡ gln) where
  registered_puts : (found : Option SupplierRow)
      → ((s : SupplierRow) → found ≡ Some s → s.gln ≡ gln)
      → (of : List ℕ) (r : List ℕ → Reference) (content : List ℕ) (fresh : SupplierRow → Judge) (state : Tables)
      → PutsRemembered t (remembered (r gln) content)
      (if_registered found of (λ s. judge_once (r s.gln) content (fresh s) state))
  registered_puts None whose of r content fresh state change changes h = cc
  registered_puts (Some s) whose of r content fresh state change changes h =
      let passed = not_refused (not (same of s.gln)) rules.Supplier (judge_once (r s.gln) content (fresh s) state)
      (change ∷ changes) h in
      subst (λ g. Has (apply_all (change ∷ changes) t).remembered (remembered (r g) content)) (whose s refl)
      (accepted_has (r s.gln) content (fresh s) state t change changes passed.1)

  message_puts : (retailer : List ℕ) (side : Side) (incoming : IncomingMessage) (buyer : Option (List ℕ)) (of : List ℕ)
      (fresh : SupplierRow → Judge) (state : Tables)
      → PutsRemembered t (remembered (record {
        supplier = gln;
        side = side;
        control = incoming.control;
        message = incoming.message;
      }) incoming.content) (judge_message retailer supplier side incoming buyer of fresh state)
  message_puts retailer side incoming buyer of fresh state change changes h =
      let passed = not_refused (is_other_buyer retailer buyer) rules.Buyer (if_registered supplier of
      (λ s. judge_once (referred_by s side incoming) incoming.content (fresh s) state))
      (change ∷ changes) h in
      registered_puts supplier whose of (λ gln. record {
        supplier = gln;
        side = side;
        control = incoming.control;
        message = incoming.message;
      }) incoming.content fresh state change changes passed.1

  cancel_leaves : (c : Cancel)
      → LeavesRemembered (remembered (record { supplier = gln; side = sides.Cancellation; control = c.reference; message = [] })
      (cancel_text c)) (cancel (view gln) supplier c t)
  cancel_leaves c =
      act_leaves t _ (judge_cancel supplier (cancel_text c) c (view gln t))
      (registered_puts supplier whose c.supplier
      (λ gln. record { supplier = gln; side = sides.Cancellation; control = c.reference; message = [] }) (cancel_text c)
      (λ s. judge_new_cancel c) (view gln t))

pub named_remembered : (register : RegisterRows) (message : RawMessage) (incoming : IncomingMessage) (t : Tables)
    → (deliver_named register (message, incoming) t).0 ≡ Accepted
    → Has (deliver_named register (message, incoming) t).1.remembered (row_of_message None message incoming)
named_remembered register message incoming t =
    let gln = named message in
    let retailer = register.retailer in
    let supplier = supplier_row register.suppliers gln in
    let whose = gln_found register.suppliers gln in
    either_leaves t _ (same message.kind (codes "ORDERS")) _ _
    (read_leaves t _ (order_of message)
    (λ order. judge_order retailer supplier incoming (body_of message) order (view gln t))
    (λ order. message_puts t gln supplier whose retailer sides.Retailer incoming (Some order.buyer) order.supplier
    (λ s. judge_new_order s.gln incoming (body_of message) order) (view gln t)))
    (either_leaves t _ (same message.kind (codes "RECADV")) _ _
    (read_leaves t _ (receipt_of message)
    (λ receipt. judge_receipt retailer supplier incoming (body_of message) receipt (view gln t))
    (λ receipt. message_puts t gln supplier whose retailer sides.Retailer incoming receipt.buyer receipt.supplier
    (λ s. judge_new_receipt s.gln incoming (body_of message) receipt) (view gln t)))
    (refused_never t _ _))

pub suppliers_remembered : (parties : Parties) (s : SupplierRow) (message : RawMessage) (incoming : IncomingMessage)
    (t : Tables)
    → (deliver_suppliers (view s.gln) parties s (message, incoming) t).0 ≡ Accepted
    → Has (deliver_suppliers (view s.gln) parties s (message, incoming) t).1.remembered
    (row_of_message (Some s) message incoming)
suppliers_remembered parties s message incoming t =
    let whose : (other : SupplierRow) → ◌≡◌ {A = Option SupplierRow} (Some s) (Some other) → other.gln ≡ s.gln = λ other e. cc in
    either_leaves t _ (same message.kind (codes "ORDRSP")) _ _
    (read_leaves t _ (response_of message)
    (λ response. judge_response parties.retailer (Some s) incoming response (view s.gln t))
    (λ response. message_puts t s.gln (Some s) whose parties.retailer sides.Supplier incoming (Some response.buyer)
    response.supplier (λ s. judge_new_response response) (view s.gln t)))
    (either_leaves t _ (same message.kind (codes "DESADV")) _ _
    (read_leaves t _ (despatch_of message)
    (λ despatch. judge_despatch parties.retailer (Some s) (has_pallet t) incoming despatch (view s.gln t))
    (λ despatch. message_puts t s.gln (Some s) whose parties.retailer sides.Supplier incoming despatch.buyer
    despatch.supplier (λ s. judge_new_despatch s (has_pallet t) despatch) (view s.gln t)))
    (refused_never t _ _))

pub cancellation_remembered : (register : RegisterRows) (c : Cancel) (t : Tables)
    → (cancel (view c.supplier) (supplier_row register.suppliers c.supplier) c t).0 ≡ Accepted
    → Has (cancel (view c.supplier) (supplier_row register.suppliers c.supplier) c t).1.remembered (row_of_cancel c)
cancellation_remembered register c t =
    cancel_leaves t c.supplier (supplier_row register.suppliers c.supplier) (gln_found register.suppliers c.supplier) c
