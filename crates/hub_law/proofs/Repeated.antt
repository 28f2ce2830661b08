-- Shows that what was accepted gets the reply `repeated` when it is sent again.
use Rattle.std.proofs.Common.{◌≡◌, ℕ, Bool, true, false, cond, not, List, [], ◌∷◌, codes, Option, Some, None, Result, Ok}
use Rattle.std.proofs.Common.{Err, refl, ◌∙◌, ap}
use Rattle.edi_envelope.specs.declared.interchange.RawMessage.{RawMessage}
use Rattle.edi_messages.specs.declared.fault.MessageFault.{MessageFault}
use Rattle.edi_orders.specs.Order.{order_of}
use Rattle.edi_orders.specs.Response.{response_of}
use Rattle.edi_goods.specs.Despatch.{despatch_of}
use Rattle.edi_goods.specs.Receipt.{receipt_of}
use Rattle.hub_parties.specs.Rows.{Parties, RegisterRows, parties_of, supplier_row}
use Rattle.hub_parties.specs.declared.row.SupplierRow.{SupplierRow}
use Rattle.hub_tables.specs.Change.{apply_all}
use Rattle.hub_tables.specs.Rows.{same}
use Rattle.hub_tables.specs.Tables.{Tables, has_pallet, view}
use Rattle.hub_tables.specs.declared.cases.Side.{Side}
use Rattle.hub_tables.specs.declared.cases.Side.TheVariants as sides
use Rattle.hub_tables.specs.declared.change.Change.{Change}
use Rattle.hub_rules.specs.CancellationRules.{judge_new_cancel}
use Rattle.hub_rules.specs.DespatchRules.{judge_new_despatch}
use Rattle.hub_rules.specs.Judging.{Judge, refuse_if}
use Rattle.hub_rules.specs.OrderRules.{judge_new_order}
use Rattle.hub_rules.specs.ReceiptRules.{judge_new_receipt}
use Rattle.hub_rules.specs.RepeatRules.{Reference, judge_once}
use Rattle.hub_rules.specs.ResponseRules.{judge_new_response}
use Rattle.hub_rules.specs.PartyRules.{is_other_buyer, if_registered}
use Rattle.hub_rules.specs.Rules.{referred_by, judge_message, judge_order, judge_response, judge_despatch, judge_receipt, judge_cancel}
use Rattle.hub_rules.specs.declared.code.Code.{Code}
use Rattle.hub_rules.specs.declared.code.Code.TheVariants as rules
use Rattle.hub_rules.specs.declared.cancel.Cancel.{Cancel}
use Rattle.hub_rules.specs.declared.incoming.IncomingMessage.{IncomingMessage}
use Rattle.hub_rules.specs.declared.verdict.Verdict.{Verdict}
use Rattle.hub_rules.specs.declared.verdict.Verdict.TheVariants.{Accept, Refuse}
use Rattle.hub_rules.specs.Sound.{Sound}
use Rattle.hub_rules.proofs.Repeating.{found_again, accepted_has, once_again}
use Rattle.hub_rules.proofs.Verdicts.{not_refused}
use Rattle.hub_rules.proofs.Prefixes.{gln_found}
use Rattle.hub_law.specs.CancelText.{cancel_text}
use Rattle.hub_law.specs.Messages.{named, body_of, deliver_retailers, deliver_suppliers, cancel}
use Rattle.hub_law.specs.Remembered.{StaysRemembered}
use Rattle.hub_law.specs.Requests.{deliver_named}
use Rattle.hub_law.specs.Told.{Told, Accepted, Repeated, Refused, Act, act, read_act}

module _ (suppliers : List SupplierRow) where
  -- if a verdict accepts something new, another one accepts it as already known in all tables that still remember it
  abbrev Recurs : Tables → Verdict → (Tables → Verdict) → Type 0
  Recurs t first again =
      (change : Change) (changes : List Change)
      → first ≡ Accept (change ∷ changes)
      → (u : Tables)
      → StaysRemembered (apply_all (change ∷ changes) t) u
      → Sound suppliers u
      → again u ≡ Accept []

  -- the same, for acts
  abbrev Repeats : Told × Tables → Act → Type 0
  Repeats first again = first.0 ≡ Accepted → (u : Tables) → StaysRemembered first.1 u → Sound suppliers u → again u ≡ (Repeated, u)

  act_repeats : (t : Tables) (first : Verdict) (again : Tables → Verdict)
      → Recurs t first again
      → Repeats (act first t) (λ u. act (again u) u)
  act_repeats t (Refuse code) again f told = cc
  act_repeats t (Accept []) again f told = cc
  act_repeats t (Accept (change ∷ changes)) again f told = λ u stays sound. ap (λ v. act v u) (f change changes refl u stays sound)

  read_repeats : {X : Type 0} (t : Tables) (read : Result X MessageFault) (first : X → Verdict)
      (again : Tables → X → Verdict)
      → ((x : X) → Recurs t (first x) (λ u. again u x))
      → Repeats (read_act read first t) (λ u. read_act read (again u) u)
  read_repeats t (Err fault) first again f = λ told. cc
  read_repeats t (Ok x) first again f = act_repeats t (first x) (λ u. again u x) (f x)

  either_repeats : (test : Bool) (one other : Told × Tables) (one_again other_again : Act)
      → Repeats one one_again
      → Repeats other other_again
      → Repeats (cond test one other) (λ u. cond test (one_again u) (other_again u))
  either_repeats true one other one_again other_again f g = f
  either_repeats false one other one_again other_again f g = g

  refused_never : (code : List ℕ) (t : Tables) (again : Act) → Repeats (Refused code, t) again
  refused_never code t again told = cc

  -- decided on the rows of a GLN, for a supplier that has it
  module _ (gln : List ℕ) (t : Tables) where
    registered_recurs : (supplier : Option SupplierRow)
        → ((s : SupplierRow) → supplier ≡ Some s → s.gln ≡ gln)
        → (of : List ℕ) (r : SupplierRow → Reference)
        → ((s : SupplierRow) → (r s).supplier ≡ s.gln)
        → (content : List ℕ) (fresh : SupplierRow → Judge) (other : Tables → SupplierRow → Judge)
        → Recurs t (if_registered supplier of (λ s. judge_once (r s) content (fresh s) (view gln t)))
        (λ u. if_registered supplier of (λ s. judge_once (r s) content (other u s) (view gln u)))
    registered_recurs None whose of r own content fresh other change changes h u stays sound = cc
    registered_recurs (Some s) whose of r own content fresh other change changes h u stays sound =
        let passed = not_refused (not (same of s.gln)) rules.Supplier (judge_once (r s) content (fresh s) (view gln t))
        (change ∷ changes) h in
        let there = stays _ (accepted_has (r s) content (fresh s) (view gln t) t change changes passed.1) in
        let found = found_again gln u (r s) content (sound.kept gln).remembered (own s ∙ whose s refl) there in
        ap (λ v. refuse_if v rules.Supplier (judge_once (r s) content (other u s) (view gln u))) passed.0
        ∙ once_again (r s) content (other u s) (view gln u) found

    -- the same content under the same references, at any moment and with any decimal mark
    message_recurs : (retailer : List ℕ) (supplier : Option SupplierRow)
        → ((s : SupplierRow) → supplier ≡ Some s → s.gln ≡ gln)
        → (side : Side) (incoming : IncomingMessage) (moment decimal : ℕ) (buyer : Option (List ℕ)) (of : List ℕ)
        (fresh : SupplierRow → Judge) (other : Tables → SupplierRow → Judge)
        → Recurs t (judge_message retailer supplier side incoming buyer of fresh (view gln t)) (λ u.
        judge_message retailer supplier side (record incoming { moment = moment; decimal = decimal }) buyer of (other u)
        (view gln u))
    message_recurs retailer supplier whose side incoming moment decimal buyer of fresh other change changes h u stays sound =
        let passed = not_refused (is_other_buyer retailer buyer) rules.Buyer (if_registered supplier of
        (λ s. judge_once (referred_by s side incoming) incoming.content (fresh s) (view gln t)))
        (change ∷ changes) h in
        let rest = registered_recurs supplier whose of (λ s. referred_by s side incoming) (λ s. refl) incoming.content
        fresh other change changes passed.1 u stays sound in
        ap (λ v. refuse_if v rules.Buyer (if_registered supplier of
        (λ s. judge_once (referred_by s side incoming) incoming.content (other u s) (view gln u)))) passed.0
        ∙ rest

    retailers_repeats : (parties : Parties) (supplier : Option SupplierRow)
        → ((s : SupplierRow) → supplier ≡ Some s → s.gln ≡ gln)
        → (sent : RawMessage × IncomingMessage) (moment decimal : ℕ)
        → Repeats (deliver_retailers (view gln) parties supplier sent t)
        (deliver_retailers (view gln) parties supplier (sent.0, record sent.1 { moment = moment; decimal = decimal }))
    retailers_repeats parties supplier whose sent moment decimal =
        let again : RawMessage × IncomingMessage = (sent.0, record sent.1 { moment = moment; decimal = decimal }) in
        either_repeats (same sent.0.kind (codes "ORDERS")) _ _ _ _
        (read_repeats t (order_of sent.0)
        (λ order. judge_order parties.retailer supplier sent.1 (body_of sent.0) order (view gln t))
        (λ u order. judge_order parties.retailer supplier again.1 (body_of again.0) order (view gln u))
        (λ order. message_recurs parties.retailer supplier whose sides.Retailer sent.1 moment decimal (Some order.buyer)
        order.supplier (λ s. judge_new_order s.gln sent.1 (body_of sent.0) order)
        (λ u s. judge_new_order s.gln again.1 (body_of again.0) order)))
        (either_repeats (same sent.0.kind (codes "RECADV")) _ _ _ _
        (read_repeats t (receipt_of sent.0)
        (λ receipt. judge_receipt parties.retailer supplier sent.1 (body_of sent.0) receipt (view gln t))
        (λ u receipt. judge_receipt parties.retailer supplier again.1 (body_of again.0) receipt (view gln u))
        (λ receipt.
        message_recurs parties.retailer supplier whose sides.Retailer sent.1 moment decimal receipt.buyer receipt.supplier
        (λ s. judge_new_receipt s.gln sent.1 (body_of sent.0) receipt)
        (λ u s. judge_new_receipt s.gln again.1 (body_of again.0) receipt)))
        (refused_never _ t _))

    suppliers_repeats : (parties : Parties) (s : SupplierRow) → s.gln ≡ gln → (sent : RawMessage × IncomingMessage) (moment decimal : ℕ)
        → Repeats (deliver_suppliers (view gln) parties s sent t)
        (deliver_suppliers (view gln) parties s (sent.0, record sent.1 { moment = moment; decimal = decimal }))
    suppliers_repeats parties s whose sent moment decimal =
        let again : RawMessage × IncomingMessage = (sent.0, record sent.1 { moment = moment; decimal = decimal }) in
        let one : (other : SupplierRow) → ◌≡◌ {A = Option SupplierRow} (Some s) (Some other) → other.gln ≡ gln = λ other e. cc in
        either_repeats (same sent.0.kind (codes "ORDRSP")) _ _ _ _
        (read_repeats t (response_of sent.0)
        (λ response. judge_response parties.retailer (Some s) sent.1 response (view gln t))
        (λ u response. judge_response parties.retailer (Some s) again.1 response (view gln u))
        (λ response.
        message_recurs parties.retailer (Some s) one sides.Supplier sent.1 moment decimal (Some response.buyer)
        response.supplier (λ s. judge_new_response response) (λ u s. judge_new_response response)))
        (either_repeats (same sent.0.kind (codes "DESADV")) _ _ _ _
        (read_repeats t (despatch_of sent.0)
        (λ despatch. judge_despatch parties.retailer (Some s) (has_pallet t) sent.1 despatch (view gln t))
        (λ u despatch. judge_despatch parties.retailer (Some s) (has_pallet u) again.1 despatch (view gln u))
        (λ despatch.
        message_recurs parties.retailer (Some s) one sides.Supplier sent.1 moment decimal despatch.buyer despatch.supplier
        (λ s. judge_new_despatch s (has_pallet t) despatch) (λ u s. judge_new_despatch s (has_pallet u) despatch)))
        (refused_never _ t _))

    cancel_repeats : (supplier : Option SupplierRow)
        → ((s : SupplierRow) → supplier ≡ Some s → s.gln ≡ gln)
        → (c : Cancel)
        → Repeats (cancel (view gln) supplier c t) (cancel (view gln) supplier c)
    cancel_repeats supplier whose c =
        act_repeats t (judge_cancel supplier (cancel_text c) c (view gln t)) (λ u. judge_cancel supplier (cancel_text c) c (view gln u))
        (registered_recurs supplier whose c.supplier
        (λ s. record { supplier = s.gln; side = sides.Cancellation; control = c.reference; message = [] }) (λ s. refl)
        (cancel_text c) (λ s. judge_new_cancel c) (λ u s. judge_new_cancel c))

pub named_repeated : (suppliers : List SupplierRow) (register : RegisterRows) (sent : RawMessage × IncomingMessage)
    (moment decimal : ℕ) (t u : Tables)
    → (deliver_named register sent t).0 ≡ Accepted
    → StaysRemembered (deliver_named register sent t).1 u
    → Sound suppliers u
    → deliver_named register (sent.0, record sent.1 { moment = moment; decimal = decimal }) u ≡ (Repeated, u)
named_repeated suppliers register sent moment decimal t u told stays sound =
    retailers_repeats suppliers (named sent.0) t (parties_of register)
    (supplier_row register.suppliers (named sent.0)) (gln_found register.suppliers (named sent.0)) sent moment decimal told u
    stays sound

pub suppliers_repeated : (suppliers : List SupplierRow) (parties : Parties) (s : SupplierRow)
    (sent : RawMessage × IncomingMessage) (moment decimal : ℕ) (t u : Tables)
    → (deliver_suppliers (view s.gln) parties s sent t).0 ≡ Accepted
    → StaysRemembered (deliver_suppliers (view s.gln) parties s sent t).1 u
    → Sound suppliers u
    → deliver_suppliers (view s.gln) parties s (sent.0, record sent.1 { moment = moment; decimal = decimal }) u ≡ (Repeated, u)
suppliers_repeated suppliers parties s sent moment decimal t u told stays sound =
    suppliers_repeats suppliers s.gln t parties s refl sent moment decimal told u stays sound

pub cancellation_repeated : (suppliers : List SupplierRow) (register : RegisterRows) (c : Cancel) (t u : Tables)
    → (cancel (view c.supplier) (supplier_row register.suppliers c.supplier) c t).0 ≡ Accepted
    → StaysRemembered (cancel (view c.supplier) (supplier_row register.suppliers c.supplier) c t).1 u
    → Sound suppliers u
    → cancel (view c.supplier) (supplier_row register.suppliers c.supplier) c u ≡ (Repeated, u)
cancellation_repeated suppliers register c t u told stays sound =
    cancel_repeats suppliers c.supplier t (supplier_row register.suppliers c.supplier)
    (gln_found register.suppliers c.supplier) c told u stays sound

-- a message that names no registered supplier is never accepted
either_never : (test : Bool) (one other : Told × Tables)
    → (one.0 ≡ Accepted → ⊥)
    → (other.0 ≡ Accepted → ⊥)
    → (cond test one other).0 ≡ Accepted → ⊥
either_never true one other f g = f
either_never false one other f g = g

read_never : {X : Type 0} (read : Result X MessageFault) (judge : X → Verdict) (t : Tables)
    → ((x : X) → (act (judge x) t).0 ≡ Accepted → ⊥)
    → (read_act read judge t).0 ≡ Accepted → ⊥
read_never (Err fault) judge t f told = cc
read_never (Ok x) judge t f told = f x told

refused_anyway : (test : Bool) (first second : Code) (t : Tables)
    → (act (refuse_if test first (Refuse second)) t).0 ≡ Accepted → ⊥
refused_anyway true first second t told = cc
refused_anyway false first second t told = cc

pub nobody_accepted : (look : Tables → Tables) (parties : Parties) (sent : RawMessage × IncomingMessage) (t : Tables)
    → (deliver_retailers look parties None sent t).0 ≡ Accepted → ⊥
nobody_accepted look parties sent t =
    either_never (same sent.0.kind (codes "ORDERS")) _ _
    (read_never (order_of sent.0) _ t
    (λ order. refused_anyway (is_other_buyer parties.retailer (Some order.buyer)) rules.Buyer rules.Supplier t))
    (either_never (same sent.0.kind (codes "RECADV")) _ _
    (read_never (receipt_of sent.0) _ t
    (λ receipt. refused_anyway (is_other_buyer parties.retailer receipt.buyer) rules.Buyer rules.Supplier t))
    (λ told. cc))
