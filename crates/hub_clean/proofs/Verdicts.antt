-- Shows that what the rules accept for clean rows can be made, and leaves clean rows.
use Rattle.std.proofs.Common.{◌≡◌, ℕ, true, false, List, [], ◌∷◌, map}
use Rattle.std.proofs.Common.{Option, Some, None, Ok}
use Rattle.std.proofs.Common.{refl, sym, subst, ap, ◌∙◌}
use Rattle.std.specs.List.{AllByRecursion, list_all}
use Rattle.std.proofs.lemmas.Bool.{and_parts}
use Rattle.gs1_ids.specs.Gln.{is_gln}
use Rattle.edi_envelope.specs.declared.interchange.RawMessage.{RawMessage}
use Rattle.edi_orders.specs.Order.{order_of}
use Rattle.edi_orders.specs.declared.order.Order.{Order}
use Rattle.edi_orders.specs.declared.response.Response.{Response}
use Rattle.edi_goods.specs.Despatch.{despatch_of}
use Rattle.edi_goods.specs.Receipt.{receipt_of}
use Rattle.edi_goods.specs.declared.despatch.Despatch.{Despatch}
use Rattle.edi_goods.specs.declared.receipt.Receipt.{Receipt}
use Rattle.hub_parties.specs.Rows.{RegisterRows, IsRegister, supplier_row}
use Rattle.hub_parties.specs.declared.row.SupplierRow.{SupplierRow}
use Rattle.hub_tables.specs.Change.{apply_all}
use Rattle.hub_tables.specs.Register.{row_changes}
use Rattle.hub_tables.specs.Rows.{same}
use Rattle.hub_tables.specs.Tables.{Tables, view, has_pallet}
use Rattle.hub_tables.specs.declared.change.Change.{Change}
use Rattle.hub_tables.proofs.Lists.{all_found}
use Rattle.hub_store.specs.Calls.{have_places}
use Rattle.hub_store.specs.Clean.{are_clean}
use Rattle.hub_rules.specs.JoinRules.{is_join, judge_join}
use Rattle.hub_rules.specs.Judging.{Judge, refuse_if}
use Rattle.hub_rules.specs.Laws.{Registered, SoundUnder}
use Rattle.hub_rules.specs.Rules.{judge_order, judge_response, judge_despatch, judge_receipt, judge_cancel}
use Rattle.hub_rules.specs.declared.cancel.Cancel.{Cancel}
use Rattle.hub_rules.specs.declared.code.Code.{Code}
use Rattle.hub_rules.specs.declared.incoming.IncomingMessage.{IncomingMessage}
use Rattle.hub_rules.specs.declared.verdict.Verdict.{Verdict}
use Rattle.hub_rules.specs.declared.verdict.Verdict.TheVariants.{Accept, Refuse}
use Rattle.hub_rules.proofs.Prefixes.{gln_found}
use Rattle.hub_law.specs.CancelText.{cancel_text}
use Rattle.hub_law.specs.Messages.{body_of}
use Rattle.hub_law.specs.Told.{changed}
use Rattle.hub_clean.specs.Clean.{WithinMessage, WithinCancel}
use Rattle.hub_clean.specs.Clean.{VerdictClean}
use Rattle.hub_clean.proofs.Bytes.{cancel_bytes}
use Rattle.hub_clean.proofs.CleanJudges.{cleans_order, cleans_response, cleans_despatch, cleans_receipt, cleans_cancel}
use Rattle.hub_clean.proofs.CleanVerdicts.{cleaned, cleaned_join}
use Rattle.hub_clean.proofs.Placing.{order_there, response_there, despatch_there, receipt_there, cancel_there}
use Rattle.hub_clean.proofs.Placing.{joins_there}
use Rattle.hub_clean.proofs.ReadWithin.{order_within, despatch_within, receipt_within}

verdict_clean : (verdict : Verdict) (t : Tables)
    → ((changes : List Change) → verdict ≡ Accept changes → have_places changes t ≡ true)
    → are_clean (changed verdict t) ≡ true
    → VerdictClean verdict t
verdict_clean (Accept changes) t f clean = (f changes refl, clean)
verdict_clean (Refuse code) t f clean = tt

pub refused_clean : (test : _) (first second : Code) (t : Tables) → VerdictClean (refuse_if test first (Refuse second)) t
refused_clean true first second t = tt
refused_clean false first second t = tt

-- the GLN of a registered supplier is valid
pub registered_gln : (register : RegisterRows) (gln : List ℕ) (s : SupplierRow)
    → IsRegister register
    → supplier_row register.suppliers gln ≡ Some s
    → is_gln s.gln ≡ true
registered_gln register gln s right known =
    let all = (and_parts (is_gln register.retailer) _ (and_parts (is_gln register.hub) _ right.glns_right).1).1 in
    (all_found (λ (s : SupplierRow). is_gln s.gln ≡ true) (λ (s : SupplierRow). same s.gln gln) register.suppliers s
    (each register.suppliers all) known).0
  where
    each : (rows : List SupplierRow)
        → list_all is_gln (map (λ (s : SupplierRow). s.gln) rows) ≡ true
        → AllByRecursion (λ (s : SupplierRow). is_gln s.gln ≡ true) rows
    each [] h = tt
    each (row ∷ rows) h =
        let parts = and_parts (is_gln row.gln) (list_all is_gln (map (λ (s : SupplierRow). s.gln) rows)) h in
        (parts.0, each rows parts.1)

-- for a supplier that is registered, by its rules; and for none
pub named_clean : (register : RegisterRows) (gln : List ℕ) (t : Tables) (judge : Option SupplierRow → Judge)
    → IsRegister register
    → SoundUnder register.suppliers t
    → VerdictClean (judge None (view gln t)) t
    → ((s : SupplierRow) → Registered register.suppliers s t → is_gln s.gln ≡ true → s.gln ≡ gln
    → VerdictClean (judge (Some s) (view s.gln t)) t)
    → VerdictClean (judge (supplier_row register.suppliers gln) (view gln t)) t
named_clean register gln t judge right here nobodys ones = by_whom (supplier_row register.suppliers gln) refl
  where
    by_whom : (o : Option SupplierRow) → supplier_row register.suppliers gln ≡ o → VerdictClean (judge o (view gln t)) t
    by_whom None h = nobodys
    by_whom (Some s) h =
        let whose = gln_found register.suppliers gln s h in
        subst (λ n. VerdictClean (judge (Some s) (view n t)) t) whose
        (ones s (record { free = here.free; known = ap (supplier_row register.suppliers) whose ∙ h; sound = here.sound })
        (registered_gln register gln s right h) whose)

-- Messages.

module _ (register : RegisterRows) (right : IsRegister register) (t : Tables) (clean : are_clean t ≡ true)
    (message : RawMessage) (came : IncomingMessage) (within : WithinMessage message came) where
  pub order_clean : (order : Order)
      → order_of message ≡ Ok order
      → SoundUnder register.suppliers t
      → VerdictClean (judge_order register.retailer (supplier_row register.suppliers order.supplier) came (body_of message) order
      (view order.supplier t)) t
  order_clean order read here =
      let judge : Option SupplierRow → Judge = λ supplier. judge_order register.retailer supplier came (body_of message) order in
      named_clean register order.supplier t judge right here
      (refused_clean _ _ _ t)
      (λ s registered gln whose. verdict_clean (judge (Some s) (view s.gln t)) t
      (order_there s t register.retailer came (body_of message) order)
      (cleaned s t (judge (Some s)) (cleans_order s gln register.retailer came (body_of message) order within.incoming within.body
      (order_within message order read)) clean))

  pub receipt_clean : (receipt : Receipt)
      → receipt_of message ≡ Ok receipt
      → SoundUnder register.suppliers t
      → VerdictClean (judge_receipt register.retailer (supplier_row register.suppliers receipt.supplier) came (body_of message)
      receipt (view receipt.supplier t)) t
  receipt_clean receipt read here =
      let judge : Option SupplierRow → Judge = λ supplier. judge_receipt register.retailer supplier came (body_of message) receipt in
      named_clean register receipt.supplier t judge right here
      (refused_clean _ _ _ t)
      (λ s registered gln whose. verdict_clean (judge (Some s) (view s.gln t)) t
      (receipt_there register.suppliers s t registered register.retailer came (body_of message) receipt)
      (cleaned s t (judge (Some s)) (cleans_receipt s gln register.retailer came (body_of message) receipt within.incoming
      within.body (receipt_within message receipt read)) clean))

  module _ (s : SupplierRow) (here : Registered register.suppliers s t) where
    pub response_clean : (response : Response)
        → VerdictClean (judge_response register.retailer (Some s) came response (view s.gln t)) t
    response_clean response =
        let gln = registered_gln register s.gln s right here.known in
        verdict_clean _ t (response_there register.suppliers s t here register.retailer came response)
        (cleaned s t (judge_response register.retailer (Some s) came response)
        (cleans_response s gln register.retailer came response within.incoming) clean)

    pub despatch_clean : (despatch : Despatch)
        → despatch_of message ≡ Ok despatch
        → VerdictClean (judge_despatch register.retailer (Some s) (has_pallet t) came despatch (view s.gln t)) t
    despatch_clean despatch read =
        let gln = registered_gln register s.gln s right here.known in
        verdict_clean _ t (despatch_there register.suppliers s t here register.retailer (has_pallet t) came despatch)
        (cleaned s t (judge_despatch register.retailer (Some s) (has_pallet t) came despatch)
        (cleans_despatch s gln register.retailer (has_pallet t) came despatch within.incoming
        (despatch_within message despatch read within.segments)) clean)

-- Cancellations.

pub cancel_clean : (register : RegisterRows) (t : Tables) (cancel : Cancel)
    → IsRegister register
    → SoundUnder register.suppliers t
    → WithinCancel cancel
    → are_clean t ≡ true
    → VerdictClean (judge_cancel (supplier_row register.suppliers cancel.supplier) (cancel_text cancel) cancel
    (view cancel.supplier t)) t
cancel_clean register t cancel right here within clean =
    let judge : Option SupplierRow → Judge = λ supplier. judge_cancel supplier (cancel_text cancel) cancel in
    named_clean register cancel.supplier t judge right here tt
    (λ s registered gln whose. verdict_clean (judge (Some s) (view s.gln t)) t
    (cancel_there register.suppliers s t registered (cancel_text cancel) cancel)
    (cleaned s t (judge (Some s)) (cleans_cancel s gln (cancel_text cancel) cancel within.reference
    (cancel_bytes cancel (ap is_gln (sym whose) ∙ gln) within)) clean))

-- Joins.

pub joined_clean : (register : RegisterRows) (row : SupplierRow) (t : Tables) (changes : List Change)
    → judge_join register row ≡ Accept changes
    → is_join row ≡ true
    → are_clean t ≡ true
    → are_clean (apply_all changes t) ≡ true
joined_clean register row t changes accepted may clean =
    ap (λ verdict. are_clean (changed verdict t)) (sym accepted) ∙ cleaned_join register row t may clean

pub row_there : (row : SupplierRow) (changes : List Change) (t : Tables) → changes ≡ row_changes row → have_places changes t ≡ true
row_there row changes t is = ap (λ changes. have_places changes t) is ∙ joins_there row t
