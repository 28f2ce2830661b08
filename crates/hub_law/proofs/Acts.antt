-- Shows that one supplier's messages, cancellations and taken marks do the same in the tables of all and in its own
-- rows alone.
use Rattle.std.proofs.Common.{◌≡◌, ℕ, List, Bool, true, false, [], ◌∷◌, cond, ◌==◌, codes, Some, None, Result, Ok, Err, refl}
use Rattle.edi_envelope.specs.declared.interchange.RawMessage.{RawMessage}
use Rattle.gs1_ids.specs.Overlap.{PrefixFree}
use Rattle.edi_messages.specs.Fault as message_faults
use Rattle.edi_messages.specs.declared.fault.MessageFault.{MessageFault}
use Rattle.edi_messages.specs.declared.fault.MessageFault.TheVariants.{MessageType}
use Rattle.edi_orders.specs.Order.{order_of}
use Rattle.edi_orders.specs.Response.{response_of}
use Rattle.edi_orders.proofs.Read.{order_apart}
use Rattle.edi_goods.specs.Despatch.{despatch_of}
use Rattle.edi_goods.specs.Receipt.{receipt_of}
use Rattle.hub_parties.specs.Rows.{Parties, company_prefixes, supplier_row}
use Rattle.hub_parties.specs.declared.row.SupplierRow.{SupplierRow}
use Rattle.hub_tables.specs.Cases.{truth_number}
use Rattle.hub_tables.specs.Change.{apply_all}
use Rattle.hub_tables.specs.Rows.{same}
use Rattle.hub_tables.specs.State.{entry_at, is_taken}
use Rattle.hub_tables.specs.Tables.{Tables, has_pallet, view}
use Rattle.hub_tables.specs.declared.change.Change.TheVariants.{SetMail}
use Rattle.hub_tables.specs.declared.rows.MailRow.{MailRow}
use Rattle.hub_tables.proofs.Lists.{all_found}
use Rattle.hub_rules.specs.declared.incoming.IncomingMessage.{IncomingMessage}
use Rattle.hub_rules.specs.Judging.{refuse_if}
use Rattle.hub_rules.specs.PartyRules.{is_other_buyer}
use Rattle.hub_rules.specs.Rules.{judge_order, judge_receipt, judge_response, judge_despatch}
use Rattle.hub_rules.specs.declared.code.Code.{Code}
use Rattle.hub_rules.specs.declared.code.Code.TheVariants as rules
use Rattle.hub_rules.specs.declared.cancel.Cancel.{Cancel}
use Rattle.hub_rules.specs.declared.verdict.Verdict.{Verdict}
use Rattle.hub_rules.specs.declared.verdict.Verdict.TheVariants.{Refuse}
use Rattle.hub_rules.specs.Sound.{Sound}
use Rattle.hub_rules.specs.Laws.{Apart, PartiesStay}
use Rattle.hub_rules.proofs.Alike.{despatch_alike}
use Rattle.hub_rules.proofs.Changes.{used_seen}
use Rattle.hub_rules.proofs.GoodRows.{keeps_from}
use Rattle.hub_rules.proofs.KeptByCancels.{leads_cancel}
use Rattle.hub_rules.proofs.KeptByDespatches.{leads_despatch}
use Rattle.hub_rules.proofs.KeptByOrders.{leads_order}
use Rattle.hub_rules.proofs.KeptByReceipts.{leads_receipt}
use Rattle.hub_rules.proofs.KeptByResponses.{leads_response}
use Rattle.hub_rules.proofs.KeptMail.{kept_set_mail}
use Rattle.hub_rules.proofs.Owned.{own_after}
use Rattle.hub_rules.proofs.OwnChanges.{good_view, after_changes}
use Rattle.hub_law.specs.CancelText.{cancel_text}
use Rattle.hub_law.specs.Messages.{body_of, deliver_retailers, deliver_suppliers, cancel}
use Rattle.hub_law.specs.Requests.{taking}
use Rattle.hub_law.specs.Told.{Told, Refused, changed, read_act}
use Rattle.hub_law.proofs.Acting.{Alike}
use Rattle.hub_law.proofs.Judged.{unchanged, nothing_done, either, same_verdict, same_reading}

module _ (suppliers : List SupplierRow) (free : PrefixFree (company_prefixes suppliers)) (parties : Parties)
    (s : SupplierRow) (known : supplier_row suppliers s.gln ≡ Some s) where
  response_act : (sent : RawMessage × IncomingMessage) (t : Tables) → Sound suppliers t
      → Alike suppliers s t (read_act (response_of sent.0)
      (λ response. judge_response parties.retailer (Some s) sent.1 response (view s.gln t)) t)
      (read_act (response_of sent.0) (λ response. judge_response parties.retailer (Some s) sent.1 response (view s.gln t)) (view s.gln t))
  response_act sent t sound =
      same_reading suppliers free s known t sound (response_of sent.0) _ _ (λ response. refl)
      (λ response read changes h. keeps_from s (view s.gln t) changes
      (leads_response s parties.retailer sent.1 response (view s.gln t) changes (good_view suppliers s t sound) h))

  despatch_act : (sent : RawMessage × IncomingMessage) (t : Tables) → Sound suppliers t
      → Alike suppliers s t (read_act (despatch_of sent.0)
      (λ despatch. judge_despatch parties.retailer (Some s) (has_pallet t) sent.1 despatch (view s.gln t)) t)
      (read_act (despatch_of sent.0)
      (λ despatch. judge_despatch parties.retailer (Some s) (has_pallet (view s.gln t)) sent.1 despatch (view s.gln t))
      (view s.gln t))
  despatch_act sent t sound =
      same_reading suppliers free s known t sound (despatch_of sent.0) _ _
      (λ despatch.
      despatch_alike s (has_pallet t) (has_pallet (view s.gln t)) (used_seen suppliers free s known t sound.rooted)
      parties.retailer sent.1 despatch (view s.gln t))
      (λ despatch read changes h. keeps_from s (view s.gln t) changes
      (leads_despatch s parties.retailer (has_pallet (view s.gln t)) sent.1 despatch (view s.gln t) changes
      (good_view suppliers s t sound) h))

  order_act : (sent : RawMessage × IncomingMessage) (t : Tables) → Sound suppliers t
      → Alike suppliers s t (read_act (order_of sent.0)
      (λ order. judge_order parties.retailer (Some s) sent.1 (body_of sent.0) order (view s.gln t)) t)
      (read_act (order_of sent.0)
      (λ order. judge_order parties.retailer (Some s) sent.1 (body_of sent.0) order (view s.gln t)) (view s.gln t))
  order_act sent t sound =
      same_reading suppliers free s known t sound (order_of sent.0) _ _ (λ order. refl)
      (λ order read changes h. keeps_from s (view s.gln t) changes
      (leads_order s parties.retailer sent.1 (body_of sent.0) order (order_apart sent.0 order read) (view s.gln t)
      changes (good_view suppliers s t sound) h))

  receipt_act : (sent : RawMessage × IncomingMessage) (t : Tables) → Sound suppliers t
      → Alike suppliers s t (read_act (receipt_of sent.0)
      (λ receipt. judge_receipt parties.retailer (Some s) sent.1 (body_of sent.0) receipt (view s.gln t)) t)
      (read_act (receipt_of sent.0)
      (λ receipt. judge_receipt parties.retailer (Some s) sent.1 (body_of sent.0) receipt (view s.gln t)) (view s.gln t))
  receipt_act sent t sound =
      same_reading suppliers free s known t sound (receipt_of sent.0) _ _ (λ receipt. refl)
      (λ receipt read changes h. keeps_from s (view s.gln t) changes
      (leads_receipt s parties.retailer sent.1 (body_of sent.0) receipt (view s.gln t) changes
      (good_view suppliers s t sound) h))

  pub suppliers_act : (sent : RawMessage × IncomingMessage) (t : Tables)
      → Sound suppliers t
      → Alike suppliers s t (deliver_suppliers (view s.gln) parties s sent t)
      (deliver_suppliers (λ rows. rows) parties s sent (view s.gln t))
  suppliers_act sent t sound =
      either suppliers s t sound (same sent.0.kind (codes "ORDRSP")) _ _ _ _ (response_act sent t sound)
      (either suppliers s t sound (same sent.0.kind (codes "DESADV")) _ _ _ _ (despatch_act sent t sound)
      (nothing_done suppliers s t sound (Refused (message_faults.code_text MessageType))))

  pub retailers_act : (sent : RawMessage × IncomingMessage) (t : Tables)
      → Sound suppliers t
      → Alike suppliers s t (deliver_retailers (view s.gln) parties (Some s) sent t)
      (deliver_retailers (λ rows. rows) parties (Some s) sent (view s.gln t))
  retailers_act sent t sound =
      either suppliers s t sound (same sent.0.kind (codes "ORDERS")) _ _ _ _ (order_act sent t sound)
      (either suppliers s t sound (same sent.0.kind (codes "RECADV")) _ _ _ _ (receipt_act sent t sound)
      (nothing_done suppliers s t sound (Refused (message_faults.code_text MessageType))))

  pub cancel_act : (c : Cancel) (t : Tables)
      → Sound suppliers t
      → Alike suppliers s t (cancel (view s.gln) (Some s) c t) (cancel (λ rows. rows) (Some s) c (view s.gln t))
  cancel_act c t sound =
      same_verdict suppliers free s known t sound _ _ refl
      (λ changes h. keeps_from s (view s.gln t) changes
      (leads_cancel s (cancel_text c) c (view s.gln t) changes (good_view suppliers s t sound) h))

  -- an entry that is taken stays so, and any other is marked as taken
  pub taking_act : (number : ℕ) (entry : MailRow) (t : Tables)
      → Sound suppliers t
      → entry_at (view s.gln t) number ≡ Some entry
      → Apart suppliers s t (apply_all (taking entry) t) (apply_all (taking entry) (view s.gln t))
  taking_act number entry t sound found =
      let good = good_view suppliers s t sound in
      let whose = (all_found (λ m. m.supplier ≡ s.gln) (λ m. m.number == number) (view s.gln t).mail entry (good.own).mail found).0 in
      let row : MailRow = record entry { taken = truth_number true } in
      elim (is_taken entry) as (λ v. Apart suppliers s t (apply_all (cond v [] (SetMail row ∷ [])) t)
      (apply_all (cond v [] (SetMail row ∷ [])) (view s.gln t))) [
        | true ↦ unchanged suppliers s t sound
        | false ↦ after_changes suppliers free s known t sound (SetMail row ∷ []) (record {
          belong = (whose, tt);
          own = own_after s (view s.gln t) (SetMail row) whose good.own;
          kept = kept_set_mail (view s.gln t) row good.kept;
        })
      ]

-- a taken mark does not change the register
pub taking_keeps : (entry : MailRow) (t : Tables) → PartiesStay t (apply_all (taking entry) t)
taking_keeps entry t =
    elim (is_taken entry) as (λ v. PartiesStay t
    (apply_all (cond v [] (SetMail (record entry { taken = truth_number true }) ∷ [])) t)) [
      | true ↦ record { hubs = refl; keys = refl; prefixes = refl }
      | false ↦ record { hubs = refl; keys = refl; prefixes = refl }
    ]

either_nothing : (test : Bool) (one other : Told × Tables) (t : Tables) → one.1 ≡ t → other.1 ≡ t → (cond test one other).1 ≡ t
either_nothing true one other t first second = first
either_nothing false one other t first second = second

read_nothing : {X : Type 0} (read : Result X MessageFault) (judge : X → Verdict) (t : Tables)
    → ((x : X) → changed (judge x) t ≡ t)
    → (read_act read judge t).1 ≡ t
read_nothing (Err fault) judge t f = refl
read_nothing (Ok x) judge t f = f x

refused_anyway : (test : Bool) (first second : Code) (t : Tables) → changed (refuse_if test first (Refuse second)) t ≡ t
refused_anyway true first second t = refl
refused_anyway false first second t = refl

-- a message that names no registered supplier changes nothing
pub nobodys_message : (look : Tables → Tables) (parties : Parties) (sent : RawMessage × IncomingMessage) (t : Tables)
    → (deliver_retailers look parties None sent t).1 ≡ t
nobodys_message look parties sent t =
    either_nothing (same sent.0.kind (codes "ORDERS")) _ _ t
    (read_nothing (order_of sent.0) _ t
    (λ order. refused_anyway (is_other_buyer parties.retailer (Some order.buyer)) rules.Buyer rules.Supplier t))
    (either_nothing (same sent.0.kind (codes "RECADV")) _ _ t
    (read_nothing (receipt_of sent.0) _ t
    (λ receipt. refused_anyway (is_other_buyer parties.retailer receipt.buyer) rules.Buyer rules.Supplier t)) refl)

pub nobodys_cancellation : (look : Tables → Tables) (c : Cancel) (t : Tables) → (cancel look None c t).1 ≡ t
nobodys_cancellation look c t = refl
