-- Shows that each step of the shared machine leaves clean rows.
use Rattle.std.proofs.Common.{◌≡◌, ◌≤◌, ℕ, Bool, true, false, cond, List, [], ◌∷◌, map, length, codes, Option, Some, None}
use Rattle.std.proofs.Common.{Result, Ok, Err, not, refl, sym, subst, ap, ◌∙◌, inl, inr}
use Rattle.std.specs.List.{AllByRecursion, list_any}
use Rattle.edi_envelope.specs.declared.interchange.Interchange.{Interchange}
use Rattle.edi_envelope.specs.declared.interchange.RawMessage.{RawMessage}
use Rattle.edi_envelope.specs.Opened.{opened}
use Rattle.edi_messages.specs.declared.fault.MessageFault.{MessageFault}
use Rattle.edi_moment.specs.Moment.{last_moment}
use Rattle.edi_orders.specs.Order.{order_of}
use Rattle.edi_orders.specs.Response.{response_of}
use Rattle.edi_goods.specs.Despatch.{despatch_of}
use Rattle.edi_goods.specs.Receipt.{receipt_of}
use Rattle.hub_parties.specs.Rows.{RegisterRows, IsRegister, parties_of, supplier_row}
use Rattle.hub_parties.specs.declared.row.SupplierRow.{SupplierRow}
use Rattle.hub_tables.specs.Register.{suppliers_of, register_of}
use Rattle.hub_tables.specs.Rows.{same}
use Rattle.hub_tables.specs.Sets.{Has}
use Rattle.hub_tables.specs.State.{entry_at}
use Rattle.hub_tables.specs.Tables.{Tables, view, has_pallet}
use Rattle.hub_tables.specs.declared.rows.MailRow.{MailRow}
use Rattle.hub_store.specs.Clean.{are_clean}
use Rattle.hub_rules.specs.JoinRules.{is_join}
use Rattle.hub_rules.specs.Laws.{SoundHub, SoundUnder, Registered}
use Rattle.hub_rules.specs.Rules.{judge_order, judge_receipt, judge_response, judge_despatch, judge_cancel}
use Rattle.hub_rules.specs.Sound.{Sound}
use Rattle.hub_rules.specs.declared.incoming.IncomingMessage.{IncomingMessage}
use Rattle.hub_rules.specs.declared.verdict.Verdict.{Verdict}
use Rattle.hub_rules.specs.declared.verdict.Verdict.TheVariants.{Accept, Refuse}
use Rattle.hub_rules.proofs.Prefixes.{gln_found}
use Rattle.hub_law.specs.HubRequests.declared.reply.Reply.{Reply}
use Rattle.hub_law.specs.HubRequests.declared.request.Input.{Input}
use Rattle.hub_law.specs.HubRequests.declared.request.Request.{Request}
use Rattle.hub_law.specs.HubRequests.declared.request.Request.TheVariants as requests
use Rattle.hub_law.specs.CancelText.{cancel_text}
use Rattle.hub_law.specs.Machine.{Inputs, shared_step, shared_run}
use Rattle.hub_law.specs.Mark.{Mark, Whole, StoppedEmpty, StoppedBare, StoppedAfter, acts_done, replied}
use Rattle.hub_law.specs.Messages.{incoming, messages_at, body_of, named}
use Rattle.hub_law.specs.Messages.{deliver_suppliers}
use Rattle.hub_law.specs.Opening.{Opened, told_as, interchange_in, addressed}
use Rattle.hub_law.specs.Replies.{denied}
use Rattle.hub_law.specs.Requests.{looked_at, from_supplier, from_retailer, taken, answered, join, joined, deliver_named}
use Rattle.hub_law.specs.Requests.{cancel_named, supplier_request, retailer_request}
use Rattle.hub_law.specs.Told.{Told, changed, read_act, in_row}
use Rattle.hub_law.proofs.Acts.{suppliers_act}
use Rattle.hub_law.proofs.Callers.{step_by, is_retailers, step_is}
use Rattle.hub_law.proofs.Going.{step_goes}
use Rattle.hub_law.proofs.Retailers.{message_stays}
use Rattle.hub_clean.specs.Clean.{WithinMessage, WithinRequest, WithinInput}
use Rattle.hub_clean.specs.Clean.{VerdictClean}
use Rattle.hub_clean.proofs.Bytes.{all_take}
use Rattle.hub_clean.proofs.Verdicts.{order_clean, receipt_clean, response_clean, despatch_clean, cancel_clean}
use Rattle.hub_clean.proofs.CleanVerdicts.{cleaned_join, cleaned_taken}
use Rattle.hub_clean.proofs.OpenedWithin.{opened_within}
use Rattle.hub_clean.proofs.Names.{order_names, receipt_names}

abbrev Clean : Tables → Type 0
Clean t = are_clean t ≡ true

-- Uploads that are opened.

abbrev WithinSent : RawMessage × IncomingMessage → Type 0
WithinSent sent = WithinMessage sent.0 sent.1

abbrev AllSent : ℕ → Opened → Type 0
AllSent moment (Ok i) = AllByRecursion WithinSent (messages_at moment i)
AllSent moment (Err code) = Unit {0}

each_sent : (moment : ℕ) (i : Interchange) (messages : List RawMessage)
    → ((message : RawMessage) → Has messages message → WithinMessage message (incoming moment i message))
    → AllByRecursion WithinSent (map (λ message. (message, incoming moment i message)) messages)
each_sent moment i [] f = tt
each_sent moment i (message ∷ messages) f =
    (f message (inl refl), each_sent moment i messages (λ other there. f other (inr there)))

sent_in : (moment : ℕ) (bytes : List ℕ) → moment ≤ last_moment → AllSent moment (interchange_in bytes)
unfolding interchange_in
sent_in moment bytes early =
    elim (opened bytes) as (λ r. opened bytes ≡ r → AllSent moment (told_as r)) [
      | Ok i ↦ λ e. each_sent moment i i.messages (λ message there. opened_within bytes i message moment e there early)
      | Err fault ↦ λ e. tt
    ] refl

sent_to : (moment : ℕ) (caller : List ℕ) (recipients : List (List ℕ)) (o : Opened) → AllSent moment o
    → AllSent moment (addressed caller recipients o)
sent_to moment caller recipients (Err code) all = tt
sent_to moment caller recipients (Ok i) all =
    elim (not (same i.head.sender caller)) as (λ v. AllSent moment (cond v (Err (codes "E08"))
    (cond (list_any (same i.head.recipient) recipients) (Ok i) (Err (codes "E09"))))) [
      | true ↦ tt
      | false ↦ elim (list_any (same i.head.recipient) recipients) as (λ v. AllSent moment (cond v (Ok i) (Err (codes "E09"))))
          [ true ↦ all | false ↦ tt ]
    ]

sent_looked_at : (moment : ℕ) (mark : Mark) (o : Opened) → AllSent moment o → AllByRecursion WithinSent (looked_at moment mark o)
sent_looked_at moment mark (Err code) all = tt
sent_looked_at moment mark (Ok i) all = all_take WithinSent (acts_done mark (length i.messages)) (messages_at moment i) all

-- Acts.

after_verdict : (verdict : Verdict) (t : Tables) → Clean t → VerdictClean verdict t → Clean (changed verdict t)
after_verdict (Accept changes) t clean fine = fine.1
after_verdict (Refuse code) t clean fine = clean

after_read : {X : Type 0} (read : Result X MessageFault) (judge : X → Verdict) (t : Tables)
    → Clean t
    → ((x : X) → read ≡ Ok x → VerdictClean (judge x) t)
    → Clean (read_act read judge t).1
after_read (Ok x) judge t clean f = after_verdict (judge x) t clean (f x refl)
after_read (Err fault) judge t clean f = clean

either_clean : (test : Bool) (one other : Told × Tables) → Clean one.1 → Clean other.1 → Clean (cond test one other).1
either_clean true one other first second = first
either_clean false one other first second = second

either_replies : (test : Bool) (one other : Reply × Tables) → Clean one.1 → Clean other.1 → Clean (cond test one other).1
either_replies true one other first second = first
either_replies false one other first second = second

module _ (register : RegisterRows) (right : IsRegister register) where
  retailers_clean : (sent : RawMessage × IncomingMessage) (t : Tables)
      → WithinSent sent
      → Sound register.suppliers t
      → Clean t
      → Clean (deliver_named register sent t).1
  retailers_clean (message, came) t within sound clean =
      let here : SoundUnder register.suppliers t = record { free = right.prefixes_free; sound = sound } in
      let who = named message in
      either_clean (same message.kind (codes "ORDERS")) _ _
      (after_read (order_of message)
      (λ order. judge_order register.retailer (supplier_row register.suppliers who) came (body_of message) order (view who t)) t
      clean (λ order read.
      subst (λ n. VerdictClean (judge_order register.retailer (supplier_row register.suppliers n) came (body_of message) order
      (view n t)) t) (sym (order_names message order read))
      (order_clean register right t clean message came within order read here)))
      (either_clean (same message.kind (codes "RECADV")) _ _
      (after_read (receipt_of message)
      (λ receipt. judge_receipt register.retailer (supplier_row register.suppliers who) came (body_of message) receipt (view who t))
      t clean (λ receipt read.
      subst (λ n. VerdictClean (judge_receipt register.retailer (supplier_row register.suppliers n) came (body_of message) receipt
      (view n t)) t) (sym (receipt_names message receipt read))
      (receipt_clean register right t clean message came within receipt read here)))
      clean)

  all_retailers_clean : (sents : List (RawMessage × IncomingMessage)) (t : Tables)
      → AllByRecursion WithinSent sents
      → Sound register.suppliers t
      → Clean t
      → Clean (in_row (deliver_named register) sents t).1
  all_retailers_clean [] t all sound clean = clean
  all_retailers_clean (sent ∷ sents) t all sound clean =
      all_retailers_clean sents (deliver_named register sent t).1 all.1
      (message_stays register right.prefixes_free sent t sound).sound
      (retailers_clean sent t all.0 sound clean)

  module _ (s : SupplierRow) (known : supplier_row register.suppliers s.gln ≡ Some s) where
    suppliers_clean : (sent : RawMessage × IncomingMessage) (t : Tables)
        → WithinSent sent
        → Sound register.suppliers t
        → Clean t
        → Clean (deliver_suppliers (view s.gln) (parties_of register) s sent t).1
    suppliers_clean (message, came) t within sound clean =
        let here : Registered register.suppliers s t = record { free = right.prefixes_free; known = known; sound = sound } in
        either_clean (same message.kind (codes "ORDRSP")) _ _
        (after_read (response_of message)
        (λ response. judge_response register.retailer (Some s) came response (view s.gln t)) t clean
        (λ response read. response_clean register right t clean message came within s here response))
        (either_clean (same message.kind (codes "DESADV")) _ _
        (after_read (despatch_of message)
        (λ despatch. judge_despatch register.retailer (Some s) (has_pallet t) came despatch (view s.gln t)) t clean
        (λ despatch read. despatch_clean register right t clean message came within s here despatch read))
        clean)

    all_suppliers_clean : (sents : List (RawMessage × IncomingMessage)) (t : Tables)
        → AllByRecursion WithinSent sents
        → Sound register.suppliers t
        → Clean t
        → Clean (in_row (deliver_suppliers (view s.gln) (parties_of register) s) sents t).1
    all_suppliers_clean [] t all sound clean = clean
    all_suppliers_clean (sent ∷ sents) t all sound clean =
        all_suppliers_clean sents (deliver_suppliers (view s.gln) (parties_of register) s sent t).1 all.1
        (suppliers_act register.suppliers right.prefixes_free (parties_of register) s known sent t sound).apart.sound
        (suppliers_clean sent t all.0 sound clean)

-- Requests.

unless_clean : (mark : Mark) (after : Told × Tables) (t : Tables) → Clean t → Clean after.1 → Clean (answered mark after t).1
unless_clean Whole after t clean then = then
unless_clean StoppedEmpty after t clean then = clean
unless_clean StoppedBare after t clean then = clean
unless_clean (StoppedAfter k) after t clean then = clean

taken_clean : (mark : Mark) (gln : List ℕ) (number : ℕ) (t : Tables) (entry : Option MailRow)
    → entry_at (view gln t) number ≡ entry
    → Clean t
    → Clean (taken mark entry t).1
taken_clean mark gln number t None e clean = clean
taken_clean Whole gln number t (Some entry) e clean = cleaned_taken gln number t entry clean e
taken_clean StoppedEmpty gln number t (Some entry) e clean = clean
taken_clean StoppedBare gln number t (Some entry) e clean = clean
taken_clean (StoppedAfter k) gln number t (Some entry) e clean = clean

module _ (t : Tables) (here : SoundHub t) (clean : Clean t) (moment : ℕ) (early : moment ≤ last_moment) (mark : Mark) where
  abbrev R : RegisterRows
  R = register_of t

  joined_clean : (row : SupplierRow) → Clean (joined R mark row t).1
  joined_clean row = elim (is_join row) as (λ v. is_join row ≡ v
      → Clean (cond v (answered mark (join R row t) t) (replied mark denied t)).1) [
        | true ↦ λ may. unless_clean mark (join R row t) t clean (cleaned_join R row t may clean)
        | false ↦ λ never. clean
      ] refl

  retailer_clean : (request : Request) → WithinRequest request → Clean (retailer_request R moment mark request t).1
  retailer_clean (requests.Upload bytes) within =
      let opened = from_retailer (parties_of R) bytes in
      all_retailers_clean R here.register.right (looked_at moment mark opened) t
      (sent_looked_at moment mark opened (sent_to moment R.retailer (R.hub ∷ []) (interchange_in bytes) (sent_in moment bytes early)))
      here.sound clean
  retailer_clean (requests.Cancel c) within =
      unless_clean mark (cancel_named R c t) t clean
      (after_verdict (judge_cancel (supplier_row R.suppliers c.supplier) (cancel_text c) c (view c.supplier t)) t clean
      (cancel_clean R t c here.register.right (record { free = here.register.right.prefixes_free; sound = here.sound }) within clean))
  retailer_clean (requests.Join row) within = joined_clean row
  retailer_clean (requests.MailAfter number) within = clean
  retailer_clean (requests.MailItem number) within = clean
  retailer_clean (requests.MailTaken number) within = clean
  retailer_clean requests.Status within = clean
  retailer_clean (requests.StatusOf gln) within = clean

  supplier_clean : (s : SupplierRow) → supplier_row R.suppliers s.gln ≡ Some s → (request : Request)
      → Clean (supplier_request (view s.gln) (parties_of R) s moment mark request t).1
  supplier_clean s known (requests.Upload bytes) =
      let opened = from_supplier (parties_of R) s bytes in
      all_suppliers_clean R here.register.right s known (looked_at moment mark opened) t
      (sent_looked_at moment mark opened
      (sent_to moment s.gln (R.hub ∷ R.retailer ∷ []) (interchange_in bytes) (sent_in moment bytes early))) here.sound clean
  supplier_clean s known (requests.MailTaken number) = taken_clean mark s.gln number t (entry_at (view s.gln t) number) refl clean
  supplier_clean s known (requests.Cancel c) = clean
  supplier_clean s known (requests.Join row) = clean
  supplier_clean s known (requests.MailAfter number) = clean
  supplier_clean s known (requests.MailItem number) = clean
  supplier_clean s known requests.Status = clean
  supplier_clean s known (requests.StatusOf gln) = clean

-- Steps and runs.

step_clean_by : (t : Tables) → SoundHub t → Clean t → (input : Input) → WithinInput input → (mark : Mark)
    → (o : Option SupplierRow)
    → supplier_row (suppliers_of t) input.caller ≡ o
    → Clean (step_by (register_of t) o input mark t).1
step_clean_by t here clean input within mark (Some s) h =
    let whose = gln_found (suppliers_of t) input.caller s h in
    either_replies (same s.key input.key) _ _
    (supplier_clean t here clean input.moment within.moment mark s (ap (supplier_row (suppliers_of t)) whose ∙ h) input.request)
    clean
step_clean_by t here clean input within mark None h =
    either_replies (is_retailers (register_of t) input) _ _
    (retailer_clean t here clean input.moment within.moment mark input.request within.request) clean

pub step_clean : (t : Tables) (input : Input) (mark : Mark)
    → SoundHub t
    → are_clean t ≡ true
    → WithinInput input
    → are_clean (shared_step t input mark).1 ≡ true
step_clean t input mark here clean within =
    subst (λ (after : Reply × Tables). Clean after.1) (sym (step_is (register_of t) input mark t))
    (step_clean_by t here clean input within mark (supplier_row (suppliers_of t) input.caller) refl)

pub run_clean : (inputs : Inputs) (t : Tables)
    → SoundHub t
    → are_clean t ≡ true
    → AllByRecursion (λ (marked : Input × Mark). WithinInput marked.0) inputs
    → are_clean (shared_run t inputs).1 ≡ true
run_clean [] t here clean all = clean
run_clean ((input, mark) ∷ inputs) t here clean all =
    run_clean inputs (shared_step t input mark).1 (step_goes t here input mark).sound
    (step_clean t input mark here clean all.0) all.1
