-- Shows what whole uploads reply and leave, and those that are stopped after some of their messages.
use Rattle.std.proofs.Common.{◌≡◌, ℕ, zero, suc, ◌<◌, ◌≤◌, nat_lt, Bool, true, false, if◌then◌else◌, List, [], ◌∷◌, ◌++◌, length}
use Rattle.std.proofs.Common.{take, Option, Some, None, Ok, Err, refl, sym, ◌∙◌, ap, subst, arith}
use Rattle.std.specs.List.{list_any}
use Rattle.std.proofs.lemmas.List.{length-map, take_all}
use Rattle.std.proofs.lemmas.Bool.Decides.{nat_tests}
use Rattle.std.proofs.lemmas.Bool.{lt-ltb}
use Rattle.edi_envelope.specs.declared.interchange.Interchange.{Interchange}
use Rattle.edi_envelope.specs.declared.interchange.RawMessage.{RawMessage}
use Rattle.hub_parties.specs.Rows.{RegisterRows, parties_of, row_of, role_of}
use Rattle.hub_parties.specs.declared.role.Role.{Role}
use Rattle.hub_parties.specs.declared.role.Role.TheVariants.{Retailer, Supplier}
use Rattle.hub_parties.specs.declared.row.SupplierRow.{SupplierRow}
use Rattle.hub_tables.specs.State.{entry_at}
use Rattle.hub_tables.specs.Tables.{Tables, view}
use Rattle.hub_tables.specs.declared.rows.MailRow.{MailRow}
use Rattle.hub_rules.specs.JoinRules.{is_join}
use Rattle.hub_rules.specs.declared.incoming.IncomingMessage.{IncomingMessage}
use Rattle.hub_law.specs.Machine.{step_under, step_as}
use Rattle.hub_law.specs.Mark.{Mark, Whole, StoppedAfter, replied}
use Rattle.hub_law.specs.Messages.{incoming, messages_at, deliver_suppliers}
use Rattle.hub_law.specs.Opening.{Opened}
use Rattle.hub_law.specs.Replies.{denied, told_words, interchange_line, message_lines, stopped_line, stopped, whole_reply, cut_reply}
use Rattle.hub_law.specs.Requests.{uploaded, from_supplier, from_retailer, supplier_request}
use Rattle.hub_law.specs.Requests.{retailer_request, deliver_named, taken, answered, join}
use Rattle.hub_law.specs.Stops.{Upload, opened_for, upload_from, upload_by, upload_of, all_acts, first_acts, reply_behind}
use Rattle.hub_law.specs.Told.{Told, Act, is_refused, in_row}
use Rattle.hub_law.specs.Widths.{line}
use Rattle.hub_requests.specs.declared.reply.Outcome.TheVariants.{Stopped}
use Rattle.hub_requests.specs.declared.reply.Reply.{Reply}
use Rattle.hub_requests.specs.declared.request.Input.{Input}
use Rattle.hub_requests.specs.declared.request.Request.{Request}
use Rattle.hub_requests.specs.declared.request.Request.TheVariants as requests

-- the results of the first acts are the first results
told_first : {X : Type 0} (step : X → Act) (k : ℕ) (xs : List X) (t : Tables) → (in_row step (take k xs) t).0 ≡ take k (in_row step xs t).0
told_first step zero xs t = refl
told_first step (suc k) [] t = refl
told_first step (suc k) (x ∷ xs) t = ap (λ told. (step x t).0 ∷ told) (told_first step k xs (step x t).1)

-- and equally many lines are written
lines_first : (k : ℕ) (messages : List RawMessage) (told : List Told)
    → message_lines messages (take k told) ≡ message_lines (take k messages) (take k told)
lines_first zero [] told = refl
lines_first zero (message ∷ messages) told = refl
lines_first (suc k) [] told = refl
lines_first (suc k) (message ∷ messages) [] = refl
lines_first (suc k) (message ∷ messages) (one ∷ told) =
    ap (λ rest. line (message.reference ∷ message.kind ∷ told_words one) ++ rest) (lines_first k messages told)

-- an upload that opens, whatever its act
abbrev opened_well : Opened → Option Interchange
opened_well (Ok i) = Some i
opened_well (Err code) = None

pub well_opened : (act : RawMessage × IncomingMessage → Act) (opened : Opened) (upload : Upload) → opened_for act opened ≡ Some upload
    → (opened_well opened ≡ Some upload.interchange) × (upload.act ≡ act)
well_opened act (Err code) upload h = cc
well_opened act (Ok i) upload h =
    let same : record { interchange = i; act = act } ≡ upload = cc in
    (ap (λ (u : Upload). Some u.interchange) same, ap (λ (u : Upload). u.act) (sym same))

-- as many messages as there are, that is, all
pub all_messages : (moment : ℕ) (i : Interchange) → take (length i.messages) (messages_at moment i) ≡ messages_at moment i
all_messages moment i =
    let sent : RawMessage → RawMessage × IncomingMessage = λ message. (message, incoming moment i message) in
    take_all (length i.messages) (messages_at moment i) (omega (arith, length-map i.messages sent))

module _ (deliver : RawMessage × IncomingMessage → Act) (moment : ℕ) (t : Tables) where
  abbrev told_of : Interchange → List Told
  told_of i = (in_row deliver (messages_at moment i) t).0

  upload_whole : (opened : Opened) (i : Interchange)
      → opened_well opened ≡ Some i
      → uploaded deliver moment Whole opened t ≡ (whole_reply i (told_of i), (in_row deliver (messages_at moment i) t).1)
  upload_whole (Err code) i h = cc
  upload_whole (Ok j) i h =
      let same : j ≡ i = cc in
      subst
      (λ i. uploaded deliver moment Whole (Ok j) t ≡ (whole_reply i (told_of i), (in_row deliver (messages_at moment i) t).1))
      same (ap (λ sents. (whole_reply j (in_row deliver sents t).0, (in_row deliver sents t).1)) (all_messages moment j))

  -- the reply if only the first k messages have results
  abbrev cut : ℕ → Interchange → List Told → Tables → Reply × Tables
  cut k i told after = (cut_reply i told, after)

  cut_behind : (k : ℕ) (i : Interchange)
      → cut k i (in_row deliver (take k (messages_at moment i)) t).0 (in_row deliver (take k (messages_at moment i)) t).1
      ≡ (reply_behind k i (told_of i), (in_row deliver (take k (messages_at moment i)) t).1)
  cut_behind k i =
      ap (λ told. cut k i told (in_row deliver (take k (messages_at moment i)) t).1) (told_first deliver k (messages_at moment i) t)
      ∙ ap (λ lines. (
        record {
          outcome = Stopped;
          refused = list_any is_refused (take k (told_of i));
          body = (interchange_line i ++ lines) ++ stopped_line;
        },
        (in_row deliver (take k (messages_at moment i)) t).1,
      )) (lines_first k i.messages (told_of i))

  -- depending on whether there are more messages than those after which it was stopped
  abbrev by_stop : Bool → ℕ → Interchange → Reply × Tables
  by_stop more k i =
      let after : List Told × Tables = in_row deliver (take (if more then k else 0) (messages_at moment i)) t in
      (if more then cut_reply i after.0 else stopped, after.1)

  upload_behind : (k : ℕ) (opened : Opened) (i : Interchange)
      → opened_well opened ≡ Some i
      → k < length i.messages
      → uploaded deliver moment (StoppedAfter k) opened t
      ≡ (reply_behind k i (told_of i), (in_row deliver (take k (messages_at moment i)) t).1)
  upload_behind k (Err code) i h less = cc
  upload_behind k (Ok j) i h less =
      let same : i ≡ j = cc in
      let more : nat_lt k (length j.messages) ≡ true =
      subst (λ (i : Interchange). nat_lt k (length i.messages) ≡ true) same (lt-ltb k (length i.messages) less) in
      subst (λ i. uploaded deliver moment (StoppedAfter k) (Ok j) t
      ≡ (reply_behind k i (told_of i), (in_row deliver (take k (messages_at moment i)) t).1)) (sym same)
      (ap (λ more. by_stop more k j) more ∙ cut_behind k j)

  upload_too_far : (k : ℕ) (opened : Opened) (i : Interchange)
      → opened_well opened ≡ Some i
      → length i.messages ≤ k
      → uploaded deliver moment (StoppedAfter k) opened t ≡ (stopped, t)
  upload_too_far k (Err code) i h most = cc
  upload_too_far k (Ok j) i h most =
      let same : i ≡ j = cc in
      ap (λ more. by_stop more k j)
      (subst (λ (i : Interchange). nat_lt k (length i.messages) ≡ false) same (no_less k (length i.messages) most))
    where
      no_less : (a b : ℕ) → b ≤ a → nat_lt a b ≡ false
      no_less a b h = grind (arith, nat_tests)

  upload_none : (k : ℕ) (opened : Opened)
      → opened_for deliver opened ≡ None
      → uploaded deliver moment (StoppedAfter k) opened t ≡ (stopped, t)
  upload_none k (Err code) h = refl
  upload_none k (Ok j) h = cc

-- What holds for an upload whose messages are handled holds whoever sends it.
module _ (register : RegisterRows) (t : Tables) (mark : Mark) (P : Interchange → Type 0)
    (after : (RawMessage × IncomingMessage → Act) → ℕ → Interchange → Reply × Tables)
    (of_upload : (deliver : RawMessage × IncomingMessage → Act) (moment : ℕ) (opened : Opened) (i : Interchange)
    → opened_well opened ≡ Some i
    → P i
    → uploaded deliver moment mark opened t ≡ after deliver moment i) where
  of_opened : (deliver : RawMessage × IncomingMessage → Act) (moment : ℕ) (opened : Opened) (upload : Upload)
      → opened_for deliver opened ≡ Some upload
      → P upload.interchange
      → uploaded deliver moment mark opened t ≡ after upload.act moment upload.interchange
  of_opened deliver moment opened upload h p =
      let well = well_opened deliver opened upload h in
      subst (λ act. uploaded deliver moment mark opened t ≡ after act moment upload.interchange) (sym well.1)
      (of_upload deliver moment opened upload.interchange well.0 p)

  suppliers : (s : SupplierRow) (moment : ℕ) (request : Request) (upload : Upload)
      → upload_from (from_supplier (parties_of register) s) (deliver_suppliers (view s.gln) (parties_of register) s) request ≡ Some upload
      → P upload.interchange
      → supplier_request (view s.gln) (parties_of register) s moment mark request t ≡ after upload.act moment upload.interchange
  suppliers s moment (requests.Upload bytes) upload h p =
      of_opened (deliver_suppliers (view s.gln) (parties_of register) s) moment (from_supplier (parties_of register) s bytes) upload h p
  suppliers s moment (requests.MailAfter number) upload h p = cc
  suppliers s moment (requests.MailItem number) upload h p = cc
  suppliers s moment (requests.MailTaken number) upload h p = cc
  suppliers s moment requests.Status upload h p = cc
  suppliers s moment (requests.StatusOf gln) upload h p = cc
  suppliers s moment (requests.Cancel c) upload h p = cc
  suppliers s moment (requests.Join row) upload h p = cc

  retailers : (moment : ℕ) (request : Request) (upload : Upload)
      → upload_from (from_retailer (parties_of register)) (deliver_named register) request ≡ Some upload
      → P upload.interchange
      → retailer_request register moment mark request t ≡ after upload.act moment upload.interchange
  retailers moment (requests.Upload bytes) upload h p =
      of_opened (deliver_named register) moment (from_retailer (parties_of register) bytes) upload h p
  retailers moment (requests.MailAfter number) upload h p = cc
  retailers moment (requests.MailItem number) upload h p = cc
  retailers moment (requests.MailTaken number) upload h p = cc
  retailers moment requests.Status upload h p = cc
  retailers moment (requests.StatusOf gln) upload h p = cc
  retailers moment (requests.Cancel c) upload h p = cc
  retailers moment (requests.Join row) upload h p = cc

  by_role : (role : Option Role) (row : Option SupplierRow) (input : Input) (upload : Upload)
      → upload_by register role row input.request ≡ Some upload
      → P upload.interchange
      → step_as register role row input mark t ≡ after upload.act input.moment upload.interchange
  by_role (Some Supplier) (Some s) input upload h p = suppliers s input.moment input.request upload h p
  by_role (Some Supplier) None input upload h p = cc
  by_role (Some Retailer) row input upload h p = retailers input.moment input.request upload h p
  by_role None row input upload h p = cc

  pub by_anybody : (input : Input) (upload : Upload)
      → upload_of register input ≡ Some upload
      → P upload.interchange
      → step_under register t input mark ≡ after upload.act input.moment upload.interchange
  by_anybody input upload h p =
      by_role (role_of register input.caller input.key) (row_of register input.caller) input upload h p

-- Any other input is stopped before anything was done.
module _ (register : RegisterRows) (t : Tables) (k : ℕ) where
  suppliers_none : (s : SupplierRow) (moment : ℕ) (request : Request)
      → upload_from (from_supplier (parties_of register) s) (deliver_suppliers (view s.gln) (parties_of register) s) request
      ≡ None
      → supplier_request (view s.gln) (parties_of register) s moment (StoppedAfter k) request t ≡ (stopped, t)
  suppliers_none s moment (requests.Upload bytes) h =
      upload_none (deliver_suppliers (view s.gln) (parties_of register) s) moment t k
      (from_supplier (parties_of register) s bytes) h
  suppliers_none s moment (requests.MailAfter number) h = refl
  suppliers_none s moment (requests.MailItem number) h = refl
  suppliers_none s moment (requests.MailTaken number) h = entry (entry_at (view s.gln t) number)
    where
      entry : (found : Option MailRow) → taken (StoppedAfter k) found t ≡ (stopped, t)
      entry None = refl
      entry (Some row) = refl
  suppliers_none s moment requests.Status h = refl
  suppliers_none s moment (requests.StatusOf gln) h = refl
  suppliers_none s moment (requests.Cancel c) h = refl
  suppliers_none s moment (requests.Join row) h = refl

  retailers_none : (moment : ℕ) (request : Request)
      → upload_from (from_retailer (parties_of register)) (deliver_named register) request ≡ None
      → retailer_request register moment (StoppedAfter k) request t ≡ (stopped, t)
  retailers_none moment (requests.Upload bytes) h =
      upload_none (deliver_named register) moment t k (from_retailer (parties_of register) bytes) h
  retailers_none moment (requests.MailAfter number) h = refl
  retailers_none moment (requests.MailItem number) h = refl
  retailers_none moment (requests.MailTaken number) h = refl
  retailers_none moment requests.Status h = refl
  retailers_none moment (requests.StatusOf gln) h = refl
  retailers_none moment (requests.Cancel c) h = refl
  retailers_none moment (requests.Join row) h =
      elim (is_join row) as (λ v. (if v then answered (StoppedAfter k) (join register row t) t else replied (StoppedAfter k) denied t)
      ≡ (stopped, t)) [ true ↦ refl | false ↦ refl ]

  none_by_role : (role : Option Role) (row : Option SupplierRow) (input : Input)
      → upload_by register role row input.request ≡ None
      → step_as register role row input (StoppedAfter k) t ≡ (stopped, t)
  none_by_role (Some Supplier) (Some s) input h = suppliers_none s input.moment input.request h
  none_by_role (Some Supplier) None input h = refl
  none_by_role (Some Retailer) row input h = retailers_none input.moment input.request h
  none_by_role None row input h = refl

  pub no_upload : (input : Input) → upload_of register input ≡ None → step_under register t input (StoppedAfter k) ≡ (stopped, t)
  no_upload input h = none_by_role (role_of register input.caller input.key) (row_of register input.caller) input h

pub whole_upload : (register : RegisterRows) (t : Tables) (input : Input) (upload : Upload)
    → upload_of register input ≡ Some upload
    → step_under register t input Whole
    ≡ (whole_reply upload.interchange (all_acts upload input.moment t).0, (all_acts upload input.moment t).1)
whole_upload register t input upload h =
    by_anybody register t Whole (λ i. Unit {0})
    (λ deliver moment i. (whole_reply i (in_row deliver (messages_at moment i) t).0, (in_row deliver (messages_at moment i) t).1))
    (λ deliver moment opened i there _. upload_whole deliver moment t opened i there)
    input upload h tt

pub behind_some : (register : RegisterRows) (t : Tables) (input : Input) (k : ℕ) (upload : Upload)
    → upload_of register input ≡ Some upload
    → k < length upload.interchange.messages
    → step_under register t input (StoppedAfter k)
    ≡ (reply_behind k upload.interchange (all_acts upload input.moment t).0, (first_acts k upload input.moment t).1)
behind_some register t input k upload h less =
    by_anybody register t (StoppedAfter k) (λ (i : Interchange). k < length i.messages)
    (λ deliver moment i.
    (reply_behind k i (in_row deliver (messages_at moment i) t).0, (in_row deliver (take k (messages_at moment i)) t).1))
    (λ deliver moment opened i there p. upload_behind deliver moment t k opened i there p)
    input upload h less

pub too_far_behind : (register : RegisterRows) (t : Tables) (input : Input) (k : ℕ) (upload : Upload)
    → upload_of register input ≡ Some upload
    → length upload.interchange.messages ≤ k
    → step_under register t input (StoppedAfter k) ≡ (stopped, t)
too_far_behind register t input k upload h most =
    by_anybody register t (StoppedAfter k) (λ (i : Interchange). length i.messages ≤ k)
    (λ deliver moment i. (stopped, t))
    (λ deliver moment opened i there p. upload_too_far deliver moment t k opened i there p)
    input upload h most
