-- Shows what inputs that are stopped reply and leave.
use Rattle.std.proofs.Common.{◌≡◌, ◌≢◌, ◌↔◌, ℕ, List, Bool, true, false, cond, nat_lt, [], length, Option, Some, None, Ok}
use Rattle.std.proofs.Common.{Err, refl, sym, subst, ap}
use Rattle.edi_envelope.specs.declared.interchange.RawMessage.{RawMessage}
use Rattle.hub_parties.specs.Rows.{Parties, RegisterRows, parties_of, supplier_row}
use Rattle.hub_parties.specs.declared.row.SupplierRow.{SupplierRow}
use Rattle.hub_tables.specs.Register.{register_of, row_at}
use Rattle.hub_tables.specs.Rows.{same}
use Rattle.hub_tables.specs.State.{entry_at}
use Rattle.hub_tables.specs.Tables.{Tables, view}
use Rattle.hub_tables.specs.declared.rows.MailRow.{MailRow}
use Rattle.hub_rules.specs.JoinRules.{is_join}
use Rattle.hub_rules.specs.declared.incoming.IncomingMessage.{IncomingMessage}
use Rattle.hub_law.specs.Machine.{shared_step}
use Rattle.hub_law.specs.Mark.{Mark, Whole, StoppedEmpty, StoppedBare, StoppedAfter, replied}
use Rattle.hub_law.specs.Messages.{deliver_suppliers, cancel}
use Rattle.hub_law.specs.Opening.{Opened}
use Rattle.hub_law.specs.Replies.{reply, denied, stopped, entry_reply, cut_reply}
use Rattle.hub_law.specs.Requests.{looked_at, uploaded, from_supplier, from_retailer, taken, supplier_request}
use Rattle.hub_law.specs.Requests.{deliver_named, answered, join, report, retailer_request}
use Rattle.hub_law.specs.Told.{Told, Act, in_row}
use Rattle.hub_requests.specs.declared.reply.Outcome.TheVariants.{Stopped}
use Rattle.hub_requests.specs.declared.reply.Reply.{Reply}
use Rattle.hub_requests.specs.declared.request.Input.{Input}
use Rattle.hub_requests.specs.declared.request.Request.{Request}
use Rattle.hub_requests.specs.declared.request.Request.TheVariants as requests
use Rattle.hub_law.proofs.Callers.{step_by, is_retailers, step_is}

-- one of two, by a test
either : {X : Type 0} (P : X → Type 0) (test : Bool) (one other : X) → P one → P other → P (cond test one other)
either P true one other first second = first
either P false one other first second = second

-- the reply is not that to an input that was stopped
abbrev IsWhole : Reply → Type 0
IsWhole whole = whole.outcome ≢ Stopped

entry_is_whole : (hub : List ℕ) (found : Option MailRow) → IsWhole (entry_reply hub found)
entry_is_whole hub None = λ e. cc
entry_is_whole hub (Some entry) = λ e. cc

report_is_whole : (found : Option SupplierRow) (state : Tables) → IsWhole (report found state)
report_is_whole None state = λ e. cc
report_is_whole (Some s) state = λ e. cc

-- A property of the reply and of the tables, for any request.
module _ (mark : Mark) (P : Tables → Reply × Tables → Type 0)
    (unless : (t : Tables) (whole : Reply) → IsWhole whole → P t (replied mark whole t))
    (upload : (deliver : RawMessage × IncomingMessage → Act) (moment : ℕ) (opened : Opened) (t : Tables)
    → P t (uploaded deliver moment mark opened t))
    (entry : (found : Option MailRow) (t : Tables) → P t (taken mark found t))
    (cut : (after : Told × Tables) (t : Tables) → P t (answered mark after t)) where
  of_supplier : (look : Tables → Tables) (parties : Parties) (s : SupplierRow) (moment : ℕ) (request : Request) (t : Tables)
      → P t (supplier_request look parties s moment mark request t)
  of_supplier look parties s moment (requests.Upload bytes) t =
      upload (deliver_suppliers look parties s) moment (from_supplier parties s bytes) t
  of_supplier look parties s moment (requests.MailAfter number) t = unless t _ (λ e. cc)
  of_supplier look parties s moment (requests.MailItem number) t = unless t _ (entry_is_whole parties.hub (entry_at (look t) number))
  of_supplier look parties s moment (requests.MailTaken number) t = entry (entry_at (look t) number) t
  of_supplier look parties s moment requests.Status t = unless t _ (λ e. cc)
  of_supplier look parties s moment (requests.StatusOf gln) t = unless t _ (λ e. cc)
  of_supplier look parties s moment (requests.Cancel c) t = unless t _ (λ e. cc)
  of_supplier look parties s moment (requests.Join row) t = unless t _ (λ e. cc)

  of_retailer : (register : RegisterRows) (moment : ℕ) (request : Request) (t : Tables)
      → P t (retailer_request register moment mark request t)
  of_retailer register moment (requests.Upload bytes) t =
      upload (deliver_named register) moment (from_retailer (parties_of register) bytes) t
  of_retailer register moment (requests.MailAfter number) t = unless t _ (λ e. cc)
  of_retailer register moment (requests.MailItem number) t = unless t _ (λ e. cc)
  of_retailer register moment (requests.MailTaken number) t = unless t _ (λ e. cc)
  of_retailer register moment requests.Status t = unless t _ (λ e. cc)
  of_retailer register moment (requests.StatusOf gln) t = unless t _ (report_is_whole (supplier_row register.suppliers gln) (view gln t))
  of_retailer register moment (requests.Cancel c) t = cut (cancel (view c.supplier) (supplier_row register.suppliers c.supplier) c t) t
  of_retailer register moment (requests.Join row) t =
      either (P t) (is_join row) _ _ (cut (join register row t) t) (unless t denied (λ e. cc))

  of_anybody : (register : RegisterRows) (o : Option SupplierRow) (input : Input) (t : Tables) → P t (step_by register o input mark t)
  of_anybody register (Some s) input t =
      either (P t) (same s.key input.key) _ _
      (of_supplier (view s.gln) (parties_of register) s input.moment input.request t) (unless t denied (λ e. cc))
  of_anybody register None input t =
      either (P t) (is_retailers register input) _ _ (of_retailer register input.moment input.request t) (unless t denied (λ e. cc))

module _ (t : Tables) (input : Input) where
  anybody : (mark : Mark) (P : Tables → Reply × Tables → Type 0)
      → ((t : Tables) (whole : Reply) → IsWhole whole → P t (replied mark whole t))
      → ((deliver : RawMessage × IncomingMessage → Act) (moment : ℕ) (opened : Opened) (t : Tables)
      → P t (uploaded deliver moment mark opened t))
      → ((found : Option MailRow) (t : Tables) → P t (taken mark found t))
      → ((after : Told × Tables) (t : Tables) → P t (answered mark after t)) → P t (shared_step t input mark)
  anybody mark P unless upload entry cut =
      subst (P t) (sym (step_is (register_of t) input mark t))
      (of_anybody mark P unless upload entry cut (register_of t) (row_at input.caller t) input t)

  whole : IsWhole (shared_step t input Whole).0
  whole = anybody Whole (λ t after. IsWhole after.0) (λ t reply is_whole. is_whole) upload entry (λ after t e. cc)
    where
      upload : (deliver : RawMessage × IncomingMessage → Act) (moment : ℕ) (opened : Opened) (t : Tables)
          → IsWhole (uploaded deliver moment Whole opened t).0
      upload deliver moment (Err code) t = λ e. cc
      upload deliver moment (Ok i) t = λ e. cc

      entry : (found : Option MailRow) (t : Tables) → IsWhole (taken Whole found t).0
      entry None t = λ e. cc
      entry (Some row) t = λ e. cc

  pub empty_stop : shared_step t input StoppedEmpty ≡ (reply Stopped [], t)
  empty_stop = anybody StoppedEmpty (λ t after. after ≡ (reply Stopped [], t)) (λ t whole is_whole. refl) upload entry (λ after t. refl)
    where
      upload : (deliver : RawMessage × IncomingMessage → Act) (moment : ℕ) (opened : Opened) (t : Tables)
          → uploaded deliver moment StoppedEmpty opened t ≡ (reply Stopped [], t)
      upload deliver moment (Err code) t = refl
      upload deliver moment (Ok i) t = refl

      entry : (found : Option MailRow) (t : Tables) → taken StoppedEmpty found t ≡ (reply Stopped [], t)
      entry None t = refl
      entry (Some row) t = refl

  pub bare_stop : shared_step t input StoppedBare ≡ (stopped, t)
  bare_stop = anybody StoppedBare (λ t after. after ≡ (stopped, t)) (λ t whole is_whole. refl) upload entry (λ after t. refl)
    where
      upload : (deliver : RawMessage × IncomingMessage → Act) (moment : ℕ) (opened : Opened) (t : Tables)
          → uploaded deliver moment StoppedBare opened t ≡ (stopped, t)
      upload deliver moment (Err code) t = refl
      upload deliver moment (Ok i) t = refl

      entry : (found : Option MailRow) (t : Tables) → taken StoppedBare found t ≡ (stopped, t)
      entry None t = refl
      entry (Some row) t = refl

  stop_after : (k : ℕ) → (shared_step t input (StoppedAfter k)).0.outcome ≡ Stopped
  stop_after k = anybody (StoppedAfter k) (λ t after. after.0.outcome ≡ Stopped) (λ t whole is_whole. refl) upload entry (λ after t. refl)
    where
      upload : (deliver : RawMessage × IncomingMessage → Act) (moment : ℕ) (opened : Opened) (t : Tables)
          → (uploaded deliver moment (StoppedAfter k) opened t).0.outcome ≡ Stopped
      upload deliver moment (Err code) t = refl
      upload deliver moment (Ok i) t =
          let told : List Told = (in_row deliver (looked_at moment (StoppedAfter k) (Ok i)) t).0 in
          either (λ (reply : Reply). reply.outcome ≡ Stopped) (nat_lt k (length i.messages)) (cut_reply i told) stopped refl refl

      entry : (found : Option MailRow) (t : Tables) → (taken (StoppedAfter k) found t).0.outcome ≡ Stopped
      entry None t = refl
      entry (Some row) t = refl

  pub stop_is_told : (mark : Mark) → ((shared_step t input mark).0.outcome ≡ Stopped) ↔ (mark ≢ Whole)
  stop_is_told Whole = (λ e. absurd (whole e), λ differs. absurd (differs refl))
  stop_is_told StoppedEmpty = (λ e same. cc, λ differs. ap (λ (after : Reply × Tables). after.0.outcome) empty_stop)
  stop_is_told StoppedBare = (λ e same. cc, λ differs. ap (λ (after : Reply × Tables). after.0.outcome) bare_stop)
  stop_is_told (StoppedAfter k) = (λ e same. cc, λ differs. stop_after k)
