-- Shows that what is remembered stays remembered, whatever follows.
use Rattle.std.proofs.Common.{ℕ, Bool, true, false, cond, List, [], ◌∷◌, codes, Option, Some, None, Result, Ok, Err, sym, subst}
use Rattle.edi_envelope.specs.declared.interchange.RawMessage.{RawMessage}
use Rattle.edi_messages.specs.declared.fault.MessageFault.{MessageFault}
use Rattle.edi_orders.specs.Order.{order_of}
use Rattle.edi_orders.specs.Response.{response_of}
use Rattle.edi_goods.specs.Despatch.{despatch_of}
use Rattle.edi_goods.specs.Receipt.{receipt_of}
use Rattle.hub_parties.specs.Rows.{Parties, RegisterRows, parties_of, supplier_row}
use Rattle.hub_parties.specs.declared.row.SupplierRow.{SupplierRow}
use Rattle.hub_tables.specs.Rows.{same}
use Rattle.hub_tables.specs.State.{entry_at}
use Rattle.hub_tables.specs.Register.{register_of, row_at}
use Rattle.hub_tables.specs.Tables.{Tables, view}
use Rattle.hub_tables.specs.declared.rows.MailRow.{MailRow}
use Rattle.hub_tables.specs.Sets.{Has}
use Rattle.hub_rules.specs.declared.incoming.IncomingMessage.{IncomingMessage}
use Rattle.hub_rules.specs.JoinRules.{is_join, judge_join}
use Rattle.hub_rules.specs.Rules.{judge_cancel}
use Rattle.hub_rules.specs.declared.verdict.Verdict.{Verdict}
use Rattle.hub_rules.specs.declared.verdict.Verdict.TheVariants.{Accept, Refuse}
use Rattle.hub_rules.proofs.Repeating.{has_after_all}
use Rattle.hub_law.specs.CancelText.{cancel_text}
use Rattle.hub_requests.specs.declared.reply.Reply.{Reply}
use Rattle.hub_law.specs.Machine.{Inputs, shared_step, shared_run}
use Rattle.hub_law.specs.Mark.{Mark, Whole, StoppedEmpty, StoppedBare, StoppedAfter}
use Rattle.hub_law.specs.Messages.{named, deliver_retailers, deliver_suppliers, cancel}
use Rattle.hub_law.specs.Remembered.{StaysRemembered}
use Rattle.hub_law.specs.Requests.{looked_at, from_supplier, from_retailer, taking, taken, supplier_request, deliver_named}
use Rattle.hub_law.specs.Requests.{answered, join, retailer_request}
use Rattle.hub_law.specs.Told.{Told, Act, changed, read_act, in_row}
use Rattle.hub_requests.specs.declared.request.Input.{Input}
use Rattle.hub_requests.specs.declared.request.Request.{Request}
use Rattle.hub_requests.specs.declared.request.Request.TheVariants as requests
use Rattle.hub_law.proofs.Callers.{step_by, is_retailers, step_is}

nothing_lost : (t : Tables) → StaysRemembered t t
nothing_lost t row there = there

either_stays : {X : Type 0} (test : Bool) (one other : X × Tables) (t : Tables)
    → StaysRemembered t one.1
    → StaysRemembered t other.1
    → StaysRemembered t (cond test one other).1
either_stays true one other t first second = first
either_stays false one other t first second = second

verdict_stays : (verdict : Verdict) (t : Tables) → StaysRemembered t (changed verdict t)
verdict_stays (Accept changes) t = has_after_all changes t
verdict_stays (Refuse code) t = nothing_lost t

read_stays : {X : Type 0} (read : Result X MessageFault) (judge : X → Verdict) (t : Tables) → StaysRemembered t (read_act read judge t).1
read_stays (Err fault) judge t = nothing_lost t
read_stays (Ok x) judge t = verdict_stays (judge x) t

in_row_stays : {X : Type 0} (step : X → Act)
    → ((x : X) (t : Tables) → StaysRemembered t (step x t).1)
    → (xs : List X) (t : Tables)
    → StaysRemembered t (in_row step xs t).1
in_row_stays step f [] t = nothing_lost t
in_row_stays step f (x ∷ xs) t = λ row there. in_row_stays step f xs (step x t).1 row (f x t row there)

retailers_stays : (look : Tables → Tables) (parties : Parties) (supplier : Option SupplierRow)
    (sent : RawMessage × IncomingMessage) (t : Tables)
    → StaysRemembered t (deliver_retailers look parties supplier sent t).1
retailers_stays look parties supplier sent t =
    either_stays (same sent.0.kind (codes "ORDERS")) _ _ t (read_stays (order_of sent.0) _ t)
    (either_stays (same sent.0.kind (codes "RECADV")) _ _ t (read_stays (receipt_of sent.0) _ t) (nothing_lost t))

suppliers_stays : (look : Tables → Tables) (parties : Parties) (s : SupplierRow) (sent : RawMessage × IncomingMessage)
    (t : Tables)
    → StaysRemembered t (deliver_suppliers look parties s sent t).1
suppliers_stays look parties s sent t =
    either_stays (same sent.0.kind (codes "ORDRSP")) _ _ t (read_stays (response_of sent.0) _ t)
    (either_stays (same sent.0.kind (codes "DESADV")) _ _ t (read_stays (despatch_of sent.0) _ t) (nothing_lost t))

-- the messages of an upload
pub all_retailers_stay : (register : RegisterRows) (sents : List (RawMessage × IncomingMessage)) (t : Tables)
    → StaysRemembered t (in_row (deliver_named register) sents t).1
all_retailers_stay register =
    in_row_stays (deliver_named register) (λ sent.
    retailers_stays (view (named sent.0)) (parties_of register) (supplier_row register.suppliers (named sent.0)) sent)

pub all_suppliers_stay : (look : Tables → Tables) (parties : Parties) (s : SupplierRow)
    (sents : List (RawMessage × IncomingMessage)) (t : Tables)
    → StaysRemembered t (in_row (deliver_suppliers look parties s) sents t).1
all_suppliers_stay look parties s = in_row_stays (deliver_suppliers look parties s) (suppliers_stays look parties s)

taken_stays : (mark : Mark) (entry : Option MailRow) (t : Tables) → StaysRemembered t (taken mark entry t).1
taken_stays mark None t = nothing_lost t
taken_stays Whole (Some entry) t = has_after_all (taking entry) t
taken_stays StoppedEmpty (Some entry) t = nothing_lost t
taken_stays StoppedBare (Some entry) t = nothing_lost t
taken_stays (StoppedAfter k) (Some entry) t = nothing_lost t

unless_stays : (mark : Mark) (after : Told × Tables) (t : Tables)
    → StaysRemembered t after.1
    → StaysRemembered t (answered mark after t).1
unless_stays Whole after t stays = stays
unless_stays StoppedEmpty after t stays = nothing_lost t
unless_stays StoppedBare after t stays = nothing_lost t
unless_stays (StoppedAfter k) after t stays = nothing_lost t

supplier_request_stays : (look : Tables → Tables) (parties : Parties) (s : SupplierRow) (moment : ℕ) (mark : Mark)
    (request : Request) (t : Tables)
    → StaysRemembered t (supplier_request look parties s moment mark request t).1
supplier_request_stays look parties s moment mark (requests.Upload bytes) t =
    all_suppliers_stay look parties s (looked_at moment mark (from_supplier parties s bytes)) t
supplier_request_stays look parties s moment mark (requests.MailAfter number) t = nothing_lost t
supplier_request_stays look parties s moment mark (requests.MailItem number) t = nothing_lost t
supplier_request_stays look parties s moment mark (requests.MailTaken number) t = taken_stays mark (entry_at (look t) number) t
supplier_request_stays look parties s moment mark requests.Status t = nothing_lost t
supplier_request_stays look parties s moment mark (requests.StatusOf gln) t = nothing_lost t
supplier_request_stays look parties s moment mark (requests.Cancel c) t = nothing_lost t
supplier_request_stays look parties s moment mark (requests.Join row) t = nothing_lost t

retailer_request_stays : (register : RegisterRows) (moment : ℕ) (mark : Mark) (request : Request) (t : Tables)
    → StaysRemembered t (retailer_request register moment mark request t).1
retailer_request_stays register moment mark (requests.Upload bytes) t =
    all_retailers_stay register (looked_at moment mark (from_retailer (parties_of register) bytes)) t
retailer_request_stays register moment mark (requests.MailAfter number) t = nothing_lost t
retailer_request_stays register moment mark (requests.MailItem number) t = nothing_lost t
retailer_request_stays register moment mark (requests.MailTaken number) t = nothing_lost t
retailer_request_stays register moment mark requests.Status t = nothing_lost t
retailer_request_stays register moment mark (requests.StatusOf gln) t = nothing_lost t
retailer_request_stays register moment mark (requests.Cancel c) t =
    unless_stays mark (cancel (view c.supplier) (supplier_row register.suppliers c.supplier) c t) t
    (verdict_stays (judge_cancel (supplier_row register.suppliers c.supplier) (cancel_text c) c (view c.supplier t)) t)
retailer_request_stays register moment mark (requests.Join row) t =
    either_stays (is_join row) _ _ t
    (unless_stays mark (join register row t) t (verdict_stays (judge_join register row) t)) (nothing_lost t)

step_stays : (register : RegisterRows) (s : Option SupplierRow) (input : Input) (mark : Mark) (t : Tables)
    → StaysRemembered t (step_by register s input mark t).1
step_stays register (Some s) input mark t =
    either_stays (same s.key input.key) _ _ t
    (supplier_request_stays (view s.gln) (parties_of register) s input.moment mark input.request t) (nothing_lost t)
step_stays register None input mark t =
    either_stays (is_retailers register input) _ _ t (retailer_request_stays register input.moment mark input.request t)
    (nothing_lost t)

pub run_stays : (t : Tables) (inputs : Inputs) → StaysRemembered t (shared_run t inputs).1
run_stays t [] = nothing_lost t
run_stays t ((input, mark) ∷ inputs) =
    λ row there. run_stays (shared_step t input mark).1 inputs row
    (subst (λ (after : Reply × Tables). Has after.1.remembered row) (sym (step_is (register_of t) input mark t))
    (step_stays (register_of t) (row_at input.caller t) input mark t row there))
