-- Defines what each request does and replies. Each sees the tables through `look` but changes the tables themselves.
use Rattle.std.specs.Prelude.{ℕ, true, List, [], ◌∷◌, length, take, if◌then◌else◌, Option, Some, None, Ok, Err, codes}
use Rattle.std.specs.Option.{unwrap_or}
use Rattle.edi_envelope.specs.declared.interchange.RawMessage.{RawMessage}
use Rattle.hub_parties.specs.Rows.{Parties, RegisterRows, parties_of, supplier_row}
use Rattle.hub_parties.specs.declared.row.SupplierRow.{SupplierRow}
use Rattle.hub_tables.specs.Cases.{truth_number}
use Rattle.hub_tables.specs.Change.{apply_all}
use Rattle.hub_tables.specs.State.{entry_at, is_taken, untaken_after}
use Rattle.hub_tables.specs.Tables.{Tables, view}
use Rattle.hub_tables.specs.declared.change.Change.{Change}
use Rattle.hub_tables.specs.declared.change.Change.TheVariants.{SetMail}
use Rattle.hub_tables.specs.declared.rows.MailRow.{MailRow}
use Rattle.hub_rules.specs.declared.incoming.IncomingMessage.{IncomingMessage}
use Rattle.hub_rules.specs.JoinRules.{is_join, judge_join}
use Rattle.hub_rules.specs.declared.cancel.Cancel.{Cancel}
use Rattle.hub_law.specs.MailText.{list_text}
use Rattle.hub_law.specs.Mark.{Mark, stop_reply, is_cut, acts_done, replied, unless_stopped}
use Rattle.hub_law.specs.Messages.{messages_at, named, deliver_retailers, deliver_suppliers, cancel}
use Rattle.hub_law.specs.Opening.{Opened, interchange_in, addressed}
use Rattle.hub_law.specs.Replies.{done, denied, unknown, refused_reply, whole_reply, cut_reply, act_reply}
use Rattle.hub_law.specs.Replies.{entry_reply}
use Rattle.hub_law.specs.StatusText.{status_text}
use Rattle.hub_law.specs.Told.{Told, Act, act, in_row}
use Rattle.hub_law.specs.Widths.{line}
use Rattle.hub_requests.specs.declared.reply.Reply.{Reply}
use Rattle.hub_requests.specs.declared.request.Request.{Request}
use Rattle.hub_requests.specs.declared.request.Request.TheVariants as requests

-- Uploads.

-- the messages that are handled: those whose acts were done
abbrev pub looked_at : ℕ → Mark → Opened → List (RawMessage × IncomingMessage)
looked_at moment mark (Err code) = []
looked_at moment mark (Ok i) = take (acts_done mark (length i.messages)) (messages_at moment i)

-- the reply to an upload, from the results of its messages
abbrev pub upload_reply : Mark → Opened → List Told → Reply
upload_reply mark (Err code) told = unwrap_or (stop_reply mark) (refused_reply code)
upload_reply mark (Ok i) told =
    if is_cut mark (length i.messages) then cut_reply i told
    else unwrap_or (stop_reply mark) (whole_reply i told)

-- turns the result into a reply
abbrev pub replied_by : {X : Type 0} → (X → Reply) → X × Tables → Reply × Tables
replied_by words after = (words after.0, after.1)

-- each message that is handled is one act
abbrev pub uploaded : (RawMessage × IncomingMessage → Act) → ℕ → Mark → Opened → Tables → Reply × Tables
uploaded deliver moment mark upload t =
    replied_by (upload_reply mark upload) (in_row deliver (looked_at moment mark upload) t)

-- a supplier sends to the hub or to the retailer; the retailer sends to the hub
abbrev pub from_supplier : Parties → SupplierRow → List ℕ → Opened
from_supplier parties s bytes = addressed s.gln (parties.hub ∷ parties.retailer ∷ []) (interchange_in bytes)

abbrev pub from_retailer : Parties → List ℕ → Opened
from_retailer parties bytes = addressed parties.retailer (parties.hub ∷ []) (interchange_in bytes)

-- Marking an entry as taken. An entry that is taken stays so.
abbrev pub taking : MailRow → List Change
taking entry = if is_taken entry then [] else SetMail (record entry { taken = truth_number true }) ∷ []

abbrev pub taken : Mark → Option MailRow → Tables → Reply × Tables
taken mark None t = replied mark unknown t
taken mark (Some entry) t = unless_stopped mark (done (line (codes "taken" ∷ [])), apply_all (taking entry) t) t

-- A supplier's requests.
abbrev pub supplier_request : (Tables → Tables) → Parties → SupplierRow → ℕ → Mark → Request → Tables → Reply × Tables
supplier_request look parties s moment mark (requests.Upload bytes) t =
    uploaded (deliver_suppliers look parties s) moment mark (from_supplier parties s bytes) t
supplier_request look parties s moment mark (requests.MailAfter number) t =
    replied mark (done (list_text (untaken_after (look t) number))) t
supplier_request look parties s moment mark (requests.MailItem number) t =
    replied mark (entry_reply parties.hub (entry_at (look t) number)) t
supplier_request look parties s moment mark (requests.MailTaken number) t = taken mark (entry_at (look t) number) t
supplier_request look parties s moment mark requests.Status t = replied mark (done (status_text (look t))) t
supplier_request look parties s moment mark (requests.StatusOf gln) t = replied mark denied t
supplier_request look parties s moment mark (requests.Cancel cancellation) t = replied mark denied t
supplier_request look parties s moment mark (requests.Join row) t = replied mark denied t

-- The retailer's requests. A message, a cancellation and a report see the rows of the supplier that they name.
abbrev pub deliver_named : RegisterRows → RawMessage × IncomingMessage → Act
deliver_named register (message, incoming) =
    deliver_retailers (view (named message)) (parties_of register) (supplier_row register.suppliers (named message))
    (message, incoming)

abbrev pub cancel_named : RegisterRows → Cancel → Act
cancel_named register c = cancel (view c.supplier) (supplier_row register.suppliers c.supplier) c

-- one act, with its result as the reply
abbrev pub answered : Mark → Told × Tables → Tables → Reply × Tables
answered mark after t = unless_stopped mark (replied_by act_reply after) t

-- A supplier joins: if the register accepts it, its rows are added.
abbrev pub join : RegisterRows → SupplierRow → Act
join register row = act (judge_join register row)

-- a row that no supplier can have is denied; no call passes such a row
abbrev pub joined : RegisterRows → Mark → SupplierRow → Tables → Reply × Tables
joined register mark row t =
    if is_join row then answered mark (join register row t) t
    else replied mark denied t

abbrev pub report : Option SupplierRow → Tables → Reply
report None state = unknown
report (Some s) state = done (status_text state)

abbrev pub retailer_request : RegisterRows → ℕ → Mark → Request → Tables → Reply × Tables
retailer_request register moment mark (requests.Upload bytes) t =
    uploaded (deliver_named register) moment mark (from_retailer (parties_of register) bytes) t
retailer_request register moment mark (requests.MailAfter number) t = replied mark denied t
retailer_request register moment mark (requests.MailItem number) t = replied mark denied t
retailer_request register moment mark (requests.MailTaken number) t = replied mark denied t
retailer_request register moment mark requests.Status t = replied mark denied t
retailer_request register moment mark (requests.StatusOf gln) t =
    replied mark (report (supplier_row register.suppliers gln) (view gln t)) t
retailer_request register moment mark (requests.Cancel c) t = answered mark (cancel_named register c t) t
retailer_request register moment mark (requests.Join row) t = joined register mark row t
