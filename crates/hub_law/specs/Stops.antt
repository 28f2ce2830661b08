-- Defines what an upload that is stopped after some of its messages replies and leaves.
use Rattle.std.specs.Prelude.{ℕ, List, ◌++◌, take, Option, Some, None, Ok, Err}
use Rattle.std.specs.List.{list_any}
use Rattle.edi_envelope.specs.declared.interchange.RawMessage.{RawMessage}
use Rattle.edi_envelope.specs.declared.interchange.Interchange.{Interchange}
use Rattle.hub_parties.specs.Rows.{RegisterRows, parties_of, row_of, role_of}
use Rattle.hub_parties.specs.declared.role.Role.{Role}
use Rattle.hub_parties.specs.declared.role.Role.TheVariants.{Retailer, Supplier}
use Rattle.hub_parties.specs.declared.row.SupplierRow.{SupplierRow}
use Rattle.hub_tables.specs.Tables.{Tables, view}
use Rattle.hub_rules.specs.declared.incoming.IncomingMessage.{IncomingMessage}
use Rattle.hub_law.specs.Messages.{messages_at, deliver_suppliers}
use Rattle.hub_law.specs.Opening.{Opened}
use Rattle.hub_law.specs.Replies.{interchange_line, message_lines, stopped_line}
use Rattle.hub_law.specs.Requests.{from_supplier, from_retailer, deliver_named}
use Rattle.hub_law.specs.Told.{Told, Act, is_refused, in_row}
use Rattle.hub_requests.specs.declared.reply.Outcome.TheVariants.{Stopped}
use Rattle.hub_requests.specs.declared.reply.Reply.{Reply}
use Rattle.hub_requests.specs.declared.request.Input.{Input}
use Rattle.hub_requests.specs.declared.request.Request.{Request}
use Rattle.hub_requests.specs.declared.request.Request.TheVariants as requests

-- an upload whose messages are handled: its interchange, and the act of each message
pub record Upload : Type 0 where
  pub interchange : Interchange
  pub act : RawMessage × IncomingMessage → Act

-- the upload whose messages have this act, if it opens
abbrev pub opened_for : (RawMessage × IncomingMessage → Act) → Opened → Option Upload
opened_for act (Ok i) = Some (record { interchange = i; act = act })
opened_for act (Err code) = None

abbrev pub upload_from : (List ℕ → Opened) → (RawMessage × IncomingMessage → Act) → Request → Option Upload
upload_from opening act (requests.Upload bytes) = opened_for act (opening bytes)
upload_from opening act (requests.MailAfter number) = None
upload_from opening act (requests.MailItem number) = None
upload_from opening act (requests.MailTaken number) = None
upload_from opening act requests.Status = None
upload_from opening act (requests.StatusOf gln) = None
upload_from opening act (requests.Cancel c) = None
upload_from opening act (requests.Join row) = None

abbrev pub upload_by : RegisterRows → Option Role → Option SupplierRow → Request → Option Upload
upload_by register (Some Supplier) (Some s) request =
    upload_from (from_supplier (parties_of register) s) (deliver_suppliers (view s.gln) (parties_of register) s) request
upload_by register (Some Supplier) None request = None
upload_by register (Some Retailer) row request =
    upload_from (from_retailer (parties_of register)) (deliver_named register) request
upload_by register None row request = None

-- the upload whose messages are handled: the caller has a role, and the interchange opens and is addressed correctly
abbrev pub upload_of : RegisterRows → Input → Option Upload
upload_of register input =
    upload_by register (role_of register input.caller input.key) (row_of register input.caller) input.request

-- the results of all messages of an upload that comes at this moment, or of its first `k`, one after another
abbrev pub all_acts : Upload → ℕ → Tables → List Told × Tables
all_acts upload moment = in_row upload.act (messages_at moment upload.interchange)

abbrev pub first_acts : ℕ → Upload → ℕ → Tables → List Told × Tables
first_acts k upload moment = in_row upload.act (take k (messages_at moment upload.interchange))

-- the reply to an upload that was stopped after `k` messages: the lines of the whole reply up to these, then `stopped`
abbrev pub reply_behind : ℕ → Interchange → List Told → Reply
reply_behind k i told = record {
  outcome = Stopped;
  refused = list_any is_refused (take k told);
  body = (interchange_line i ++ message_lines (take k i.messages) (take k told)) ++ stopped_line;
}
