-- Defines what a single supplier does and sees: the items of a run that concern it, and its own machine over these
-- items.
use Rattle.std.specs.Prelude.{ℕ, List, [], ◌∷◌, ◌++◌, map, filter, take, if◌then◌else◌, ◌&&◌, Option, Some, None}
use Rattle.edi_envelope.specs.declared.interchange.RawMessage.{RawMessage}
use Rattle.hub_parties.specs.Rows.{RegisterRows, Parties, parties_of, role_of}
use Rattle.hub_parties.specs.declared.role.Role.{Role}
use Rattle.hub_parties.specs.declared.role.Role.TheVariants.{Retailer, Supplier}
use Rattle.hub_parties.specs.declared.row.SupplierRow.{SupplierRow}
use Rattle.hub_tables.specs.Change.{apply_all}
use Rattle.hub_tables.specs.Register.{register_of, row_at, row_changes}
use Rattle.hub_tables.specs.Rows.{same}
use Rattle.hub_tables.specs.Tables.{Tables}
use Rattle.hub_rules.specs.JoinRules.{joins}
use Rattle.hub_rules.specs.declared.incoming.IncomingMessage.{IncomingMessage}
use Rattle.hub_rules.specs.declared.cancel.Cancel.{Cancel}
use Rattle.hub_law.specs.InTurn.{single, silent, followed_by}
use Rattle.hub_law.specs.Machine.{Inputs, shared_step}
use Rattle.hub_law.specs.Mark.{Mark, replied, acts_done}
use Rattle.hub_law.specs.Messages.{named, deliver_retailers, cancel}
use Rattle.hub_law.specs.Replies.{denied}
use Rattle.hub_law.specs.Requests.{looked_at, from_retailer, supplier_request}
use Rattle.hub_requests.specs.declared.reply.Reply.{Reply}
use Rattle.hub_requests.specs.declared.request.Input.{Input}
use Rattle.hub_requests.specs.declared.request.Request.{Request}
use Rattle.hub_requests.specs.declared.request.Request.TheVariants as requests

-- An input of the supplier itself; a message of the retailer that names it; a cancellation of the retailer for it, with
-- its moment; or its row, if the retailer registered it and the register accepted it.
pub data Item : Type 0 where
  Own : Input → Mark → Item
  Message : RawMessage × IncomingMessage → Item
  Cancellation : ℕ → Cancel → Item
  Joined : SupplierRow → Item

-- an input of the supplier: denied without its key
abbrev pub supplier_step : (Tables → Tables) → Parties → SupplierRow → Input → Mark → Tables → Reply × Tables
supplier_step look parties s input mark t =
    if same s.key input.key then supplier_request look parties s input.moment mark input.request t
    else replied mark denied t

-- an input whose caller is this GLN: denied before the GLN has its row
abbrev pub own_request : Parties → Option SupplierRow → Input → Mark → Tables → Reply × Tables
own_request parties (Some s) input mark state = supplier_step (λ rows. rows) parties s input mark state
own_request parties None input mark state = replied mark denied state

-- what an item does to the rows of a GLN, including its register row, and the replies to it
abbrev pub own_step : Parties → List ℕ → Item → Tables → List Reply × Tables
own_step parties gln (Own input mark) state = single (own_request parties (row_at gln state) input mark state)
own_step parties gln (Message sent) state = silent (deliver_retailers (λ rows. rows) parties (row_at gln state) sent state)
own_step parties gln (Cancellation moment c) state = silent (cancel (λ rows. rows) (row_at gln state) c state)
own_step parties gln (Joined row) state = ([], apply_all (row_changes row) state)

-- handles the items one after another
abbrev pub fold : Parties → List ℕ → List Item → Tables → List Reply × Tables
fold parties gln [] state = ([], state)
fold parties gln (item ∷ items) state = followed_by (own_step parties gln item state) (fold parties gln items)

-- the messages that name the supplier with this GLN
abbrev pub naming : List ℕ → List (RawMessage × IncomingMessage) → List (RawMessage × IncomingMessage)
naming gln sents = filter (λ sent. same (named sent.0) gln) sents

-- The items of an input that concern the supplier with this GLN.
abbrev pub retailer_items : List ℕ → RegisterRows → ℕ → Mark → Request → List Item
retailer_items gln register moment mark (requests.Upload bytes) =
    map Message (naming gln (looked_at moment mark (from_retailer (parties_of register) bytes)))
retailer_items gln register moment mark (requests.MailAfter number) = []
retailer_items gln register moment mark (requests.MailItem number) = []
retailer_items gln register moment mark (requests.MailTaken number) = []
retailer_items gln register moment mark requests.Status = []
retailer_items gln register moment mark (requests.StatusOf other) = []
retailer_items gln register moment mark (requests.Cancel c) =
    if same c.supplier gln then take (acts_done mark 1) (Cancellation moment c ∷ []) else []
retailer_items gln register moment mark (requests.Join row) =
    if same row.gln gln && joins register row then take (acts_done mark 1) (Joined row ∷ []) else []

abbrev pub own_items : List ℕ → Input → Mark → List Item
own_items gln input mark = if same input.caller gln then Own input mark ∷ [] else []

abbrev pub items_as : List ℕ → RegisterRows → Option Role → Input → Mark → List Item
items_as gln register (Some Retailer) input mark = retailer_items gln register input.moment mark input.request
items_as gln register (Some Supplier) input mark = own_items gln input mark
items_as gln register None input mark = own_items gln input mark

-- the items under a register
abbrev pub items_under : List ℕ → RegisterRows → Input → Mark → List Item
items_under gln register input mark = items_as gln register (role_of register input.caller input.key) input mark

-- the items under the register that the tables hold when the input is handled
abbrev pub items_of_input : List ℕ → Tables → Input → Mark → List Item
items_of_input gln t input mark = items_under gln (register_of t) input mark

-- The items of a whole run. Only the run shows whether the register accepts a supplier, so the acceptance is part of
-- the item, as the mark is.
abbrev pub items : List ℕ → Tables → Inputs → List Item
items gln t [] = []
items gln t ((input, mark) ∷ inputs) =
    items_of_input gln t input mark ++ items gln (shared_step t input mark).1 inputs
