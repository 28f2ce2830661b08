-- Defines what a caller may ask, what its messages do, and the replies to it.
use Rattle.std.specs.Prelude.{⊤, ℕ, List, [], ◌∷◌, Result}
use Rattle.edi_envelope.specs.declared.interchange.RawMessage.{RawMessage}
use Rattle.hub_parties.specs.Rows.{RegisterRows, parties_of}
use Rattle.hub_register.specs.declared.caller.Caller.{Caller}
use Rattle.hub_register.specs.declared.caller.Caller.TheVariants.{Retailer, Supplier}
use Rattle.hub_tables.specs.Tables.{Tables, view}
use Rattle.hub_store.specs.declared.fault.StoreFault.{StoreFault}
use Rattle.hub_store.specs.declared.store.Store.{Ghosts}
use Rattle.hub_transactions.specs.HubOrderLines.Book.{Orders}
use Rattle.hub_rules.specs.Laws.{SoundUnder, Registered, PartiesRise}
use Rattle.hub_rules.specs.declared.incoming.IncomingMessage.{IncomingMessage}
use Rattle.hub_law.specs.Messages.{deliver_suppliers}
use Rattle.hub_law.specs.Opening.{Opened, addressed, interchange_in}
use Rattle.hub_law.specs.Requests.{deliver_named, retailer_request, supplier_request, uploaded}
use Rattle.hub_law.specs.Stops.{opened_for, upload_from}
use Rattle.hub_law.specs.Told.{Act}
use Rattle.hub_requests.specs.declared.reply.Reply.{Reply}
use Rattle.hub_requests.specs.declared.request.Request.{Request}
use Rattle.hub_transactions.specs.Orders.{KeepsOrders}
use Rattle.hub_core.specs.Steps.{AnsweredOrUndone, Does, acts_of}

-- the act of a caller's message
abbrev pub delivered : RegisterRows → Caller → RawMessage × IncomingMessage → Act
delivered register Retailer = deliver_named register
delivered register (Supplier s) = deliver_suppliers (view s.now.gln) (parties_of register) s.now

-- no prefix of one supplier begins a prefix of another, the tables are sound, the rows of their register rise, and a
-- supplier that calls is registered
abbrev pub MayDeliver : RegisterRows → Caller → Tables → Type 0
MayDeliver register Retailer t = SoundUnder register.suppliers t × PartiesRise t
MayDeliver register (Supplier s) t = Registered register.suppliers s.now t × PartiesRise t

-- the orders that are kept for a supplier are those that it sees; the retailer's messages need none
abbrev pub KeepsFor : Caller → Orders → Tables → Type 0
KeepsFor Retailer orders t = ⊤
KeepsFor (Supplier s) orders t = KeepsOrders orders (view s.now.gln t)

-- checks the addresses: a supplier sends to the hub or to the retailer, the retailer to the hub
abbrev pub addressed_by : RegisterRows → Caller → Opened → Opened
addressed_by register Retailer = addressed register.retailer (register.hub ∷ [])
addressed_by register (Supplier s) = addressed s.now.gln (register.hub ∷ register.retailer ∷ [])

-- what opening an upload's bytes gives
abbrev pub opening_of : RegisterRows → Caller → List ℕ → Opened
opening_of register caller bytes = addressed_by register caller (interchange_in bytes)

-- what an upload that was opened as this does, whole or stopped in each way
abbrev pub does_opened : RegisterRows → Caller → ℕ → Opened → Does
does_opened register caller moment opened mark t = uploaded (delivered register caller) moment mark opened t

-- the upload was tried over a store, with one act for each of its messages
abbrev pub OpenedAsked : {S : Type 0} → Ghosts S → RegisterRows → Caller → ℕ → Opened → S → S → Result Reply StoreFault → Type 0
OpenedAsked g register caller moment opened old new result =
    AnsweredOrUndone g old new (acts_of (opened_for (delivered register caller) opened)) (does_opened register caller moment opened) result

-- the number of acts of a request
abbrev pub acts_by : RegisterRows → Caller → Request → ℕ
acts_by register caller request = acts_of (upload_from (opening_of register caller) (delivered register caller) request)

-- what a caller's request does, as the shared machine answers it
abbrev pub request_of : RegisterRows → Caller → ℕ → Request → Does
request_of register Retailer moment request mark = retailer_request register moment mark request
request_of register (Supplier s) moment request mark =
    supplier_request (view s.now.gln) (parties_of register) s.now moment mark request
