-- Defines what a supplier's message does, and the reply to an upload while its messages are handled.
use Rattle.std.specs.Prelude.{◌≡◌, ℕ, ◌+◌, ◌≤◌, ◌∷◌, ◌++◌, length, Vec, vec_len, vec_capacity, Result, IfOk, OnErr}
use Rattle.edi_envelope.specs.declared.interchange.Interchange.{Interchange}
use Rattle.edi_envelope.specs.declared.interchange.RawMessage.{RawMessage}
use Rattle.hub_parties.specs.Rows.{RegisterRows, parties_of}
use Rattle.hub_parties.specs.declared.row.SupplierRow.{SupplierRow}
use Rattle.hub_store.specs.declared.fault.StoreFault.{StoreFault}
use Rattle.hub_tables.specs.Tables.{Tables, view}
use Rattle.hub_order_lines.specs.Book.{Orders}
use Rattle.hub_rules.specs.Laws.{Registered, PartiesRise}
use Rattle.hub_acts.specs.HubLaw.Messages.{incoming, deliver_suppliers}
use Rattle.hub_acts.specs.HubLaw.Told.{Act}
use Rattle.hub_acts.specs.HubLaw.Replies.{stopped_line, told_words}
use Rattle.hub_acts.specs.HubLaw.Widths.{line}
use Rattle.hub_acts.specs.HubTexts.Decision.{told_of}
use Rattle.hub_acts.specs.HubTexts.declared.decision.Decision.{Decision}
use Rattle.hub_transactions.specs.Orders.{KeepsOrders}

-- the act of a supplier's message, in an interchange that arrives at this moment
abbrev pub suppliers_act : RegisterRows → SupplierRow → ℕ → Interchange → RawMessage → Act
suppliers_act register s moment interchange message =
    deliver_suppliers (view s.gln) (parties_of register) s (message, incoming moment interchange message)

-- `Then` holds if a supplier may send a message: the orders that are kept are those that it sees, it is registered, the
-- tables are sound, and the rows of their register rise
abbrev pub IfMaySend : RegisterRows → SupplierRow → Orders → Tables → Type 0 → Type 0
IfMaySend register s orders t Then =
    KeepsOrders orders (view s.gln t) → Registered register.suppliers s t → PartiesRise t → Then

-- the reply has room for the line `stopped`
abbrev pub MayStop : {Z : Type 0} → Vec ℕ Z → Type 0
MayStop reply = vec_len reply + length stopped_line ≤ vec_capacity reply

-- At Ok the line of the message is appended to the reply; after a fault the reply is as before. Room for the line
-- `stopped` stays.
pub record AddsLine {Z : Type 0} (message : RawMessage) (old new : Vec ℕ Z) (result : Result Decision StoreFault)
    : Type 0 where
  pub line : IfOk result (λ told.
      new.items ≡ old.items ++ line (message.reference ∷ message.kind ∷ told_words (told_of told)))
  pub stays : OnErr result (new.items ≡ old.items)
  pub room : MayStop old → MayStop new
