-- Defines the decision on a message, and what it does to the tables.
use Rattle.std.specs.Prelude.{◌≡◌, ◌≢◌, ⊤, Option, Result, Err, IfOk, IfErr}
use Rattle.edi_messages.specs.Fault as message_faults
use Rattle.edi_messages.specs.declared.fault.MessageFault.{MessageFault}
use Rattle.edi_messages.specs.declared.fault.MessageFault.TheVariants as message_fault
use Rattle.edi_envelope.specs.declared.interchange.RawMessage.{RawMessage}
use Rattle.hub_parties.specs.Rows.{Parties, RegisterRows, parties_of, supplier_row}
use Rattle.hub_parties.specs.declared.row.SupplierRow.{SupplierRow}
use Rattle.hub_store.specs.declared.fault.StoreFault.{StoreFault}
use Rattle.hub_store.specs.declared.fault.StoreFault.TheVariants.{Memory}
use Rattle.hub_store.specs.declared.store.Store.{Ghosts}
use Rattle.hub_tables.specs.Tables.{Tables, view}
use Rattle.hub_rules.specs.Laws.{SoundUnder, Registered, PartiesRise}
use Rattle.hub_rules.specs.Sound.{Kept}
use Rattle.hub_rules.specs.declared.incoming.IncomingMessage.{IncomingMessage}
use Rattle.hub_acts.specs.HubLaw.Messages.{named}
use Rattle.hub_acts.specs.HubLaw.Told.{Told, Refused, Act, act, told}
use Rattle.hub_acts.specs.Verdicts.{VerdictFits}
use Rattle.hub_transactions.specs.declared.judged.Judged.{Judged}
use Rattle.hub_transactions.specs.declared.judged.Judged.TheVariants.{Read, Unread}

-- the act of a decision: the verdict on what was read, or a refusal because the message cannot be read
abbrev pub act_of : Judged → Act
act_of (Read verdict) t = act verdict t
act_of (Unread fault) t = (Refused (message_faults.code_text fault), t)

-- what the reply reports of a decision
abbrev pub told_judged : Judged → Told
told_judged (Read verdict) = told verdict
told_judged (Unread fault) = Refused (message_faults.code_text fault)

-- if there are changes, they fit the tables
abbrev pub JudgedFits : Judged → Tables → Type 0
JudgedFits (Read verdict) t = VerdictFits verdict t
JudgedFits (Unread fault) t = ⊤

-- the message cannot be read, and the decision says why
pub record CannotBeRead {X : Type 0} (read : Result X MessageFault) (judged : Judged) : Type 0 where
  pub fault : MessageFault
  pub read_as : read ≡ Err fault
  pub is : judged ≡ Unread fault

-- the decision on a message that cannot be read for this fault says so; if memory ran out, there is none
pub record UnreadFor (fault : MessageFault) (result : Result Judged StoreFault) : Type 0 where
  pub ok : IfOk result (λ judged. (judged ≡ Unread fault) × (fault ≢ message_fault.Memory))
  pub err : IfErr result (λ error. (error ≡ Memory) × (fault ≡ message_fault.Memory))

-- the decision is what the act does to any tables, and nothing is changed
pub record UnreadOf (deliver : Act) (judged : Judged) : Type 0 where
  pub same : (t : Tables) → deliver t ≡ act_of judged t
  pub stays : (t : Tables) → (act_of judged t).1 ≡ t

-- The decision on a message of the retailer: it is what the act does, if the rows that the supplier sees can be used;
-- and its changes fit the tables, if these are sound.
pub record JudgedOfRetailer {S : Type 0} (g : Ghosts S) (register : RegisterRows)
    (deliver : (Tables → Tables) → Parties → Option SupplierRow → RawMessage × IncomingMessage → Act)
    (sent : RawMessage × IncomingMessage) (old new : S) (result : Result Judged StoreFault) : Type 0 where
  pub told : g.honest new → Kept (view (named sent.0) (g.content old)) → IfOk result (λ judged.
      deliver (view (named sent.0)) (parties_of register) (supplier_row register.suppliers (named sent.0)) sent (g.content old)
      ≡ act_of judged (g.content old))
  pub fit : g.honest new → SoundUnder register.suppliers (g.content old) → PartiesRise (g.content old) →
      IfOk result (λ judged. JudgedFits judged (g.content old))

-- the decision on a message of a supplier, likewise
pub record JudgedOfSupplier {S : Type 0} (g : Ghosts S) (register : RegisterRows) (supplier : SupplierRow)
    (deliver : (Tables → Tables) → Parties → SupplierRow → RawMessage × IncomingMessage → Act)
    (sent : RawMessage × IncomingMessage) (old new : S) (result : Result Judged StoreFault) : Type 0 where
  pub told : g.honest new → Kept (view supplier.gln (g.content old)) → IfOk result (λ judged.
      deliver (view supplier.gln) (parties_of register) supplier sent (g.content old) ≡ act_of judged (g.content old))
  pub fit : g.honest new → Registered register.suppliers supplier (g.content old) → PartiesRise (g.content old) →
      IfOk result (λ judged. JudgedFits judged (g.content old))
