-- Defines what a call over a store does that only looks things up, and one that carries out an act.
use Rattle.std.specs.Prelude.{◌≡◌, ◌⊎◌, ⊤, Bool, IsTrue, Option, Some, Result, IfOk, OnOk, OnErr, IfErr}
use Rattle.std.specs.Prelude.{MatchResult}
use Rattle.std.specs.Option.{IfSome}
use Rattle.hub_tables.specs.Tables.{Tables}
use Rattle.hub_store.specs.Calls.{fault_of}
use Rattle.hub_store.specs.declared.fault.LastingFault.{LastingFault}
use Rattle.hub_store.specs.declared.fault.LastingFault.TheVariants as lasting
use Rattle.hub_store.specs.declared.fault.StoreFault.{StoreFault}
use Rattle.hub_store.specs.declared.fault.StoreFault.TheVariants.{Memory, Disk, Unclean, Version}
use Rattle.hub_store.specs.declared.store.Store.{Ghosts}
use Rattle.hub_texts.specs.HubRequests.declared.reply.Reply.{Reply}

-- nothing is done: the content stays, and a crash leaves no more than before
pub record Stays {S : Type 0} (g : Ghosts S) (old new : S) : Type 0 where
  pub content_stays : g.honest new → g.content new ≡ g.content old
  pub left_stays : g.honest new → (t : Tables) → g.left new t → g.left old t
  pub was_honest : g.honest new → g.honest old

-- The outcome of an act: at Ok it is done, and its answer is the call's result as `seen` shows it; a crash then leaves
-- the new content or, if the act changed nothing, what it could leave before. After a fault a crash leaves what it
-- could leave before, or the whole act.
pub record Carried {S X Y : Type 0} (g : Ghosts S) (old new : S) (act : Tables → Y × Tables) (seen : X → Y)
    (result : Result X StoreFault) : Type 0 where
  pub done : g.honest new → IfOk result (λ x. act (g.content old) ≡ (seen x, g.content new))
  pub durable : g.honest new →
      OnOk result ((t : Tables) → g.left new t → (t ≡ g.content new) ⊎ ((g.content new ≡ g.content old) × g.left old t))
  pub crash : g.honest new →
      OnErr result ((t : Tables) → g.left new t → g.left old t ⊎ (t ≡ (act (g.content old)).1))

-- a reply is its own answer
abbrev pub as_told : Reply → Reply
as_told reply = reply

-- what holds of a call for any tables
pub record Unharmed {S X : Type 0} (g : Ghosts S) (old new : S) (result : Result X StoreFault) : Type 0 where
  pub same : g.honest new → OnErr result (g.content new ≡ g.content old)
  pub was_honest : g.honest new → g.honest old

-- The fault for which a store is broken after a call failed with a fault. `Unclean` from a store that it does not break
-- means that the rules cannot be applied, for this cause; no call returns `Version`.
abbrev pub BreaksBy : Type 0 → Option LastingFault → Option LastingFault → StoreFault → Type 0
BreaksBy cause old new Memory = new ≡ old
BreaksBy cause old new Disk = new ≡ Some lasting.Disk
BreaksBy cause old new Unclean = (new ≡ Some lasting.Unclean) ⊎ ((new ≡ old) × cause)
BreaksBy cause old new Version = ⊥

-- How a call over a store fails. A broken store returns its fault again, unless memory runs out first or the answer
-- needs no row. At Ok the store is as broken as before; after a fault it is broken by that fault alone. A plain store
-- never breaks, and its only faults are `Memory` and the cause.
pub record FailsWith {X : Type 0} (plain : Bool) (cause : Type 0) (may_answer : X → Type 0)
    (old new : Option LastingFault) (result : Result X StoreFault) : Type 0 where
  pub again : IfSome old (λ broken. MatchResult result may_answer (λ fault. (fault ≡ Memory) ⊎ (fault ≡ fault_of broken)))
  pub after : MatchResult result (λ _. new ≡ old) (BreaksBy cause old new)
  pub only_memory : IsTrue plain → (new ≡ old) × IfErr result (λ fault. (fault ≡ Memory) ⊎ ((fault ≡ Unclean) × cause))

-- the same for a store before and after a call
abbrev pub FailsOver : {S X : Type 0} → Ghosts S → Type 0 → (X → Type 0) → S → S → Result X StoreFault → Type 0
FailsOver g cause may_answer old new result = FailsWith g.plain cause may_answer (g.broken old) (g.broken new) result

-- nothing that is read can cause `Unclean`
abbrev pub NoCause : Type 0
NoCause = ⊥

-- something that is read may cause it
abbrev pub AnyCause : Type 0
AnyCause = ⊤

-- no answer is possible over a broken store, or any is
abbrev pub no_answer : {X : Type 0} → X → Type 0
no_answer x = ⊥

abbrev pub any_answer : {X : Type 0} → X → Type 0
any_answer x = ⊤

-- the answer is the act's for any tables, and the act changes none
abbrev pub OfAny : {X Y : Type 0} → (Tables → Y × Tables) → (X → Y) → X → Type 0
OfAny act seen x = (t : Tables) → act t ≡ (seen x, t)
