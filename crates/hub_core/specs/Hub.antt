-- Defines what the calls of a hub do to its register and its store.
use Rattle.std.specs.Prelude.{◌≡◌, true, List, Result}
use Rattle.std.specs.Option.{IfSome}
use Rattle.hub_parties.specs.Rows.{RegisterRows}
use Rattle.hub_parties.specs.declared.row.SupplierRow.{SupplierRow}
use Rattle.hub_store.specs.Clean.{are_clean}
use Rattle.hub_store.specs.declared.fault.StoreFault.{StoreFault}
use Rattle.hub_store.specs.declared.store.Store.{Ghosts}
use Rattle.hub_law.specs.Stops.{upload_of}
use Rattle.hub_requests.specs.declared.reply.Reply.{Reply}
use Rattle.hub_requests.specs.declared.request.Input.{Input}
use Rattle.hub_requests.specs.declared.request.Request.TheVariants.{Join}
use Rattle.hub_transactions.specs.Clean.{WithinInput}
use Rattle.hub_transactions.specs.Joins.{KeepsRows}
use Rattle.hub_core.specs.Broken.{Breaks, RunBreaks, does_input}
use Rattle.hub_core.specs.Steps.{AnsweredOrUndone, IsNoJoin, JoinAnswered, RunAndCrash, SoundWith, Stepped, acts_of}

-- if the input is a join, the register accepts the supplier exactly if the reply says so
abbrev pub JoinsBy : RegisterRows → RegisterRows → Input → Reply → Type 0
JoinsBy old new input reply = (row : SupplierRow) → input.request ≡ Join row → JoinAnswered row old new (does_input old input) reply

module _ {S : Type 0} (g : Ghosts S) where
  -- the hub took a step from one store to the other, or a run
  abbrev pub SteppedOver : S → S → Input → Reply → Type 0
  SteppedOver old new input reply = Stepped (g.content old) (g.content new) (g.left old) (g.left new) input reply

  abbrev pub RanOver : S → S → List Input → List Reply → Type 0
  RanOver old new inputs replies = RunAndCrash (g.content old) (g.content new) (g.left old) (g.left new) inputs replies

  -- an input was tried under a register
  abbrev pub InputAsked : RegisterRows → Input → S → S → Result Reply StoreFault → Type 0
  InputAsked register input old new result =
      AnsweredOrUndone g old new (acts_of (upload_of register input)) (does_input register input) result

  -- from a sound start, an input is a step, and inputs one after another are a run
  abbrev pub StepsFrom : RegisterRows × S → RegisterRows × S → Input → Reply → Type 0
  StepsFrom old new input reply = g.honest new.1 → SoundWith old.0 (g.content old.1) → SteppedOver old.1 new.1 input reply

  abbrev pub RunsFrom : RegisterRows × S → RegisterRows × S → List Input → List Reply → Type 0
  RunsFrom old new inputs replies = g.honest new.1 → SoundWith old.0 (g.content old.1) → RanOver old.1 new.1 inputs replies

  -- a sound start stays one
  abbrev pub StaysSound : RegisterRows × S → RegisterRows × S → Type 0
  StaysSound old new = g.honest new.1 → SoundWith old.0 (g.content old.1) → SoundWith new.0 (g.content new.1)

  -- if all rows of a sound start have their form, they do so after an input within its limits
  abbrev pub KeepsClean : RegisterRows × S → RegisterRows × S → Input → Type 0
  KeepsClean old new input =
      g.honest new.1 → SoundWith old.0 (g.content old.1) → are_clean (g.content old.1) ≡ true → WithinInput input →
      are_clean (g.content new.1) ≡ true

  -- how an input leaves its store, under the register before it; and how a run does, under the register after it
  abbrev pub BreaksFrom : RegisterRows × S → RegisterRows × S → Input → Reply → Type 0
  BreaksFrom old new input reply = Breaks g.plain (does_input old.0 input) (g.broken old.1) (g.broken new.1) reply

  abbrev pub RunBreaksFrom : RegisterRows × S → RegisterRows × S → List Input → List Reply → Type 0
  RunBreaksFrom old new inputs replies = RunBreaks g.plain new.0 (g.broken old.1) (g.broken new.1) inputs replies

  -- What one input does to a hub, whatever its rows, and the reply to it. From a sound start it is a step. Only a join
  -- changes the register, and none does over a broken store; suppliers that were registered keep their rows.
  pub record AnswersInput (old new : RegisterRows × S) (input : Input) (reply : Reply) : Type 0 where
    pub stepped : StepsFrom old new input reply
    pub held : StaysSound old new
    pub clean : KeepsClean old new input
    pub breaks : BreaksFrom old new input reply
    pub joined : JoinsBy old.0 new.0 input reply
    pub keeps : KeepsRows old.0 new.0
    pub register : IsNoJoin input.request → new.0 ≡ old.0
    pub broken : IfSome (g.broken old.1) (λ _. new.0 ≡ old.0)
    -- the storage was honest before if it is honest afterwards, so a caller checks this once, at the end
    pub was_honest : g.honest new.1 → g.honest old.1
