-- Defines how a broken store shows in the replies to a request and to a run.
use Rattle.std.specs.Prelude.{◌≡◌, ◌⊎◌, ⊤, Bool, IsTrue, List, [], ◌∷◌, Option, None, IsSome, Result, MatchResult}
use Rattle.std.specs.Option.{IfSome}
use Rattle.hub_parties.specs.Rows.{RegisterRows}
use Rattle.hub_tables.specs.Tables.{Tables}
use Rattle.hub_store.specs.declared.fault.LastingFault.{LastingFault}
use Rattle.hub_store.specs.declared.fault.StoreFault.{StoreFault}
use Rattle.hub_store.specs.declared.store.Store.{Ghosts}
use Rattle.hub_law.specs.Machine.{step_under}
use Rattle.hub_law.specs.Mark.{Whole}
use Rattle.hub_requests.specs.declared.reply.Outcome.TheVariants.{Stopped}
use Rattle.hub_requests.specs.declared.reply.Reply.{Reply}
use Rattle.hub_requests.specs.declared.request.Input.{Input}
use Rattle.hub_core.specs.Steps.{Does}

-- the reply is the same over any tables, and none is changed: no row of the store is in it
abbrev pub OfNoRow : Does → Reply → Type 0
OfNoRow does reply = (t : Tables) → does Whole t ≡ (reply, t)

-- no row is in the reply, or it says that it stopped
abbrev pub StoppedUnless : Does → Reply → Type 0
StoppedUnless does reply = (reply.outcome ≡ Stopped) ⊎ OfNoRow does reply

-- How a request leaves its store. A broken store stays so, with the same fault, and a request that needs it is stopped;
-- a store that breaks stops the request; a plain store never breaks.
pub record Breaks (plain : Bool) (does : Does) (old new : Option LastingFault) (reply : Reply) : Type 0 where
  pub after : (new ≡ old) ⊎ ((old ≡ None) × (reply.outcome ≡ Stopped))
  pub again : IfSome old (λ _. StoppedUnless does reply)
  pub over_plain : IsTrue plain → new ≡ old

-- How a request leaves its store, if a fault makes the reply `stopped`.
abbrev pub BreaksAsked : Bool → Does → Option LastingFault → Option LastingFault → Result Reply StoreFault → Type 0
BreaksAsked plain does old new result =
    MatchResult result (Breaks plain does old new)
    (λ _. ((new ≡ old) ⊎ (old ≡ None)) × (IsTrue plain → new ≡ old))

-- the same for a store, before a request and after it
module _ {S : Type 0} (g : Ghosts S) (does : Does) (old new : S) where
  abbrev pub BreaksOver : Reply → Type 0
  BreaksOver reply = Breaks g.plain does (g.broken old) (g.broken new) reply

  abbrev pub BreaksAskedOver : Result Reply StoreFault → Type 0
  BreaksAskedOver result = BreaksAsked g.plain does (g.broken old) (g.broken new) result

-- What an input does under a register, as the shared machine answers it. The register is the hub's, not the one in the
-- tables, because a broken store's replies do not depend on its tables.
abbrev pub does_input : RegisterRows → Input → Does
does_input register input mark t = step_under register t input mark

-- each input that needs the store is stopped
abbrev pub AllStopped : RegisterRows → List Input → List Reply → Type 0
AllStopped register [] [] = ⊤
AllStopped register [] (reply ∷ replies) = ⊥
AllStopped register (input ∷ inputs) [] = ⊥
AllStopped register (input ∷ inputs) (reply ∷ replies) =
    StoppedUnless (does_input register input) reply × AllStopped register inputs replies

-- one input was stopped, and then each one that needs the store
abbrev pub StoppedSinceOne : RegisterRows → List Input → List Reply → Type 0
StoppedSinceOne register [] replies = ⊥
StoppedSinceOne register (input ∷ inputs) [] = ⊥
StoppedSinceOne register (input ∷ inputs) (reply ∷ replies) =
    ((reply.outcome ≡ Stopped) × AllStopped register inputs replies) ⊎ StoppedSinceOne register inputs replies

-- How a run leaves its store, under the register after the run, because nobody can join over a broken store. A broken
-- store stays so, with the same fault, and each input that needs it is stopped; a store that breaks stops the input at
-- which it does, and then each one that needs it; a plain store never breaks.
pub record RunBreaks (plain : Bool) (register : RegisterRows) (old new : Option LastingFault) (inputs : List Input)
    (replies : List Reply) : Type 0 where
  pub after : (new ≡ old) ⊎ ((old ≡ None) × (IsSome new × StoppedSinceOne register inputs replies))
  pub again : IfSome old (λ _. AllStopped register inputs replies)
  pub over_plain : IsTrue plain → new ≡ old
