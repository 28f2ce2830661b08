-- Defines what the laws say of the shared machine, and what a reply to an upload says of one of its messages.
use Rattle.std.specs.Prelude.{◌≡◌, ◌≢◌, ◌⊎◌, ◌↔◌, ◌<◌, ℕ, List, [], ◌∷◌, ◌++◌, length, slice_get, Option, Some}
use Rattle.edi_envelope.specs.declared.interchange.Interchange.{Interchange}
use Rattle.edi_envelope.specs.declared.interchange.RawMessage.{RawMessage}
use Rattle.hub_tables.specs.Register.{parties_in, register_of, row_at}
use Rattle.hub_tables.specs.Tables.{Tables}
use Rattle.hub_tables.specs.declared.rows.RememberedRow.{RememberedRow}
use Rattle.hub_rules.specs.declared.cancel.Cancel.{Cancel}
use Rattle.hub_rules.specs.Laws.{SoundHub}
use Rattle.hub_law.specs.Alone.{items}
use Rattle.hub_law.specs.Again.{MessageAt, Reaches, AcceptedAt, SameReference, AsksCancel}
use Rattle.hub_law.specs.Laws.{Agree, AgreeBefore, StepIsOwn, RunIsOwn, IsOther, AsksStatus, alone, own_report, reply_between}
use Rattle.hub_law.specs.Machine.{Inputs, shared_step, shared_run}
use Rattle.hub_law.specs.Mark.{Mark, Whole, StoppedEmpty, StoppedBare}
use Rattle.hub_law.specs.Messages.{incoming}
use Rattle.hub_law.specs.Remembered.{row_of_message}
use Rattle.hub_law.specs.Replies.{reply as with_body, stopped, whole_reply}
use Rattle.hub_law.specs.Requests.{cancel_named}
use Rattle.hub_law.specs.Stops.{reply_behind}
use Rattle.hub_law.specs.Told.{Told, Accepted}
use Rattle.hub_requests.specs.declared.reply.Outcome.TheVariants.{Stopped}
use Rattle.hub_requests.specs.declared.reply.Reply.{Reply}
use Rattle.hub_requests.specs.declared.request.Input.{Input}
use Rattle.hub_core.specs.Steps.{LinesBalance, RunBy}

-- A sound start stays sound, under the same hub and retailer, and its lines balance. Each GLN but the retailer's sees
-- what it would see alone, and gets the replies that it would get alone; and the retailer's status of it is as it would
-- be alone. A reply says where its input was stopped, and an input stopped before anything was done does nothing.
pub record OfTheMachine : Type 0 where
  pub step_own : (gln : List ℕ) (t : Tables) (input : Input) (mark : Mark) → SoundHub t → IsOther gln t → StepIsOwn gln t input mark
  pub run_own : (gln : List ℕ) (t : Tables) (inputs : Inputs) → SoundHub t → IsOther gln t → RunIsOwn gln t inputs
  pub status : (gln : List ℕ) (t : Tables) (before later : Inputs) (input : Input) → SoundHub t → IsOther gln t →
      AsksStatus gln t input →
      reply_between t before input later ≡ Some (own_report gln (alone gln (items gln t before) t).1)
  pub sound : (t : Tables) (input : Input) (mark : Mark) → SoundHub t → SoundHub (shared_step t input mark).1
  pub parties : (t : Tables) (inputs : Inputs) → SoundHub t → parties_in (shared_run t inputs).1 ≡ parties_in t
  pub balance : (t : Tables) → SoundHub t → LinesBalance t
  pub outcome : (t : Tables) (input : Input) (mark : Mark) → ((shared_step t input mark).0.outcome ≡ Stopped) ↔ (mark ≢ Whole)
  pub empty : (t : Tables) (input : Input) → shared_step t input StoppedEmpty ≡ (with_body Stopped [], t)
  pub bare : (t : Tables) (input : Input) → shared_step t input StoppedBare ≡ (stopped, t)

-- Each message of the upload has a result, and this is the one of the message at this position. The reply is that to
-- the upload or, if it was stopped after some messages, its first lines, which include the message's.
pub record ReportsResult (upload : Interchange) (place : ℕ) (what : Told) (reply : Reply) : Type 0 where
  pub told : List Told
  pub each : length told ≡ length upload.messages
  pub there : slice_get told place ≡ Some what
  pub is : (reply ≡ whole_reply upload told) ⊎ ((k : ℕ) × (place < k) × (reply ≡ reply_behind k upload told))

-- A run of a hub: its first and its last tables, its inputs, and the replies to them.
pub record HubRun : Type 0 where
  pub start : Tables
  pub after : Tables
  pub inputs : List Input
  pub replies : List Reply
  pub ran : RunBy start after inputs replies

-- the reply to the input that follows these in a run
abbrev pub reply_after : HubRun → Inputs → Option Reply
reply_after run before = slice_get run.replies (length before)

-- two runs agree on a GLN
abbrev pub AgreeOn : List ℕ → HubRun → HubRun → Type 0
AgreeOn gln one other = Agree gln one.start other.start one.ran.marked other.ran.marked

-- an input that was not stopped, in a run, with the inputs before it and those after it
pub record WholeInput (run : HubRun) : Type 0 where
  pub before : Inputs
  pub input : Input
  pub later : Inputs
  pub are : run.ran.marked ≡ before ++ (input, Whole) ∷ later

-- two runs agree on a GLN, each of these inputs asks for its status, and equally many of its items come before each
abbrev pub AgreeAndAsk : List ℕ → (one other : HubRun) → WholeInput one → WholeInput other → Type 0
AgreeAndAsk gln one other x y =
    AgreeBefore gln one.start other.start x.before x.later y.before y.later x.input y.input

-- A message is accepted on the way from the tables `t` to `u`: after some inputs a step accepts it, and others follow.
pub record AcceptedEarlier (t u : Tables) : Type 0 where
  pub before : Inputs
  pub input : Input
  pub mark : Mark
  pub between : Inputs
  pub place : ℕ
  pub message : RawMessage
  pub accepted : AcceptedAt (shared_run t before).1 input mark place message
  pub leads : (shared_run t (before ++ (input, mark) ∷ between)).1 ≡ u

module _ {t u : Tables} where
  -- the inputs that lead from `t` to `u`
  abbrev pub inputs_to : AcceptedEarlier t u → Inputs
  inputs_to first = first.before ++ (first.input, first.mark) ∷ first.between

  -- the row that remembers the message
  abbrev pub remembered_row : AcceptedEarlier t u → RememberedRow
  remembered_row first =
      row_of_message (row_at first.input.caller (shared_run t first.before).1) first.message
      (incoming first.input.moment first.accepted.comes.upload.interchange first.message)

-- An upload brings to the tables `u` a message that was accepted earlier, under the same references.
pub record ComesAgain (t u : Tables) : Type 0 where
  pub first : AcceptedEarlier t u
  pub input : Input
  pub place : ℕ
  pub comes : MessageAt u input place first.message
  pub same : SameReference first.input input first.accepted.comes.upload comes.upload

-- In a run, a message that was accepted comes again in a later upload, which is not stopped before it.
pub record ComesAgainIn (run : HubRun) : Type 0 where
  pub here : Tables
  pub again : ComesAgain run.start here
  pub mark : Mark
  pub later : Inputs
  pub are : run.ran.marked ≡ inputs_to again.first ++ (again.input, mark) ∷ later
  pub reached : Reaches mark again.input again.comes.upload again.place

-- A cancellation is accepted on the way from the tables `t` to `u`: after some inputs that lead to sound tables, a
-- request for it is accepted and not stopped, and others follow.
pub record CancelledEarlier (t u : Tables) (c : Cancel) : Type 0 where
  pub before : Inputs
  pub input : Input
  pub between : Inputs
  pub sound : SoundHub (shared_run t before).1
  pub asks : AsksCancel (shared_run t before).1 c input
  pub accepted : (cancel_named (register_of (shared_run t before).1) c (shared_run t before).1).0 ≡ Accepted
  pub leads : (shared_run t (before ++ (input, Whole) ∷ between)).1 ≡ u

-- the inputs that lead from `t` to `u`
abbrev pub inputs_around : {t u : Tables} {c : Cancel} → CancelledEarlier t u c → Inputs
inputs_around first = first.before ++ (first.input, Whole) ∷ first.between

-- In a run, a cancellation that was accepted comes again, and this request is not stopped.
pub record CancelledAgain (run : HubRun) (c : Cancel) : Type 0 where
  pub here : Tables
  pub first : CancelledEarlier run.start here c
  pub second : Input
  pub later : Inputs
  pub are : run.ran.marked ≡ inputs_around first ++ (second, Whole) ∷ later
  pub asks : AsksCancel here c second
