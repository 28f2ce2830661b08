-- Defines the answer to a connection, and how it leaves the hub.
use Rattle.std.specs.Prelude.{◌≡◌, ◌⊎◌, ◌+◌, ℕ, Bool, true, false, List, Option, Some, None, Result, Ok, Err}
use Rattle.edi_base.specs.Source.{TakesAtMost}
use Rattle.hub_core.specs.HubLaw.Replies.{stopped_line}
use Rattle.hub_requests.specs.declared.reply.Outcome.{Outcome}
use Rattle.hub_requests.specs.declared.reply.Outcome.TheVariants.{Done, Bad, Denied, Unknown, Stopped}
use Rattle.hub_requests.specs.declared.reply.Reply.{Reply}
use Rattle.hub_parties.specs.Rows.{RegisterRows}
use Rattle.hub_core.specs.Hub.{StaysSound, StepsFrom}
use Rattle.hub_core.specs.Steps.{input_of}
use Rattle.http_messages.specs.Head.{Heading, HeadIs, longest_head}
use Rattle.hub_http.specs.Asked.{Asked, asked_by, is_single}
use Rattle.hub_http.specs.Question.{Question, AsksQuestion}
use Rattle.hub_http.specs.Refusal.{status_of, text_of}
use Rattle.hub_http.specs.declared.answer.HttpAnswer.{HttpAnswer}
use Rattle.hub_http.specs.declared.answer.AnswerAfterRead.{AnswerAfterRead}
use Rattle.hub_http.specs.declared.answer.Text.{Text}
use Rattle.hub_http.specs.declared.answer.Text.TheVariants.{Fixed, Made}
use Rattle.hub_http.specs.declared.refusal.Refusal.{Refusal}
use Rattle.hub_store.specs.declared.store.Store.{Ghosts}

-- the status for the outcome of a request
abbrev pub outcome_status : Outcome → ℕ
outcome_status Done = 200
outcome_status Bad = 400
outcome_status Denied = 403
outcome_status Unknown = 404
outcome_status Stopped = 503

abbrev pub bytes_of : Text → List ℕ
bytes_of (Fixed bytes) = bytes.now
bytes_of (Made bytes) = bytes

-- the answer has this status and this body
pub record StatusAndText (status : ℕ) (text : List ℕ) (answer : HttpAnswer) : Type 0 where
  pub status_is : answer.status ≡ status
  pub text_is : bytes_of answer.text ≡ text

-- the hub was asked a question at a moment, and gave this reply
abbrev pub HubReplies : {S : Type 0} → Ghosts S → ℕ → RegisterRows × S → RegisterRows × S → Question → Reply → Type 0
HubReplies g moment old new question reply =
    StepsFrom g old new (input_of moment question.gln question.key question.request) reply

-- what holds of a hub that was asked anything but a join
pub record KeepsHub {S : Type 0} (g : Ghosts S) (old new : RegisterRows × S) : Type 0 where
  pub held : StaysSound g old new
  pub register : new.0 ≡ old.0
  pub was_honest : g.honest new.1 → g.honest old.1

module _ (Replies : Question → Reply → Type 0) (Same : Type 0) where
  -- the hub is as before, or one question was asked
  abbrev pub OneStep : Type 0
  OneStep = Same ⊎ ((question : Question) × (reply : Reply) × Replies question reply)

  -- the reply to the question, or the status without one, and then the hub is as before
  abbrev pub RepliesTo : Result Question Refusal → HttpAnswer → Type 0
  RepliesTo (Ok question) answer =
      (reply : Reply) × Replies question reply × StatusAndText (outcome_status reply.outcome) reply.body answer
  RepliesTo (Err refusal) answer = Same × StatusAndText (status_of refusal) (text_of refusal) answer

  -- memory was refused before a question was asked
  abbrev pub LacksMemory : HttpAnswer → Type 0
  LacksMemory answer = Same × StatusAndText 503 stopped_line answer

  -- memory is only needed after the first check
  abbrev pub AnswersQuestion : Bool → Result Question Refusal → HttpAnswer → Type 0
  AnswersQuestion passed question answer = RepliesTo question answer ⊎ ((passed ≡ true) × LacksMemory answer)

  -- the answer to some question, or to some refusal, or to memory that was refused
  abbrev pub AnswersWhatever : HttpAnswer → Type 0
  AnswersWhatever answer = (question : Result Question Refusal) × AnswersQuestion true question answer

  -- such an answer, and the reader's flag stays; or a read failed, and the hub is as before
  abbrev pub AnswersOrFails : {E : Type 0} → Bool → Bool → Result AnswerAfterRead E → Type 0
  AnswersOrFails failed_before failed (Ok answered) = AnswersWhatever answered.answer × (failed ≡ failed_before)
  AnswersOrFails failed_before failed (Err fault) = Same × (failed ≡ true)

-- the first check: there is a head, with its key and its length at most once
abbrev pub passes : Option Heading → Bool
passes None = false
passes (Some head) = is_single head

-- the announced size of a body, if it is read
abbrev pub size_asked : Result Asked Refusal → ℕ
size_asked (Ok asked) = asked.size
size_asked (Err refusal) = 0

abbrev pub announced_by : RegisterRows → Option Heading → ℕ
announced_by register None = 0
announced_by register (Some head) = size_asked (asked_by register head)

-- The answer to what the bytes of a connection ask. At most a head and the announced body were taken of them.
pub record AnswersBytes (Replies : Question → Reply → Type 0) (Same : Type 0) (register : RegisterRows) (bytes : List ℕ)
    (after : Option (List ℕ)) (answer : HttpAnswer) : Type 0 where
  pub question : Result Question Refusal
  pub asks : AsksQuestion register bytes question
  pub answers : AnswersQuestion Replies Same (passes asks.head) question answer
  pub taken : TakesAtMost (Some bytes) after (longest_head + announced_by register asks.head)

-- How much was taken if a read failed: at most the longest head, or at most the head that is there and the body that it
-- announced.
abbrev pub ReadsWithin : RegisterRows → List ℕ → Option (List ℕ) → Type 0
ReadsWithin register bytes after = TakesAtMost (Some bytes) after longest_head
    ⊎ ((head : Heading) × HeadIs bytes (Some head)
    × TakesAtMost (Some bytes) after (longest_head + announced_by register (Some head)))
