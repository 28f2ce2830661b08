-- Defines what serving connections one after another does: how each ends, what is printed, and the exit status.
use Rattle.std.specs.Prelude.{◌≡◌, ◌⊎◌, ⊤, ℕ, ◌+◌, ◌<◌, ◌≤◌, max, Bool, List, [], ◌∷◌, ◌++◌, length, map, flat_map}
use Rattle.std.specs.Prelude.{fold, Option, Some, None, Result, Ok, Err, IfOk, IfSome, IsTrue, IsFalse}
use Rattle.std.specs.List.{AllByRecursion}
use Rattle.hub_http.specs.HubCore.Steps.{input_of}
use Rattle.hub_http.specs.Extent.{TellsEnd}
use Rattle.hub_http.specs.Question.{Question}
use Rattle.hub_http.specs.Serve.{Ended}
use Rattle.hub_http.specs.declared.serve.IoFault.{IoFault}
use Rattle.hub_http.specs.declared.serve.IoFault.TheVariants.{Read, Write}
use Rattle.hub_http.specs.declared.serve.Served.{Served}
use Rattle.hub_requests.specs.declared.reply.Reply.{Reply}
use Rattle.hub_requests.specs.declared.request.Input.{Input}
use Rattle.hub_parties.specs.Rows.{RegisterRows}
use Rattle.hub_serve.specs.Connections.{Adds, Closed, Coming, KnownConnections, TakesFirst}
use Rattle.hub_serve.specs.Line.{ending_of, ending_status, line_of}
use Rattle.hub_serve.specs.Output.{WrittenWhole, WrittenInPart}
use Rattle.hub_serve.specs.declared.line.Ending.{Ending}
use Rattle.hub_serve.specs.declared.line.Ending.TheVariants.{Answered, Gone, ReadFailed, WriteFailed}

-- what was asked of the hub in a connection, at which moment, and the reply
pub record Exchange : Type 0 where
  pub moment : ℕ
  pub question : Question
  pub reply : Reply

-- A connection: what its client sent, if that is known; the moment at which it arrived and how it was left at its end,
-- unless its client disconnected before; what was asked of the hub, if anything; and how it ended.
pub record Connection : Type 0 where
  pub bytes : Option (List ℕ)
  pub moment : Option ℕ
  pub asked : Option Exchange
  pub closed : Option Closed
  pub ending : Ending

abbrev pub listed : {A : Type 0} → Option A → List A
listed None = []
listed (Some it) = it ∷ []

-- what the clients sent
abbrev pub sent_in : List Connection → List (Option (List ℕ))
sent_in = map (λ one. one.bytes)

-- the moments at which they arrived
abbrev pub moments_in : List Connection → List ℕ
moments_in = flat_map (λ one. listed one.moment)

-- how they were left at their ends
abbrev pub ends_in : List Connection → List Closed
ends_in = flat_map (λ one. listed one.closed)

-- the input to the hub, and its reply
abbrev pub input_in : Exchange → Input
input_in asked = input_of asked.moment asked.question.gln asked.question.key asked.question.request

abbrev pub inputs_of : Option Exchange → List Input
inputs_of None = []
inputs_of (Some asked) = input_in asked ∷ []

abbrev pub replies_of : Option Exchange → List Reply
replies_of None = []
replies_of (Some asked) = asked.reply ∷ []

abbrev pub inputs : List Connection → List Input
inputs = flat_map (λ one. inputs_of one.asked)

abbrev pub replies : List Connection → List Reply
replies = flat_map (λ one. replies_of one.asked)

-- the lines of connections in their order, with numbers from this one
abbrev pub lines_from : ℕ → List Connection → List ℕ
lines_from number [] = []
lines_from number (one ∷ served) = line_of number one.ending ++ lines_from (number + 1) served

-- the greatest exit status of the connections
abbrev pub greatest : List Connection → ℕ
greatest served = fold (λ status one. max status (ending_status one.ending)) 0 served

-- this question was asked, and this was the reply
abbrev pub IsAsked : Option Exchange → Question → Reply → Type 0
IsAsked None question reply = ⊥
IsAsked (Some asked) question reply = (asked.question ≡ question) × (asked.reply ≡ reply)

-- the request was made at this moment
abbrev pub AskedAt : ℕ → Option Exchange → Type 0
AskedAt moment None = ⊤
AskedAt moment (Some asked) = asked.moment ≡ moment

-- a read or a write has failed exactly if the result says so
abbrev pub FailedSo : Result Served IoFault → Closed → Type 0
FailedSo (Ok served) closed = IsFalse closed.read_failed × IsFalse closed.write_failed
FailedSo (Err Read) closed = IsTrue closed.read_failed × IsFalse closed.write_failed
FailedSo (Err Write) closed = IsFalse closed.read_failed × IsTrue closed.write_failed

-- A connection was taken at a moment, served with this result, and ended accordingly. If its bytes are known, the
-- request is the one that they ask, and its client was sent the response: all of it, or a prefix if a write failed; and
-- it is reported whether the bytes were read to the end of the request. If a read failed, nothing was asked, and
-- nothing sent.
pub record IsTaken (register : RegisterRows) (one : Connection) (served : Result Served IoFault) : Type 0 where
  pub moment : ℕ
  pub moment_is : one.moment ≡ Some moment
  pub asked_then : AskedAt moment one.asked
  pub closed : Closed
  pub closed_is : one.closed ≡ Some closed
  pub failed_so : FailedSo served closed
  pub told_so : closed.ending ≡ ending_of served
  pub begun : Option (List ℕ)
  pub nothing_sent : IfSome begun (λ bytes. bytes ≡ [])
  pub ended : Ended (IsAsked one.asked) (one.asked ≡ None) register one.bytes closed.left begun closed.sent served
  pub to_end : IfOk served (λ done. TellsEnd one.bytes closed.left done.read_to_end)

-- the client of a connection disconnected before it was taken: nothing was asked, and nothing sent
pub record IsGone (one : Connection) : Type 0 where
  pub moment : one.moment ≡ None
  pub asked : one.asked ≡ None
  pub closed : one.closed ≡ None

-- what holds of a connection that ended in this way
abbrev pub EndsSo : RegisterRows → Connection → Ending → Type 0
EndsSo register one (Answered served) = IsTaken register one (Ok served)
EndsSo register one Gone = IsGone one
EndsSo register one ReadFailed = IsTaken register one (Err Read)
EndsSo register one WriteFailed = IsTaken register one (Err Write)

abbrev pub IsServed : RegisterRows → Connection → Type 0
IsServed register one = EndsSo register one one.ending

-- if it is known what comes, these come first
abbrev pub AreFirst : {A : Type 0} → Option (List A) → List A → Type 0
AreFirst {A} known first = IfSome known (λ all. (rest : List A) × (all ≡ first ++ rest))

-- these connections arrived first, at the moments that came first, and have ended
pub record Passes (old new : KnownConnections) (served : List Connection) : Type 0 where
  pub clients : TakesFirst old.coming new.coming (sent_in served)
  pub moments : TakesFirst old.moments new.moments (moments_in served)
  pub closed : Adds old.closed new.closed (ends_in served)

-- why no more were served, and which still come: no more could be taken, and all others still come; or one more was
-- taken, its moment is not known, and those after it still come
abbrev pub StopsEarly : Type 0 → Type 0 → Coming → Coming → List (Option (List ℕ)) → Type 0
StopsEarly Over Unknown coming rest sent =
    (Over × TakesFirst coming rest sent)
    ⊎ (Unknown × ((bytes : Option (List ℕ)) × TakesFirst coming rest (sent ++ bytes ∷ [])))

-- as many connections were served as there were to be, and those after them still come
pub record AllServed (known rest : KnownConnections) (Going : Type 0) (count : ℕ) (old new : Option (List ℕ)) (failed after : Bool)
    (served : List Connection) (status : ℕ) : Type 0 where
  pub passed : Passes known rest served
  pub going : Going
  pub counted : length served ≡ count
  pub written : WrittenWhole old new failed after (lines_from 1 served)
  pub status_is : status ≡ greatest served

-- fewer were served, for a reason; all moments but theirs still come
pub record CutShort (known rest : KnownConnections) (Over Unknown : Type 0) (count : ℕ) (old new : Option (List ℕ))
    (failed after : Bool) (served : List Connection) (status : ℕ) : Type 0 where
  pub stopped : StopsEarly Over Unknown known.coming rest.coming (sent_in served)
  pub moments : TakesFirst known.moments rest.moments (moments_in served)
  pub fewer : length served < count
  pub written : WrittenWhole old new failed after (lines_from 1 served)
  pub status_is : status ≡ 3

-- the line of the last connection could not be written; those after it still come
pub record LineLost (known rest : KnownConnections) (Going : Type 0) (count : ℕ) (old new : Option (List ℕ)) (after : Bool)
    (served : List Connection) (status : ℕ) : Type 0 where
  pub passed : Passes known rest served
  pub going : Going
  pub earlier : List Connection
  pub last : Connection
  pub are : served ≡ earlier ++ last ∷ []
  pub counted : length served ≤ count
  pub broken : WrittenInPart old new after (lines_from 1 earlier) (line_of (length served) last.ending)
  pub status_is : status ≡ 3

-- Serving was to end with the connection at which the store failed for good, and this is the last one; those after it
-- still come.
pub record GaveUp (known rest : KnownConnections) (Going Broke : Type 0) (count : ℕ) (old new : Option (List ℕ)) (failed after : Bool)
    (served : List Connection) (status : ℕ) : Type 0 where
  pub passed : Passes known rest served
  pub going : Going
  pub counted : length served ≤ count
  pub written : WrittenWhole old new failed after (lines_from 1 served)
  pub broke : Broke
  pub status_is : status ≡ 3

-- Connections were served in their order: the first of those that come, at the moments that come, and these have ended.
-- What was asked of the hub in them, with the replies, is a run of it. If serving was to stop, it stopped at once.
pub record ServesConnections (Runs : List Input → List Reply → Type 0) (Stopped : List Connection → Type 0) (register : RegisterRows)
    (known rest : KnownConnections) (Going Over Unknown : Type 0) (Broke : List Connection → Type 0) (count : ℕ) (old new : Option (List ℕ))
    (failed after : Bool) (status : ℕ) : Type 0 where
  pub served : List Connection
  pub first : AreFirst known.coming (sent_in served)
  pub timed : AreFirst known.moments (moments_in served)
  pub ended_so : Adds known.closed rest.closed (ends_in served)
  pub each : AllByRecursion (IsServed register) served
  pub ran : Runs (inputs served) (replies served)
  pub at_once : Stopped served
  pub ended : AllServed known rest Going count old new failed after served status
      ⊎ (CutShort known rest Over Unknown count old new failed after served status
      ⊎ (LineLost known rest Going count old new after served status
      ⊎ GaveUp known rest Going (Broke served) count old new failed after served status))
