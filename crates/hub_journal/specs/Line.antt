-- Defines the journal's line for a connection.
use Rattle.std.specs.Prelude.{ℕ, ◌==◌, if◌then◌else◌, List, [], ◌++◌, codes, decimal, length, take, Option, Some, None}
use Rattle.hub_journal.specs.Moment.{rfc3339}
use Rattle.hub_journal.specs.Reply.{reply_in, shown}
use Rattle.hub_journal.specs.Request.{MethodAndTarget, is_told, request_in}
use Rattle.hub_journal.specs.declared.line.ConnectionEnd.{ConnectionEnd}
use Rattle.hub_journal.specs.declared.line.ConnectionEnd.TheVariants.{Answered, Gone, ReadFailed, TimedOut, WriteFailed}

abbrev pub moment_text : Option ℕ → List ℕ
moment_text None = codes "-"
moment_text (Some moment) = rfc3339 moment

-- method and target, at most 200 bytes
abbrev pub request_text : Option MethodAndTarget → List ℕ
request_text None = codes "-"
request_text (Some (method, target)) = take 200 (shown method ++ (codes " " ++ shown target))

-- the status, or the word for why there was no complete response
abbrev pub outcome_text : ConnectionEnd → List ℕ
outcome_text (Answered status) = decimal status
outcome_text Gone = codes "gone"
outcome_text ReadFailed = codes "read"
outcome_text TimedOut = codes "timeout"
outcome_text WriteFailed = codes "write"

-- a text after a space; nothing for an empty text
abbrev pub spaced : List ℕ → List ℕ
spaced text = if length text == 0 then [] else codes " " ++ text

-- the reply, if the request is an upload or a cancellation
abbrev pub reply_text : Option MethodAndTarget → List ℕ → List ℕ
reply_text None sent = []
reply_text (Some request) sent = if is_told request then spaced (reply_in sent) else []

-- The line of a connection, from what was read and sent: moment, number, request, status and reply, as in
-- `2026-11-28T18:30:00Z 17 POST /p/5412345000006/cancellations 200 refused B17`.
abbrev pub line : Option ℕ → ℕ → List ℕ → List ℕ → ConnectionEnd → List ℕ
line moment number read sent outcome =
    moment_text moment ++ (codes " " ++ (decimal number ++ (codes " " ++ (request_text (request_in read)
    ++ (codes " " ++ (outcome_text outcome ++ (reply_text (request_in read) sent ++ codes "\n")))))))
