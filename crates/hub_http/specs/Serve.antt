-- Defines what serving one connection writes, and how it leaves the hub.
use Rattle.std.specs.Prelude.{◌≡◌, ℕ, List, codes, Option, Result, Ok, Err, IfSome}
use Rattle.std.specs.Io.KnownBytes.{Appends}
use Rattle.edi_base.specs.Buffer.{AppendsFront}
use Rattle.hub_requests.specs.declared.reply.Reply.{Reply}
use Rattle.hub_parties.specs.Rows.{RegisterRows}
use Rattle.http_messages.specs.Response.{http_text}
use Rattle.hub_http.specs.Answer.{AnswersBytes, bytes_of}
use Rattle.hub_http.specs.Question.{Question}
use Rattle.hub_http.specs.declared.answer.HttpAnswer.{HttpAnswer}
use Rattle.hub_http.specs.declared.serve.IoFault.{IoFault}
use Rattle.hub_http.specs.declared.serve.IoFault.TheVariants.{Read, Write}
use Rattle.hub_http.specs.declared.serve.Served.{Served}

-- the response
abbrev pub response : HttpAnswer → List ℕ
response answer = http_text answer.status (bytes_of answer.text)

-- The whole response of such an answer was written, and its status is returned; if a write failed, a prefix of it was
-- written; and if a read failed, nothing.
abbrev pub ResponseWritten : (HttpAnswer → Type 0) → Option (List ℕ) → Option (List ℕ) → Result Served IoFault → Type 0
ResponseWritten IsSo was is (Ok served) =
    (answer : HttpAnswer) × IsSo answer × Appends was is (response answer) × (served.status ≡ answer.status)
ResponseWritten IsSo was is (Err Read) = is ≡ was
ResponseWritten IsSo was is (Err Write) = (answer : HttpAnswer) × IsSo answer × AppendsFront was is (response answer)

-- The response to what the bytes ask was written in this way. If a read failed, the hub is as before; if a write
-- failed, it is as after the question.
abbrev pub Ended : (Question → Reply → Type 0) → Type 0 → RegisterRows → Option (List ℕ) → Option (List ℕ)
    → Option (List ℕ) → Option (List ℕ) → Result Served IoFault → Type 0
Ended Replies Same register known after was is (Ok served) =
    IfSome known (λ bytes. ResponseWritten (AnswersBytes Replies Same register bytes after) was is (Ok served))
Ended Replies Same register known after was is (Err Read) = Same × (is ≡ was)
Ended Replies Same register known after was is (Err Write) =
    IfSome known (λ bytes. ResponseWritten (AnswersBytes Replies Same register bytes after) was is (Err Write))

abbrev pub io_fault_text : IoFault → List ℕ
io_fault_text Read = codes "read"
io_fault_text Write = codes "write"
