-- Defines the replies of the hub.
use Rattle.std.specs.Prelude.{ℕ, true, false, List, [], ◌∷◌, ◌++◌, length, codes, Option, Some, None}
use Rattle.std.specs.Fmt.{decimal}
use Rattle.std.specs.List.{list_any}
use Rattle.edi_envelope.specs.declared.interchange.Interchange.{Interchange}
use Rattle.edi_envelope.specs.declared.interchange.RawMessage.{RawMessage}
use Rattle.hub_tables.specs.declared.rows.MailRow.{MailRow}
use Rattle.hub_law.specs.MailText.{entry_text}
use Rattle.hub_law.specs.Told.{Told, Accepted, Repeated, Refused, is_refused}
use Rattle.hub_law.specs.Widths.{line}
use Rattle.hub_requests.specs.declared.reply.Outcome.{Outcome}
use Rattle.hub_requests.specs.declared.reply.Outcome.TheVariants.{Done, Bad, Denied, Unknown, Stopped}
use Rattle.hub_requests.specs.declared.reply.Reply.{Reply}

abbrev pub reply : Outcome → List ℕ → Reply
reply outcome body = record { outcome = outcome; refused = false; body = body }

abbrev pub done : List ℕ → Reply
done = reply Done

abbrev pub denied : Reply
denied = reply Denied (line (codes "denied" ∷ []))

abbrev pub unknown : Reply
unknown = reply Unknown (line (codes "unknown" ∷ []))

abbrev pub stopped_line : List ℕ
stopped_line = line (codes "stopped" ∷ [])

abbrev pub stopped : Reply
stopped = reply Stopped stopped_line

-- the words that report a result
abbrev pub told_words : Told → List (List ℕ)
told_words Accepted = codes "accepted" ∷ []
told_words Repeated = codes "repeated" ∷ []
told_words (Refused code) = codes "refused" ∷ code ∷ []

-- the first line of a reply: the reference of the interchange, and how many messages it has
abbrev pub interchange_line : Interchange → List ℕ
interchange_line i = line (codes "interchange" ∷ i.head.reference ∷ codes "messages" ∷ decimal (length i.messages) ∷ [])

-- a line for each message: its reference, its type and its result
abbrev pub message_lines : List RawMessage → List Told → List ℕ
message_lines [] told = []
message_lines (message ∷ messages) [] = []
message_lines (message ∷ messages) (told ∷ others) =
    line (message.reference ∷ message.kind ∷ told_words told) ++ message_lines messages others

-- the line of the interchange, then one line for each message that has a result
abbrev pub reply_lines : Interchange → List Told → List ℕ
reply_lines i told = interchange_line i ++ message_lines i.messages told

-- the reply to an upload whose text or envelope has a fault
abbrev pub refused_reply : List ℕ → Reply
refused_reply code = record { outcome = Bad; refused = true; body = line (codes "refused" ∷ code ∷ []) }

-- the reply to an upload, from the results of all its messages; `cut_reply`: of those before it was stopped
abbrev pub whole_reply : Interchange → List Told → Reply
whole_reply i told = record { outcome = Done; refused = list_any is_refused told; body = reply_lines i told }

abbrev pub cut_reply : Interchange → List Told → Reply
cut_reply i told = record {
  outcome = Stopped;
  refused = list_any is_refused told;
  body = reply_lines i told ++ stopped_line;
}

-- the reply to a cancellation or a join, each of which is one act
abbrev pub act_reply : Told → Reply
act_reply told = record { outcome = Done; refused = is_refused told; body = line (told_words told) }

-- the reply to a request for a mailbox entry
abbrev pub entry_reply : List ℕ → Option MailRow → Reply
entry_reply hub None = unknown
entry_reply hub (Some entry) = done (entry_text hub entry)
