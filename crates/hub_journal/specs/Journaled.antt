-- Defines the lines that a journal gets for connections.
use Rattle.std.specs.Prelude.{◌≡◌, ℕ, ◌+◌, Bool, if◌then◌else◌, List, [], ◌∷◌, Option, min, Result, Ok, Err}
use Rattle.hub_serve.specs.Connections.{Adds}
use Rattle.hub_serve.specs.declared.connections.NoConnection.{NoConnection}
use Rattle.hub_serve.specs.declared.connections.NoConnection.TheVariants as no
use Rattle.hub_serve.specs.declared.line.Ending.{Ending}
use Rattle.hub_serve.specs.declared.line.Ending.TheVariants as ended
use Rattle.hub_journal.specs.Line.{line}
use Rattle.hub_journal.specs.declared.line.ConnectionEnd.{ConnectionEnd}
use Rattle.hub_journal.specs.declared.line.ConnectionEnd.TheVariants.{Answered, Gone, ReadFailed, TimedOut, WriteFailed}

-- how a connection ended, from its ending and from whether the last failed read timed out
abbrev pub outcome_of : Ending → Bool → ConnectionEnd
outcome_of (ended.Answered served) timed_out = Answered served.status
outcome_of ended.Gone timed_out = Gone
outcome_of ended.ReadFailed timed_out = if timed_out then TimedOut else ReadFailed
outcome_of ended.WriteFailed timed_out = WriteFailed

-- the next number, which stays at the greatest of 64 bits
abbrev pub next_number : ℕ → ℕ
next_number number = min (number + 1) 18_446_744_073_709_551_615

-- each connection takes a number, also one whose client disconnected
abbrev pub numbered : {S : Type 0} → ℕ → Result S NoConnection → ℕ
numbered number (Ok sides) = next_number number
numbered number (Err no.Gone) = next_number number
numbered number (Err no.Over) = number

-- the lines of a journal, if they are known
abbrev pub Lines : Type 0
Lines = Option (List (List ℕ))

-- if the client disconnected before its connection was accepted, the journal gets a line for it
abbrev pub TellsGone : {S : Type 0} → Lines → Lines → Option ℕ → ℕ → Result S NoConnection → Type 0
TellsGone old new moment number (Ok sides) = new ≡ old
TellsGone old new moment number (Err no.Gone) = Adds old new (line moment number [] [] Gone ∷ [])
TellsGone old new moment number (Err no.Over) = new ≡ old
