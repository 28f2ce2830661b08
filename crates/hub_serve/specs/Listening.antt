-- Defines how connections from the network are taken from a listener, timed, and closed.
use Rattle.std.specs.Prelude.{◌≡◌, ◌⊎◌, ℕ, Bool, true, false, [], ◌∷◌, Some, None, IfSome, Result, Ok, Err}
use Rattle.std.specs.Duration.{as_nanos}
use Rattle.std.specs.Time.{instant_nanos}
use Rattle.std.specs.declared.io.ErrorKind.{ErrorKind}
use Rattle.std.specs.declared.io.ErrorKind.TheVariants.{ConnectionAborted, ConnectionReset}
use Rattle.std.specs.declared.time.Instant.{Instant}
use Rattle.hub_serve.specs.Connections.{Adds}
use Rattle.hub_serve.specs.Timed.{HasBegun, Lingers, Time}
use Rattle.hub_serve.specs.Uses.{Deeds, Uses, came, closed, failed, has_more, told}
use Rattle.hub_serve.specs.declared.connections.NoConnection.{NoConnection}
use Rattle.hub_serve.specs.declared.connections.NoConnection.TheVariants.{Gone, Over}
use Rattle.hub_serve.specs.declared.line.Ending.{Ending}
use Rattle.hub_serve.specs.declared.line.Ending.TheVariants.{Answered}

-- one side of a connection: its socket, its time, and whether a read or a write has failed
abbrev pub ConnectionSide : Type 0 → Type 0
ConnectionSide T = (T × Time) × Bool

-- Each side may last this many nanoseconds: the reader's time has begun, the writer's has not, and nothing has failed.
pub record AtBegin {T : Type 0} (nanos : ℕ) (reader writer : ConnectionSide T) : Type 0 where
  pub reader_lasts : as_nanos reader.0.1.1 ≡ nanos
  pub writer_lasts : as_nanos writer.0.1.1 ≡ nanos
  pub reader_runs : HasBegun reader.0.1
  pub writer_waits : writer.0.1.0 ≡ None
  pub read : reader.1 ≡ false
  pub write : writer.1 ≡ false

-- the time of a side began when its clock said so, and nothing else was done with its socket
pub record BeginsNow {T : Type 0} (uses : T → Uses) (side : ConnectionSide T) : Type 0 where
  pub begun : Instant
  pub begun_is : side.0.1.0 ≡ Some begun
  pub asked : IfSome (uses side.0.0) (λ all. all ≡ told (instant_nanos begun) ∷ [])

-- what an error of `accept` means: one client disconnected before it was taken, or no more can be taken
abbrev pub no_connection : ErrorKind → NoConnection
no_connection ConnectionAborted = Gone
no_connection ConnectionReset = Gone
no_connection _ = Over

-- A connection arrived; or none, and the error says whether others may follow; or one that had to be closed at once.
abbrev pub Accepts : {S : Type 0} → Deeds → Deeds → Result S NoConnection → Type 0
Accepts before after (Ok sides) = Adds before after (came ∷ [])
Accepts before after (Err none) =
    ((kind : ErrorKind) × (none ≡ no_connection kind) × Adds before after (failed kind ∷ []))
    ⊎ ((uses : Uses) × (none ≡ Gone) × Adds before after (came ∷ closed uses ∷ []))

-- a socket lingers for a second if bytes have arrived that were not read, and otherwise stays as it is
abbrev pub LingersIf : Bool → Uses → Uses → Type 0
LingersIf true before after = Lingers 1_000_000_000 before after
LingersIf false before after = after ≡ before

-- the socket was asked whether there are such bytes
pub record LingersIfMore (before after : Uses) : Type 0 where
  pub more : Bool
  pub asked : Uses
  pub asks : Adds before asked (has_more more ∷ [])
  pub lingers : LingersIf more asked after

-- If the request was not read to its end, the socket lingers for a second in any case.
abbrev pub LingersUnless : Bool → Uses → Uses → Type 0
LingersUnless true before after = LingersIfMore before after
LingersUnless false before after = Lingers 1_000_000_000 before after

-- the socket lingers in this way after an answer; after any other ending it stays as it is
abbrev pub LingersAfter : Ending → Uses → Uses → Type 0
LingersAfter (Answered served) before after = LingersUnless served.read_to_end before after
LingersAfter _ before after = after ≡ before

-- both sockets of a connection were closed
pub record Closes (ending : Ending) (reader writer : Uses) (before after : Deeds) : Type 0 where
  pub last : Uses
  pub lingered : LingersAfter ending reader last
  pub both : Adds before after (closed writer ∷ closed last ∷ [])
