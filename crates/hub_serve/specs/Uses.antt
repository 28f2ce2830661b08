-- Defines how a socket and a listener are used, in order, if that is known.
use Rattle.std.specs.Prelude.{◌≡◌, ℕ, Bool, List, [], ◌∷◌, Option, Result, Ok, Err, IfSome}
use Rattle.std.specs.Time.{instant_nanos}
use Rattle.std.specs.IoError.{error_kind}
use Rattle.std.specs.declared.io.Error.{Error}
use Rattle.std.specs.declared.io.ErrorKind.{ErrorKind}
use Rattle.std.specs.declared.time.Instant.{Instant}

-- One use of a socket: its clock gave this moment, in nanoseconds; the longest wait of a read or of a write was set;
-- bytes were read or written; the client was told that nothing more is sent; or the socket was asked whether bytes have
-- arrived that were not read, with this answer.
pub data Use : Type 0 where
  told : ℕ → Use
  read_wait : ℕ → Use
  write_wait : ℕ → Use
  read : Use
  write : Use
  end_sending : Use
  has_more : Bool → Use

abbrev pub Uses : Type 0
Uses = Option (List Use)

-- what the clock gave, if it gave anything
abbrev pub told_by : Result Instant Error → List Use
told_by (Ok instant) = told (instant_nanos instant) ∷ []
told_by (Err error) = []

-- the wait that was set, if setting it succeeded
abbrev pub set_by : Result (Unit {0}) Error → Use → List Use
set_by (Ok done) wait = wait ∷ []
set_by (Err error) wait = []

-- nothing has been done with it yet
abbrev pub IsUnused : Uses → Type 0
IsUnused uses = IfSome uses (λ all. all ≡ [])

-- One thing that a listener did: it accepted a connection, or none because of such an error; or it closed a socket that
-- had been used in this way.
pub data Deed : Type 0 where
  came : Deed
  failed : ErrorKind → Deed
  closed : Uses → Deed

abbrev pub Deeds : Type 0
Deeds = Option (List Deed)

-- what `accept` returned
abbrev pub deed_of : {T : Type 0} → Result T Error → Deed
deed_of (Ok socket) = came
deed_of (Err error) = failed (error_kind error)
