-- Defines what is kept of the bytes that pass through a reader or a writer.
use Rattle.std.specs.Prelude.{ℕ, Bool, true, false, List, take, Result, Ok, Err}
use Rattle.std.specs.IoError.{error_kind}
use Rattle.std.specs.declared.io.Error.{Error}
use Rattle.std.specs.declared.io.ErrorKind.{ErrorKind}
use Rattle.std.specs.declared.io.ErrorKind.TheVariants as kind
use Rattle.hub_journal.specs.Front.{kept}

-- the kept bytes after a call that passed this many of `bytes`
abbrev pub passed : List ℕ → Result ℕ Error → List ℕ → List ℕ
passed front (Ok count) bytes = kept front (take count bytes)
passed front (Err error) bytes = front

-- whether the error means that a call timed out
abbrev pub is_timeout : ErrorKind → Bool
is_timeout kind.TimedOut = true
is_timeout kind.WouldBlock = true
is_timeout _ = false

-- whether the last failed call timed out
abbrev pub timed_out : Bool → Result ℕ Error → Bool
timed_out before (Ok count) = before
timed_out before (Err error) = is_timeout (error_kind error)
