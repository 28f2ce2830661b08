-- Defines which store fault an SQL error means for a change.
use Rattle.std.specs.Prelude.{ℕ, ◌==◌, if◌then◌else◌, Result, Ok, Err}
use Rattle.sqlite.specs.declared.error.Error.{Error}
use Rattle.sqlite.specs.declared.error.Error.TheVariants.{SqliteFailure}
use Rattle.sqlite.specs.declared.error.ErrorCode.TheVariants as code
use Rattle.sqlite_schema.specs.declared.schema.Constraint.TheVariants.{Unique}
use Rattle.hub_store.specs.declared.fault.StoreFault.{StoreFault}
use Rattle.hub_store.specs.declared.fault.StoreFault.TheVariants.{Memory, Disk, Unclean}
pub use Rattle.hub_schema.specs.Faults.{fault_of}

-- a row whose key exists already does not fit
abbrev pub refusal_of : Error → StoreFault
refusal_of (SqliteFailure code.OutOfMemory) = Memory
refusal_of (SqliteFailure (code.ConstraintViolation Unique)) = Unclean
refusal_of _ = Disk

-- the result of an INSERT; and of a COMMIT or a statement whose effect is not counted
abbrev pub inserted : Result ℕ Error → Result (Unit {0}) StoreFault
inserted (Ok count) = Ok tt
inserted (Err e) = Err (refusal_of e)

abbrev pub ended : {X : Type 0} → Result X Error → Result (Unit {0}) StoreFault
ended (Ok x) = Ok tt
ended (Err e) = Err (fault_of e)

-- the result of an UPDATE that must find a row
abbrev pub placed : Result ℕ Error → Result (Unit {0}) StoreFault
placed (Ok count) = if count == 0 then Err Unclean else Ok tt
placed (Err e) = Err (fault_of e)
