-- Defines what asking a connection with one text does.
use Rattle.std.specs.Prelude.{◌≡◌, ◌⊎◌, ℕ, false, IsTrue, IsSome, List, Result, Ok, Err, None, IfOk, OnOk}
use Rattle.sqlite_disk.specs.Disk.{MoreFaults}
use Rattle.sqlite_value.specs.Order.{Row}
use Rattle.sqlite_schema.specs.declared.schema.Schema.{Schema}
use Rattle.sqlite_resolve.specs.declared.compiled.Compiled.{Compiled}
use Rattle.sqlite.specs.Listing.{understood}
use Rattle.sqlite.specs.State.{State, HasCleanDisk, Shown, FailsToQuery, Survives, CommitsShowing}
use Rattle.sqlite.specs.declared.error.Error.{Error}
use Rattle.hub_store.specs.declared.fault.StoreFault.{StoreFault}
use Rattle.hub_store.specs.declared.fault.StoreFault.TheVariants.{Disk, Unclean}
use Rattle.hub_schema.specs.Faults.{fault_of}
use Rattle.hub_schema.specs.State.{Spares}

-- a statement that writes nothing, under any schema
abbrev pub OnlyReads : List ℕ → Type 0
OnlyReads text = (schema : Schema) (c : Compiled) → understood schema text ≡ Ok c → c.returning ≡ None

-- The outcome of a query: at Ok the answer is read from the rows shown; `Unclean` means that these rows spoil it; and
-- `Disk` means that the query failed with an error other than out of memory.
pub record Asks {X : Type 0} (Reads : List Row → X → Type 0) (Spoil : List Row → Type 0) (text : List ℕ) (params : Row)
    (old new : State) (result : Result X StoreFault) : Type 0 where
  pub reads : HasCleanDisk new → IfOk result (λ x. (rows : List Row) × Shown text params old new rows × Reads rows x)
  pub spoils : HasCleanDisk new → result ≡ Err Unclean → (rows : List Row) × Shown text params old new rows × Spoil rows
  pub disk :
      HasCleanDisk new → result ≡ Err Disk → (e : Error) × FailsToQuery text params old new e × (fault_of e ≡ Disk)
  pub same :
      HasCleanDisk new → OnlyReads text → OnOk result (IsTrue old.is_open × IsTrue new.is_open × (new.now ≡ old.now))
  pub kept : HasCleanDisk new → OnlyReads text → OnOk result (new.committed ≡ old.committed)
  pub stays :
      HasCleanDisk new → old.in_transaction ≡ false → OnlyReads text → IsTrue new.is_open →
      IsTrue old.is_open × (new.now ≡ old.now)
  pub leaves : HasCleanDisk new → OnlyReads text → Spares old new result
  pub mode : old.in_transaction ≡ false → new.in_transaction ≡ false
  pub survives : Survives old new (CommitsShowing text params old)

-- the disk has failed or refused since, the connection was shut, or the steps of its queries are limited
abbrev pub HasDiskCause : State → State → Type 0
HasDiskCause old new = MoreFaults old.faults new.faults ⊎ ((old.is_open ≡ false) ⊎ IsSome old.step_limit)

-- in tables of this schema, a fault of the disk has a cause
abbrev pub DiskHasCause : {X : Type 0} → Schema → State → State → Result X StoreFault → Type 0
DiskHasCause schema old new result =
    HasCleanDisk new → (IsTrue old.is_open → old.now.schema ≡ schema) → result ≡ Err Disk → HasDiskCause old new
