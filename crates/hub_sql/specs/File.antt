-- Defines what opening a file can return, depending on what it and the log beside it held.
use Rattle.std.specs.Prelude.{◌≡◌, ◌⊎◌}
use Rattle.sqlite.specs.Files.{file_state, over_files, IsOpened, IsCleanLeft, FailsToOpenFiles, LeavesFiles}
use Rattle.sqlite.specs.declared.error.Error.{Error}
use Rattle.hub_schema.specs.Faults.{fault_of}
use Rattle.sqlite.specs.Held.{Held}
use Rattle.sqlite.specs.Start.{FindsIn}
use Rattle.sqlite.specs.State.{HasCleanDisk}
use Rattle.sqlite_disk.specs.declared.Disk as disk
use Rattle.sqlite_disk.specs.declared.Files.{Files as Pair}
use Rattle.sqlite_store.specs.declared.store.FileStore.{FileStore}
use Rattle.sqlite_wal.specs.Recovery.{Image}
use Rattle.hub_store.specs.declared.fault.StoreFault.{StoreFault}
use Rattle.hub_store.specs.declared.fault.StoreFault.TheVariants.{Memory, Disk}
use Rattle.hub_parties.specs.Rows.{RegisterRows}
use Rattle.hub_sql.specs.Founding.{Founds, RefusesFounding}
use Rattle.hub_sql.specs.Opening.{Adopts, Refuses}
use Rattle.hub_sql.specs.Stored.{Stored}
use Rattle.hub_sql.specs.declared.fault.FoundFault.{FoundFault}
use Rattle.hub_sql.specs.declared.fault.FoundFault.TheVariants as found
use Rattle.hub_sql.specs.declared.file.LeftOfFile.{LeftOfFile}
use Rattle.hub_sql.specs.declared.file.LeftOfFile.TheVariants.{Nothing, Files, Returned}

module _ {D : Type 0} {g : disk.Ghosts D} where
  -- a connection that was opened over files with this content: its rows are theirs
  pub record IsOver (image : Image) (conn : Held (FileStore D g)) : Type 0 where
    pub opened : HasCleanDisk (file_state conn) → IsOpened conn
    pub found : HasCleanDisk (file_state conn) → FindsIn image (file_state conn)

  -- the store of such a connection, as `adopt` makes it
  abbrev pub AdoptsFiles : Image → Stored (FileStore D g) → Type 0
  AdoptsFiles image store =
      (conn : Held (FileStore D g)) × IsOver image conn × Adopts over_files (file_state conn) store

  -- the store of such a connection, as `found` makes it
  abbrev pub FoundsFiles : RegisterRows → Image → Stored (FileStore D g) → Type 0
  FoundsFiles register image store =
      (conn : Held (FileStore D g)) × IsOver image conn × Founds over_files register (file_state conn) store

  -- What is left if no database was opened: nothing, and only which faults are possible is said; or files that could
  -- not be read. They still hold what they held, and the fault is an error with which SQL fails to open such files.
  abbrev pub LeavesUnopened : (Pair D → Type 0) → StoreFault → LeftOfFile D g → Type 0
  LeavesUnopened IsFresh fault Nothing = (fault ≡ Memory) ⊎ (fault ≡ Disk)
  LeavesUnopened IsFresh fault (Files left) =
      (e : Error) × (fault ≡ fault_of e)
      × ((files : Pair D) × IsFresh files × (IsCleanLeft left → FailsToOpenFiles files left e × LeavesFiles files left))
  LeavesUnopened IsFresh fault (Returned back) = ⊥

  -- what is left with a fault: as above, or a connection over such files, as `adopt` returns it
  abbrev pub LeavesFile : (Pair D → Type 0) → Image → StoreFault → LeftOfFile D g → Type 0
  LeavesFile IsFresh image fault (Returned back) =
      (conn : Held (FileStore D g)) × IsOver image conn × Refuses over_files (file_state conn) back fault
  LeavesFile IsFresh image fault left = LeavesUnopened IsFresh fault left

  -- what is left with a fault: as above, or a connection over such files, as `found` returns it
  abbrev pub LeavesUnfounded : (Pair D → Type 0) → RegisterRows → Image → FoundFault → LeftOfFile D g → Type 0
  LeavesUnfounded IsFresh register image fault (Returned back) =
      (conn : Held (FileStore D g)) × IsOver image conn
      × RefusesFounding over_files register (file_state conn) back fault
  LeavesUnfounded IsFresh register image fault left =
      (unopened : StoreFault) × (fault ≡ found.Store unopened) × LeavesUnopened IsFresh unopened left
