-- What is found of a database file.
use Rattle.sqlite.specs.Files.{file_state}
use Rattle.sqlite.specs.Held.{Held}
use Rattle.sqlite.specs.State.{HasCleanDisk}
use Rattle.sqlite_disk.specs.declared.Disk as disk
use Rattle.sqlite_store.specs.declared.store.FileStore.{FileStore}
use Rattle.sqlite_wal.specs.Recovery.{Image}
use Rattle.hub_sql.specs.File.{IsOver}
use Rattle.hub_audit.specs.Audit.{Checks}
use Rattle.hub_audit.specs.declared.audit.Audit.{Audit}

module _ {D : Type 0} {g : disk.Ghosts D} where
  -- a connection was opened over files that held this, and the database that it showed is as is said, if the disk has
  -- returned what was written to it until the connection was given back
  abbrev pub ChecksFile : Image → Audit × Held (FileStore D g) → Type 0
  ChecksFile image found =
      (conn : Held (FileStore D g)) × IsOver image conn
      × (HasCleanDisk (file_state found.1) → Checks (file_state conn) (file_state found.1) found.0)
