-- Shows what is left if no database was opened.
use Rattle.std.proofs.Common.{refl}
use Rattle.sqlite_disk.specs.declared.Disk as disk
use Rattle.sqlite_disk.specs.declared.Files.{Files as Pair}
use Rattle.sqlite_wal.specs.Recovery.{Image}
use Rattle.hub_parties.specs.Rows.{RegisterRows}
use Rattle.hub_store.specs.declared.fault.StoreFault.{StoreFault}
use Rattle.hub_sql.specs.File.{LeavesFile, LeavesUnfounded, LeavesUnopened}
use Rattle.hub_sql.specs.declared.fault.FoundFault.TheVariants as found
use Rattle.hub_sql.specs.declared.file.LeftOfFile.{LeftOfFile}
use Rattle.hub_sql.specs.declared.file.LeftOfFile.TheVariants.{Nothing, Files, Returned}

module _ {D : Type 0} {g : disk.Ghosts D} (IsFresh : Pair D → Type 0) (image : Image) (fault : StoreFault) where
  pub left_unopened : (left : LeftOfFile D g) → LeavesUnopened IsFresh fault left → LeavesFile IsFresh image fault left
  left_unopened Nothing h = h
  left_unopened (Files left) h = h
  left_unopened (Returned back) h = absurd h

  pub left_unfounded : (register : RegisterRows) (left : LeftOfFile D g) → LeavesUnopened IsFresh fault left
      → LeavesUnfounded IsFresh register image (found.Store fault) left
  left_unfounded register Nothing h = (fault, refl, h)
  left_unfounded register (Files left) h = (fault, refl, h)
  left_unfounded register (Returned back) h = absurd h
