-- Defines what store opening makes of a connection, and why it can fail.
use Rattle.std.specs.Prelude.{◌≡◌, ◌≢◌, ◌≤◌, ◌⊎◌, ⊤, IsTrue, true, false, None}
use Rattle.sqlite_disk.specs.Disk.{MoreFaults}
use Rattle.sqlite.specs.Steps.{FailsToOpen}
use Rattle.sqlite.specs.declared.error.Error.{Error}
use Rattle.sqlite.specs.Held.{Held, state}
use Rattle.sqlite.specs.Effect.{IsDatabase}
use Rattle.sqlite.specs.State.{State, HasCleanDisk}
use Rattle.sqlite_trees.specs.Tree.{Trees}
use Rattle.sqlite_trees.specs.View.{IsClean}
use Rattle.sqlite_trees.specs.declared.store.Store.{Ghosts}
use Rattle.hub_founding.specs.Founding.{HoldsNone}
use Rattle.hub_tables.specs.Register.{HoldsRegister}
use Rattle.hub_tables.specs.Tables.{Tables}
use Rattle.hub_store.specs.declared.fault.StoreFault.{StoreFault}
use Rattle.hub_store.specs.declared.fault.StoreFault.TheVariants.{Memory, Disk, Unclean, Version}
use Rattle.hub_schema.specs.Faults.{fault_of}
use Rattle.hub_schema.specs.Rows.{tables_in}
use Rattle.hub_schema.specs.Schema.{hub_schema}
use Rattle.hub_schema.specs.State.{AreTables, IsFounded, Never}
use Rattle.hub_rows.specs.Asks.{HasDiskCause}
use Rattle.hub_sql.specs.Stored.{Stored, content, left, honest}
use Rattle.hub_sql.specs.Version.{HoldsHub, HoldsTables, schema_of, tables_of}
use Rattle.hub_sql.specs.declared.returned.Returned.{Returned}
use Rattle.hub_sql.specs.declared.returned.Returned.TheVariants.{Connection, Store}
use Rattle.hub_sql.specs.declared.version.Version.{Version as Stage}
use Rattle.hub_sql.specs.declared.version.Version.TheVariants.{First, Second}

-- the connection is open, shows what was committed, and obeys its schema
pub record IsReady (s : State) : Type 0 where
  pub up : IsTrue s.is_open
  pub shown : s.now ≡ s.committed
  pub sound : IsDatabase s.now

-- the same database is shown, and no crash leaves what it did not leave before
pub record IsAsBefore (was now : State) : Type 0 where
  pub shown : now.now ≡ was.now
  pub committed : now.committed ≡ was.committed
  pub crash : (trees : Trees) → now.may_leave trees → was.may_leave trees

-- A store with the rows that the connection had, in schema 2 or 3, which hold a register. A crash leaves exactly these
-- rows.
pub record Adopts {S : Type 0} (g : Ghosts S) (was : State) (store : Stored S) : Type 0 where
  pub whole : store.fault ≡ None
  pub hub : honest g store → HoldsHub was.now
  pub rows : honest g store → content g store ≡ tables_in was.committed.trees
  pub holds : honest g store → HoldsRegister (content g store)
  pub crash : honest g store → (t : Tables) → left g store t → t ≡ content g store
  pub clean : honest g store → HasCleanDisk was

-- after a crash: what it could leave before, the rows that were committed, or what else may be
abbrev pub LeftAfter : (Trees → Type 0) → State → Trees → Type 0
LeftAfter MayBe was trees = was.may_leave trees ⊎ ((trees ≡ was.committed.trees) ⊎ MayBe trees)

-- what may be left of the tables of a version with these rows: if they are those of schema 2, the same rows in schema 3
abbrev pub MayBeRenumbered : Stage → Tables → Trees → Type 0
MayBeRenumbered version rows trees = (version ≡ Second) × IsFounded rows trees

-- what may be left if the tables were those of schema 2
abbrev pub MayBeRaised : State → Trees → Type 0
MayBeRaised was trees = HoldsTables Second was.now × IsFounded (tables_in was.committed.trees) trees

-- the schema is that of a version
abbrev pub IsKnown : State → Type 0
IsKnown was = (version : Stage) × (was.now.schema ≡ schema_of version)

-- A connection that comes back is as usable as it was: if it is not shut, it shows the rows that were committed and has
-- the schema that it had, unless another may have been read.
pub record SparesConnection {S : Type 0} (g : Ghosts S) (Another : Type 0) (MayBe : Trees → Type 0) (was : State)
    (conn : Held S) : Type 0 where
  pub idle : conn.in_transaction ≡ false
  pub limit : conn.step_limit ≡ was.step_limit
  pub clean : HasCleanDisk (state g conn) → HasCleanDisk was
  pub rows :
      HasCleanDisk (state g conn) → IsTrue (state g conn).is_open → (state g conn).now.trees ≡ was.committed.trees
  pub schema :
      HasCleanDisk (state g conn) → IsTrue (state g conn).is_open →
      (conn.schema ≡ was.now.schema) ⊎ Another
  pub crash : HasCleanDisk (state g conn) → (trees : Trees) → (state g conn).may_leave trees → LeftAfter MayBe was trees

-- so does the storage that was below it, once it is opened again
pub record SparesStore {S : Type 0} (g : Ghosts S) (was : State) (store : S) : Type 0 where
  pub clean : IsClean (g.view store) → HasCleanDisk was
  pub rows : IsClean (g.view store) → IsTrue (g.view store).is_open → (g.view store).trees ≡ was.committed.trees
  pub crash : IsClean (g.view store) → (trees : Trees) → g.recovers store trees → was.may_leave trees

-- no committed row is lost, whatever the fault
abbrev pub IsSpared : {S : Type 0} → Ghosts S → Type 0 → (Trees → Type 0) → State → Returned S → Type 0
IsSpared g Another MayBe was (Connection conn) = SparesConnection g Another MayBe was conn
IsSpared g Another MayBe was (Store store) = SparesStore g was store

-- Opening the storage failed with an error that is reported as this fault: the storage held the rows that were
-- committed, and had counted every fault that the connection had.
pub record FailedToOpen {S : Type 0} (g : Ghosts S) (was : State) (below store : S) (fault : StoreFault) : Type 0 where
  pub error : Error
  pub rows : (g.view below).trees ≡ was.committed.trees
  pub counted : was.faults ≤ g.faults below
  pub fails : FailsToOpen (g.view below).trees (MoreFaults (g.faults below) (g.faults store)) error
  pub is : fault ≡ fault_of error

-- why storage is not opened again: it is broken, it lacks a table of the version, or opening it failed
abbrev pub StaysShut : {S : Type 0} → Ghosts S → State → Stage → S → StoreFault → Type 0
StaysShut {S} g was version store fault =
    ((g.view store).is_broken ≡ true) ⊎ ((¬ AreTables (g.view store).shape (tables_of version))
    ⊎ ((below : S) × FailedToOpen g was below store fault))

-- the connection comes back; or, if it had the schema of this version, storage that could not be opened again
abbrev pub ComesOpen : {S : Type 0} → Ghosts S → State → Stage → Returned S → StoreFault → Type 0
ComesOpen g was version (Connection conn) fault = ⊤
ComesOpen g was version (Store store) fault =
    (was.now.schema ≡ schema_of version) × (IsClean (g.view store) → StaysShut g was version store fault)

-- if the disk has returned what was written, a connection comes back, and this holds of it
abbrev pub ComesWith : {S : Type 0} → Ghosts S → Returned S → (State → Type 0) → Type 0
ComesWith g (Connection conn) so = HasCleanDisk (state g conn) → so (state g conn)
ComesWith g (Store store) so = IsClean (g.view store) → ⊥

-- a cause that arises later is also one from before
pub record CountsOn (was now : State) : Type 0 where
  pub faults : was.faults ≤ now.faults
  pub opened : now.is_open ≡ was.is_open
  pub limit : now.step_limit ≡ was.step_limit

-- a connection comes back, and this holds of it if the disk has returned what was written
abbrev pub ComesBack : {S : Type 0} → Ghosts S → Returned S → (State → Type 0) → Type 0
ComesBack {S} g back so = (conn : Held S) × (back ≡ Connection conn) × (HasCleanDisk (state g conn) → so (state g conn))

-- When opening fails. `Version`: the connection comes back as it was, and it has no tables, others than a hub's, or a
-- number other than 2 and 3. If they are of another schema, there is no other fault; if only their number differs, the
-- other faults are `Memory` and a fault of the disk with its cause. `Unclean`: the connection comes back as it was
-- committed, with its number unchanged, and its rows hold no register. The connection comes back, unless its storage
-- could not be opened again, and its schema is as it was, except perhaps after a fault of the disk.
pub record Refuses {S : Type 0} (g : Ghosts S) (was : State) (back : Returned S) (fault : StoreFault) : Type 0 where
  pub version : fault ≡ Version → ComesBack g back (λ now. (¬ HoldsHub was.now) × IsAsBefore was now)
  pub other : was.now.schema ≢ hub_schema → fault ≡ Version
  pub number : (¬ HoldsHub was.now) → fault ≢ Version → fault ≢ Memory →
      ComesWith g back (λ now. (fault ≡ Disk) × HasDiskCause was now)
  pub unclean : fault ≡ Unclean →
      ComesBack g back (λ now. HoldsNone (tables_in was.committed.trees)) × IsSpared g ⊥ Never was back
  pub usable : (version : Stage) × ((version ≢ First) × ComesOpen g was version back fault)
  pub spared : IsSpared g ((fault ≡ Disk) × IsKnown was) (MayBeRaised was) was back
