-- Defines what store founding a hub makes, and why it can fail.
use Rattle.std.specs.Prelude.{◌≡◌, ◌≢◌, ◌⊎◌, ⊤, true, false, List, None}
use Rattle.sqlite.specs.Held.{Held, state}
use Rattle.sqlite.specs.State.{State, HasCleanDisk}
use Rattle.sqlite_trees.specs.Tree.{Trees}
use Rattle.sqlite_trees.specs.declared.store.Store.{Ghosts}
use Rattle.hub_founding.specs.Fits.{fits, founded_beside}
use Rattle.hub_parties.specs.Rows.{RegisterRows}
use Rattle.hub_parties.specs.declared.row.SupplierRow.{SupplierRow}
use Rattle.hub_tables.specs.Register.{HoldsRegister}
use Rattle.hub_tables.specs.Tables.{Tables, empty}
use Rattle.hub_store.specs.declared.fault.StoreFault.{StoreFault}
use Rattle.hub_store.specs.declared.fault.StoreFault.TheVariants.{Memory, Disk, Unclean, Version}
use Rattle.hub_schema.specs.Rows.{traffic_in}
use Rattle.hub_schema.specs.Schema.{no_schema}
use Rattle.hub_schema.specs.State.{IsFounded}
use Rattle.hub_rows.specs.Asks.{HasDiskCause}
use Rattle.hub_rules.specs.Laws.{SoundHub}
use Rattle.hub_rules.specs.Sound.{Sound}
use Rattle.hub_sql.specs.Opening.{IsAsBefore, IsKnown, IsReady, IsSpared, ComesBack, ComesOpen, ComesWith}
use Rattle.hub_sql.specs.Stored.{Stored, content, left, honest}
use Rattle.hub_sql.specs.Version.{HoldsTables, schema_of}
use Rattle.hub_sql.specs.declared.fault.FoundFault.{FoundFault}
use Rattle.hub_sql.specs.declared.fault.FoundFault.TheVariants as found
use Rattle.hub_sql.specs.declared.returned.Returned.{Returned}
use Rattle.hub_sql.specs.declared.returned.Returned.TheVariants.{Connection, Store}
use Rattle.hub_sql.specs.declared.version.Version.TheVariants.{First}

-- what was there before a hub is founded: no table, or the tables of schema 1 with these rows
abbrev pub Stood : State → Tables → Type 0
Stood was before =
    ((was.now.schema ≡ no_schema) × (before ≡ empty))
    ⊎ (HoldsTables First was.now × (before ≡ traffic_in was.committed.trees))

-- the fault of a failed founding, or of a number that was not set: it is never `Unclean`, since the rows of a register
-- have the form of their kind
abbrev pub laying_of : StoreFault → StoreFault
laying_of Memory = Memory
laying_of fault = Disk

-- the faults of a founding that had begun
abbrev pub IsOfFounding : FoundFault → Type 0
IsOfFounding fault = (fault ≡ found.Rows) ⊎ ((fault ≡ found.Store Memory) ⊎ (fault ≡ found.Store Disk))

-- A store with the rows of the register beside those that were there, which it fits: a sound start if these were sound
-- for some suppliers. A crash leaves exactly these rows.
pub record Founds {S : Type 0} (g : Ghosts S) (register : RegisterRows) (was : State) (store : Stored S) : Type 0 where
  pub before : Tables
  pub whole : store.fault ≡ None
  pub stood : honest g store → Stood was before
  pub fit : honest g store → fits register before ≡ true
  pub rows : honest g store → content g store ≡ founded_beside before register
  pub holds : honest g store → HoldsRegister (content g store)
  pub sound : honest g store → (suppliers : List SupplierRow) → Sound suppliers before → SoundHub (content g store)
  pub crash : honest g store → (t : Tables) → left g store t → t ≡ content g store
  pub clean : honest g store → HasCleanDisk was

-- what a failed founding may leave, besides what was committed: a hub's tables, with the rows of the register beside
-- these, which it fits
abbrev pub MayBeBeside : Tables → RegisterRows → Trees → Type 0
MayBeBeside before register trees =
    (fits register before ≡ true) × IsFounded (founded_beside before register) trees

abbrev pub MayBeFounded : RegisterRows → State → Trees → Type 0
MayBeFounded register was trees = (before : Tables) × Stood was before × MayBeBeside before register trees

-- The disk failed; or it failed in a connection that was opened again, which shows the rows that were committed, or
-- whose schema is not schema 1.
abbrev pub FailsReopened : {S : Type 0} → Ghosts S → State → Returned S → Type 0
FailsReopened {S} g was (Connection conn) = HasCleanDisk (state g conn) →
    HasDiskCause was (state g conn)
    ⊎ ((over : Held S) × IsReady (state g over) × ((state g over).now.trees ≡ was.committed.trees)
    × (over.step_limit ≡ was.step_limit) × ((over.schema ≢ schema_of First) ⊎ HasDiskCause (state g over) (state g conn)))
FailsReopened g was (Store store) = ⊤

-- When founding fails. `Version`: the connection comes back as it was, and it has tables, but not those of schema 1. If
-- they are of another schema, there is no other fault; if only their number differs, the other faults are `Memory` and
-- a fault of the disk with its cause. `Rows`: the connection has the tables of schema 1, still unchanged, and the
-- register does not fit their rows; then the only other faults are `Memory` and a failed disk. `Unclean` is never
-- reported, because there were no rows of a register. The connection comes back, unless its storage could not be opened
-- again, and its schema is as it was, except perhaps after a fault of the disk.
pub record RefusesFounding {S : Type 0} (g : Ghosts S) (register : RegisterRows) (was : State) (back : Returned S)
    (fault : FoundFault) : Type 0 where
  pub version :
      fault ≡ found.Store Version →
      ComesBack g back (λ now. ((before : Tables) → ¬ Stood was before) × IsAsBefore was now)
  pub other : was.now.schema ≢ no_schema → was.now.schema ≢ schema_of First → fault ≡ found.Store Version
  pub number : ((before : Tables) → ¬ Stood was before) → fault ≢ found.Store Version → fault ≢ found.Store Memory →
      ComesWith g back (λ now. (fault ≡ found.Store Disk) × HasDiskCause was now)
  pub rows :
      fault ≡ found.Rows →
      ComesBack g back (λ now. HoldsTables First was.now × (fits register (traffic_in was.committed.trees) ≡ false)
      × (now.now.schema ≡ was.now.schema))
  pub unfit : HoldsTables First was.now → fits register (traffic_in was.committed.trees) ≡ false →
      fault ≢ found.Rows → fault ≢ found.Store Memory → FailsReopened g was back
  pub unclean : fault ≢ found.Store Unclean
  pub usable : (why : StoreFault) → fault ≡ found.Store why → ComesOpen g was First back why
  pub spared : IsSpared g ((fault ≡ found.Store Disk) × IsKnown was) (MayBeFounded register was) was back
