-- Defines what holds of a connection to a hub's tables, and what each kind of call does to it.
use Rattle.std.specs.Prelude.{◌≡◌, ◌⊎◌, ℕ, pos, true, false, IsTrue, List, [], ◌∷◌, map, Result, Err, IfOk, OnOk}
use Rattle.std.specs.Prelude.{OnErr}
use Rattle.std.specs.List.{AllByRecursion}
use Rattle.sqlite_value.specs.declared.value.Value.TheVariants.{Int}
use Rattle.sqlite_value.specs.Order.{column}
use Rattle.sqlite_trees.specs.Tree.{Trees}
use Rattle.sqlite_trees.specs.View.{IsShaped}
use Rattle.sqlite_trees.specs.declared.store.Shape.{Shape}
use Rattle.sqlite_trees.specs.declared.store.Shape.TheVariants.{Table}
use Rattle.sqlite.specs.Effect.{IsDatabase}
use Rattle.sqlite.specs.Schema.{Schema}
use Rattle.sqlite.specs.State.{State, HasCleanDisk, Survives}
use Rattle.sqlite.specs.Table as declared
use Rattle.hub_tables.specs.Change.{apply_all}
use Rattle.hub_tables.specs.Sets.{Fit}
use Rattle.hub_tables.specs.Tables.{Tables}
use Rattle.hub_tables.specs.declared.change.Change.{Change}
use Rattle.hub_store.specs.Calls.{have_places}
use Rattle.hub_store.specs.Clean.{are_clean}
use Rattle.hub_store.specs.declared.fault.StoreFault.{StoreFault}
use Rattle.hub_store.specs.declared.fault.StoreFault.TheVariants.{Unclean}
use Rattle.hub_schema.specs.Rows.{tables_in}
use Rattle.hub_schema.specs.Schema.{old_schema, hub_schema, hub_tables, schema_table, traffic_tables}

-- holds of nothing
abbrev pub Never : {X : Type 0} → X → Type 0
Never x = ⊥

-- each of these numbers belongs to a table, not to an index
abbrev pub AreTables : (ℕ → Shape) → List declared.Table → Type 0
AreTables shape tables = AllByRecursion (λ table. shape table.tree ≡ Table) tables

-- the row numbers of each table rise
abbrev pub AreOrdered : Trees → Type 0
AreOrdered trees = AllByRecursion (λ table. IsShaped Table (trees table.tree)) hub_tables

-- the row numbers of each table of schema 1 rise
abbrev pub AreOldOrdered : Trees → Type 0
AreOldOrdered trees = AllByRecursion (λ table. IsShaped Table (trees table.tree)) traffic_tables

-- the schema's number is the only row of its table
abbrev pub HasNumber : ℕ → Trees → Type 0
HasNumber number trees = map (λ row. column row 1) (trees schema_table.tree) ≡ Int (pos number) ∷ []

-- the schema's number is 3
abbrev pub IsNumbered : Trees → Type 0
IsNumbered = HasNumber 3

-- the connection has all tables, whether of schema 2 or of a hub
pub record HasTables (s : State) : Type 0 where
  pub schema : s.now.schema ≡ hub_schema
  pub ordered : AreOrdered s.now.trees
  pub sound : IsDatabase s.now

-- the connection has the tables of a hub
pub record IsHub (s : State) : Type 0 where
  pub schema : s.now.schema ≡ hub_schema
  pub numbered : IsNumbered s.now.trees
  pub ordered : AreOrdered s.now.trees
  pub sound : IsDatabase s.now

-- the connection has the tables of schema 1
pub record IsOldHub (s : State) : Type 0 where
  pub schema : s.now.schema ≡ old_schema
  pub numbered : HasNumber 1 s.now.trees
  pub ordered : AreOldOrdered s.now.trees
  pub sound : IsDatabase s.now

-- these trees are all the tables of a hub, with the rows of `t` and the schema's number
pub record IsFounded (t : Tables) (trees : Trees) : Type 0 where
  pub tables : IsDatabase (record { schema = hub_schema; trees = trees })
  pub numbered : IsNumbered trees
  pub rows : tables_in trees ≡ t

-- the tables change by `change`, but only inside the transaction
pub record Makes (change : Tables → Tables) (old new : State) : Type 0 where
  pub hub : IsHub new
  pub tables : tables_in new.now.trees ≡ change (tables_in old.now.trees)
  pub committed : new.committed ≡ old.committed
  pub mode : IsTrue new.in_transaction

-- What `Unclean` implies: the changes do not fit the tables, or they set a row that does not exist, or some row is
-- malformed before or after them.
abbrev pub MayRefuse : List Change → Tables → Type 0
MayRefuse changes t =
    Fit changes t → have_places changes t ≡ true
    → (are_clean t ≡ false) ⊎ (are_clean (apply_all changes t) ≡ false)

-- if the connection is open, it has the tables of a hub
abbrev pub Holds : State → Type 0
Holds s = IsTrue s.is_open → IsHub s

-- the rows and what is committed stay the same, and a transaction is open exactly if one was before
pub record ShowsTheSame (old new : State) : Type 0 where
  pub rows : new.now ≡ old.now
  pub committed : new.committed ≡ old.committed
  pub mode : new.in_transaction ≡ old.in_transaction
  pub is_open : new.is_open ≡ old.is_open

-- No transaction is open any more, and nothing of it remains: if the connection is still open, it shows what was
-- committed.
pub record IsUndone (old new : State) : Type 0 where
  pub ended : new.in_transaction ≡ false
  pub was_open : IsTrue new.is_open → IsTrue old.is_open
  pub rows : IsTrue new.is_open → new.now ≡ old.committed
  pub committed : IsTrue new.is_open → new.committed ≡ old.committed

-- a call that writes nothing: after a fault all is as before, or a transaction that was open is undone
pub record Spares {X E : Type 0} (old new : State) (result : Result X E) : Type 0 where
  pub done : OnOk result (ShowsTheSame old new)
  pub fault : OnErr result (ShowsTheSame old new ⊎ IsUndone old new)

-- A statement in a transaction: after a fault the statement has no effect, and the transaction is still open or is
-- undone. If the transaction had ended before, nothing is done at all.
pub record StatementLeaves {X E : Type 0} (old new : State) (result : Result X E) : Type 0 where
  pub fault :
      HasCleanDisk new → IsTrue old.in_transaction → OnErr result (ShowsTheSame old new ⊎ IsUndone old new)
  pub ended : old.in_transaction ≡ false → OnOk result ⊥ × ShowsTheSame old new

-- A look-up outside a transaction, in tables of this schema for which `Are` holds: what its answer says about them,
-- that it changes nothing, and for which tables alone it can fail with `Unclean`.
pub record LooksAmong {X : Type 0} (schema : Schema) (Are : State → Type 0) (says : Tables → X → Type 0)
    (spoilt : Tables → Type 0) (old new : State) (result : Result X StoreFault) : Type 0 where
  pub answers : HasCleanDisk new → (IsTrue old.is_open → Are old) → IfOk result (says (tables_in old.now.trees))
  pub same : HasCleanDisk new → OnOk result (IsTrue old.is_open × IsTrue new.is_open × (new.now ≡ old.now))
  pub stays :
      HasCleanDisk new → old.in_transaction ≡ false → old.now.schema ≡ schema → IsTrue new.is_open →
      IsTrue old.is_open × (new.now ≡ old.now)
  pub leaves : HasCleanDisk new → Spares old new result
  pub mode : old.in_transaction ≡ false → new.in_transaction ≡ false
  pub crash : Survives old new Never
  pub unclean :
      HasCleanDisk new → (IsTrue old.is_open → Are old) → result ≡ Err Unclean →
      IsTrue old.is_open × spoilt (tables_in old.now.trees)

-- a look-up in all tables, whether of schema 2 or of a hub
abbrev pub LooksIn : {X : Type 0} → (Tables → X → Type 0) → (Tables → Type 0) → State → State → Result X StoreFault
    → Type 0
LooksIn = LooksAmong hub_schema HasTables

-- a look-up in the tables of a hub
abbrev pub LooksFor : {X : Type 0} → (Tables → X → Type 0) → (Tables → Type 0) → State → State → Result X StoreFault
    → Type 0
LooksFor = LooksAmong hub_schema IsHub

-- a look-up in the tables of schema 1
abbrev pub LooksForOld : {X : Type 0} → (Tables → X → Type 0) → (Tables → Type 0) → State → State → Result X StoreFault
    → Type 0
LooksForOld = LooksAmong old_schema IsOldHub

-- A look-up whose answer is `answer` of the tables, and which fails with `Unclean` only if some row is malformed.
abbrev pub LooksUp : {X : Type 0} → (Tables → X) → State → State → Result X StoreFault → Type 0
LooksUp answer old new result = LooksFor (λ t x. x ≡ answer t) (λ t. are_clean t ≡ false) old new result

-- A commit: at Ok all changes are made, and each row that is set existed before; after a fault none is made. A crash
-- leaves what it could leave before the call, or all changes. `Unclean` means that the changes do not fit the rows,
-- that they set a row that does not exist, that some row is malformed before or after them, or that they produce a
-- malformed row in any tables.
pub record CommitsTo (changes : List Change) (old new : State) (result : Result (Unit {0}) StoreFault) : Type 0 where
  pub done :
      HasCleanDisk new → Holds old →
      OnOk result (IsTrue new.is_open × IsHub new
      × (tables_in new.now.trees ≡ apply_all changes (tables_in old.now.trees)))
  pub places : HasCleanDisk new → Holds old → OnOk result (have_places changes (tables_in old.now.trees) ≡ true)
  pub ran : HasCleanDisk new → OnOk result (IsTrue old.is_open)
  pub kept :
      HasCleanDisk new → Holds old → IsTrue new.is_open → OnErr result (IsTrue old.is_open × (new.now ≡ old.now))
  pub mode : new.in_transaction ≡ false
  pub crash :
      Survives old new (λ trees. Holds old →
      IsTrue old.is_open × Fit changes (tables_in old.now.trees)
      × (tables_in trees ≡ apply_all changes (tables_in old.now.trees)))
  pub durable : HasCleanDisk new → OnOk result ((trees : Trees) → new.may_leave trees → trees ≡ new.now.trees)
  pub unclean :
      HasCleanDisk new → Holds old → result ≡ Err Unclean →
      (IsTrue old.is_open × MayRefuse changes (tables_in old.now.trees))
      ⊎ ((t : Tables) → have_places changes t ≡ true → are_clean (apply_all changes t) ≡ false)

-- The outcome of founding: if the connection meets `asked`, at Ok it has the hub's tables with these rows, and after a
-- fault all is as before. A crash leaves what it could leave before the call, or all of the new tables.
pub record FoundsTo {E : Type 0} (asked : Type 0) (rows : Tables) (old new : State) (result : Result (Unit {0}) E)
    : Type 0 where
  pub done : HasCleanDisk new → asked → OnOk result (IsTrue new.is_open × IsHub new × (tables_in new.now.trees ≡ rows))
  pub durable : HasCleanDisk new → OnOk result ((trees : Trees) → new.may_leave trees → trees ≡ new.now.trees)
  pub kept : HasCleanDisk new → asked → IsTrue new.is_open → OnErr result (ShowsTheSame old new)
  pub mode : new.in_transaction ≡ false
  pub crash : Survives old new (λ trees. asked → IsFounded rows trees)
