-- Describes a kind of rows: its SQL table, and its list of rows.
use Rattle.std.proofs.Common.{◌≡◌, ℕ, zero, suc, ◌==◌, false, List, [], ◌∷◌, map, slice_get, Some, sym, subst, ap, ◌∙◌}
use Rattle.std.specs.List.{AllByRecursion}
use Rattle.std.specs.declared.cmp.Ordering.{Ordering}
use Rattle.std.specs.Cmp.{IsTotalOrder}
use Rattle.sqlite_value.specs.Order.{Row}
use Rattle.sqlite_sql.specs.Program.{overlay}
use Rattle.sqlite_trees.specs.Tree.{Trees, with_tree}
use Rattle.sqlite_trees.specs.View.{IsShaped}
use Rattle.sqlite_trees.specs.declared.store.Shape.TheVariants as shape
use Rattle.sqlite_schema.specs.declared.schema.Kind as cell
use Rattle.sqlite_schema.specs.declared.schema.Table.{Table}
use Rattle.sqlite.specs.Effect.{Database, IsDatabase}
use Rattle.sqlite.specs.State.{State}
use Rattle.sql_rows.specs.Cells.{AreOf}
use Rattle.sql_rows.specs.Tables.{plain_table}
use Rattle.hub_parties.specs.KeyOrder.{Rises}
use Rattle.hub_tables.specs.Change.{apply_all}
use Rattle.hub_tables.specs.Sets.{Rising}
use Rattle.hub_tables.specs.Tables.{Tables}
use Rattle.hub_tables.specs.declared.change.Change.{Change}
use Rattle.hub_schema.specs.Rows.{in_key_order, tables_in}
use Rattle.hub_schema.specs.Schema.{hub_schema}
use Rattle.hub_schema.specs.State.{AreOrdered, IsHub, Makes}
use Rattle.hub_writes.proofs.Alters.{Alters, still_hub, tables_are}

-- the table with its columns and keys, and no other rules
abbrev pub plain : Table → Table
plain table = plain_table table.tree table.name table.columns table.primary table.uniques table.orders

-- the types of its columns
abbrev pub kinds_of : Table → List cell.Kind
kinds_of table = map (λ c. c.kind) table.columns

pub record StoredKind (X : Type 0) : Type 0 where
  pub cmp : X → X → Ordering
  pub total : IsTotalOrder cmp
  -- reads a stored row as a row of this kind
  pub read : Row → X
  pub place : ℕ
  pub table : Table
  pub found : slice_get hub_schema.tables place ≡ Some (plain table)
  pub stored : (db : Trees) → overlay db [] table.tree ≡ db table.tree
  -- it is not the table with the schema's number
  pub later : (0 == table.tree) ≡ false
  -- the types of the cells of each stored row
  pub typed :
      (db : Database) → db.schema ≡ hub_schema → IsDatabase db → AreOrdered db.trees
      → AllByRecursion (AreOf (kinds_of table) 0) (db.trees table.tree)
  -- its list of rows in the tables
  pub rows : Tables → List X
  pub with_rows : Tables → List X → Tables
  pub set : (t : Tables) (xs : List X) → rows (with_rows t xs) ≡ xs
  pub held : (db : Trees) → rows (tables_in db) ≡ in_key_order cmp (map read (db table.tree))
  pub shows :
      (db : Trees) (stored : List Row) → tables_in (with_tree db table.tree stored)
      ≡ with_rows (tables_in db) (in_key_order cmp (map read stored))
  pub rises : (t : Tables) → Rising t → Rises cmp (rows t)

-- what holds for each element holds for the one at a position
at_place : {X : Type 0} (P : X → Type 0) (xs : List X) (place : ℕ) (x : X) → slice_get xs place ≡ Some x
    → AllByRecursion P xs → P x
at_place P [] place x is all = absurd cc
at_place P (y ∷ ys) zero x is all = let same : y ≡ x = cc in subst P same all.0
at_place P (y ∷ ys) (suc place) x is all = at_place P ys place x is all.1

module _ {X : Type 0} (kind : StoredKind X) where
  -- the row numbers of its table rise
  pub ordered : (trees : Trees) → AreOrdered trees → IsShaped shape.Table (trees kind.table.tree)
  ordered trees all =
      at_place (λ table. IsShaped shape.Table (trees table.tree)) hub_schema.tables kind.place (plain kind.table) kind.found all

  -- a statement that altered its table makes a change with these rows
  pub makes_rows : (change : Change) (rows : List X) (after : List Row) (old new : State) → IsHub old
      → Alters kind.table.tree after old new → in_key_order kind.cmp (map kind.read after) ≡ rows
      → apply_all (change ∷ []) (tables_in old.now.trees) ≡ kind.with_rows (tables_in old.now.trees) rows
      → Makes (apply_all (change ∷ [])) old new
  makes_rows change rows after old new hub it listed leaves = record {
    hub = still_hub kind.table.tree after old new kind.later hub it;
    tables = tables_are kind.table.tree after old new it ∙ kind.shows old.now.trees after
        ∙ ap (kind.with_rows (tables_in old.now.trees)) listed ∙ sym leaves;
    committed = it.committed;
    mode = it.mode;
  }
