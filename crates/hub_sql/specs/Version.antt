-- Defines the versions of the tables: schema 1, which has no register, schema 2, and schema 3, which has the same
-- tables as schema 2.
use Rattle.std.specs.Prelude.{◌≡◌, ◌⊎◌, ℕ, List}
use Rattle.std.specs.List.{AllByRecursion}
use Rattle.sqlite.specs.Effect.{Database}
use Rattle.sqlite.specs.Schema.{Schema}
use Rattle.sqlite.specs.Table.{Table}
use Rattle.sqlite_trees.specs.Tree.{Trees}
use Rattle.sqlite_trees.specs.View.{IsShaped}
use Rattle.sqlite_trees.specs.declared.store.Shape.TheVariants as shape
use Rattle.hub_schema.specs.Schema.{old_schema, hub_schema, hub_tables, traffic_tables}
use Rattle.hub_schema.specs.State.{HasNumber}
use Rattle.hub_sql.specs.declared.version.Version.{Version}
use Rattle.hub_sql.specs.declared.version.Version.TheVariants.{First, Second, Third}

abbrev pub schema_of : Version → Schema
schema_of First = old_schema
schema_of Second = hub_schema
schema_of Third = hub_schema

abbrev pub number_of : Version → ℕ
number_of First = 1
number_of Second = 2
number_of Third = 3

abbrev pub tables_of : Version → List Table
tables_of First = traffic_tables
tables_of Second = hub_tables
tables_of Third = hub_tables

-- in each of these tables the row numbers rise
abbrev pub AreRising : Trees → List Table → Type 0
AreRising trees tables = AllByRecursion (λ table. IsShaped shape.Table (trees table.tree)) tables

-- the row numbers rise in each table of this version
abbrev pub AreShaped : Version → Trees → Type 0
AreShaped version trees = AreRising trees (tables_of version)

-- both the tables and their number are of this version
abbrev pub HoldsTables : Version → Database → Type 0
HoldsTables version db = (db.schema ≡ schema_of version) × HasNumber (number_of version) db.trees

-- the tables are those of schema 2 or 3
abbrev pub HoldsHub : Database → Type 0
HoldsHub db = HoldsTables Second db ⊎ HoldsTables Third db
