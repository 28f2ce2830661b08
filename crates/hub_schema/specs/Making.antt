-- Defines what holds while the tables are made one after another in a transaction.
use Rattle.std.specs.Prelude.{◌≡◌, ◌⊎◌, ◌++◌, ℕ, nat_lt, if◌then◌else◌, false, IsTrue, List, [], fold, Result, Ok, OnOk}
use Rattle.std.specs.Prelude.{OnErr}
use Rattle.std.specs.List.{AllByRecursion}
use Rattle.sqlite.specs.Command.TheVariants.{CreateTable}
use Rattle.sqlite.specs.Compile.{table_defined_by}
use Rattle.sqlite.specs.Does.{lacks_sequence}
use Rattle.sqlite.specs.Listing.{understood}
use Rattle.sqlite.specs.Schema.{Schema}
use Rattle.sqlite.specs.State.{State, HasCleanDisk}
use Rattle.sqlite.specs.Table.{Table}
use Rattle.sqlite.specs.declared.error.Error.{Error}
use Rattle.sqlite_trees.specs.Tree.{Trees}
use Rattle.sqlite.proofs.Callers.{IsPlain, command_of, statement_of}
use Rattle.sqlite_catalog.specs.Change.{created}
use Rattle.hub_schema.specs.Schema.{no_schema, hub_table, hub_tables}
use Rattle.hub_schema.specs.State.{ShowsTheSame, IsUndone}

-- the schema after these tables are made, in this order
abbrev pub schema_with : List Table → Schema
schema_with = fold (λ schema table. created schema (record table { tree = 0 })) no_schema

-- the rows of the tables of schema 1, without those of later tables
abbrev pub traffic_rows : Trees → Trees
traffic_rows trees tree = if nat_lt tree hub_table.tree then trees tree else []

-- none of these tables has rows
abbrev pub HaveNoRows : List Table → Trees → Type 0
HaveNoRows tables trees = AllByRecursion (λ table. trees table.tree ≡ []) tables

-- these tables exist with the rows of `rows`, and a transaction is open
pub record HasMade (rows : Trees) (made : Schema) (s : State) : Type 0 where
  pub schema : s.now.schema ≡ made
  pub same : AllByRecursion (λ table. s.now.trees table.tree ≡ rows table.tree) made.tables
  pub mode : IsTrue s.in_transaction

-- in this schema, the text makes the table
pub record Defines (text : List ℕ) (schema : Schema) (table : Table) : Type 0 where
  pub command : command_of (understood schema text) ≡ CreateTable
  pub whole : statement_of text (understood schema text) ≡ text
  pub plain : IsPlain (understood schema text)
  pub defined : table_defined_by text ≡ Ok table
  pub calm : lacks_sequence (created schema table) ≡ false

-- the tables of `after` are made, and nothing is committed
pub record MakesOn (rows : Trees) (after : Schema) (old new : State) : Type 0 where
  pub made : HasMade rows after new
  pub committed : new.committed ≡ old.committed

-- the first of the hub's tables are made completely, and the others not at all
pub record MakesFirstTables (rows : Trees) (old new : State) : Type 0 where
  pub first : List Table
  pub rest : List Table
  pub are : hub_tables ≡ first ++ rest
  pub made : MakesOn rows (schema_with first) old new

-- The outcome of making more tables after these: after a fault the transaction is undone, or it is still open with the
-- first tables, and nothing is committed. If the transaction had ended before, nothing is done at all.
pub record LeavesTables {X : Type 0} (rows : Trees) (begun : List Table) (old new : State) (result : Result X Error)
    : Type 0 where
  pub fault :
      HasCleanDisk new → HasMade rows (schema_with begun) old →
      OnErr result (MakesFirstTables rows old new ⊎ IsUndone old new)
  pub ended : old.in_transaction ≡ false → OnOk result ⊥ × ShowsTheSame old new
