-- Defines the tables and indexes that the code's definitions describe.
use Rattle.std.specs.Prelude.{◌≡◌, ℕ, suc, ◌+◌, true, if◌then◌else◌, List, [], ◌∷◌, ◌++◌, length, map, ⊤}
use Rattle.std.specs.Borrow.{Bor}
use Rattle.std.specs.Str.{bytes_eq}
use Rattle.sqlite.specs.Table.{Table}
use Rattle.sqlite_catalog.specs.Change.{next_tree}
use Rattle.sqlite_schema.specs.declared.schema.Column.{Column}
use Rattle.sqlite_schema.specs.declared.schema.Index.{Index}
use Rattle.sqlite_schema.specs.declared.schema.Kind.{Kind}
use Rattle.sqlite_value.specs.Keys.{plain}
use Rattle.sql_rows.specs.Tables.{strict_column, plain_table}
use Rattle.hub_schema.specs.Making.{Defines, schema_with}
use Rattle.hub_schema.specs.Schema.{next_to}
use Rattle.hub_schema.specs.declared.definitions.Definition.{Definition}
use Rattle.hub_schema.specs.declared.definitions.TableKey.{TableKey}

-- the columns with these names and kinds
abbrev pub strict_columns : List (Bor (List ℕ) × Kind) → List Column
strict_columns = map (λ column. strict_column column.0.now column.1)

abbrev pub columns_of : Definition → List Column
columns_of d = strict_columns d.columns.now

-- the position of a column, counted from 1
abbrev pub place_of : List Column → List ℕ → ℕ
place_of [] name = 1
place_of (column ∷ columns) name = if bytes_eq column.name name then 1 else suc (place_of columns name)

-- the positions of a key's columns
abbrev pub places_of : List Column → TableKey → List ℕ
places_of columns key = map (λ name. place_of columns name.now) key.columns.now

abbrev pub keys_of : Definition → List (List ℕ)
keys_of d = map (places_of (columns_of d)) d.keys.now

-- the first key, which is the primary key
abbrev pub first_of : List (List ℕ) → List ℕ
first_of [] = []
first_of (key ∷ keys) = key

-- the table that a definition describes, under this number
abbrev pub defined_at : ℕ → Definition → Table
defined_at tree d =
    plain_table tree d.name.now (columns_of d) (first_of (keys_of d)) (keys_of d) (map (λ _. plain) d.keys.now)

-- the tables of the definitions, each numbered after the table before it and that table's keys
abbrev pub numbered : ℕ → List Definition → List Table
numbered tree [] = []
numbered tree (d ∷ definitions) = defined_at tree d ∷ numbered (next_to (defined_at tree d)) definitions

-- how many numbers the tables and their keys take
abbrev pub trees_of : List Definition → ℕ
trees_of [] = 0
trees_of (d ∷ definitions) = 1 + length d.keys.now + trees_of definitions

-- the index of one key of a table
abbrev pub index_of : ℕ → ℕ → List Column → TableKey → Index
index_of table tree columns key = record {
  name = key.index.now;
  tree = tree;
  table = table;
  columns = places_of columns key;
  order = plain;
  is_unique = true;
}

-- the indexes of all keys of a table, numbered from `tree` on
abbrev pub own_indexes : ℕ → ℕ → List Column → List TableKey → List Index
own_indexes table tree columns [] = []
own_indexes table tree columns (key ∷ keys) =
    index_of table tree columns key ∷ own_indexes table (tree + 1) columns keys

abbrev pub all_indexes : List Table → List Definition → List Index
all_indexes (table ∷ tables) (d ∷ definitions) =
    own_indexes table.tree (table.tree + 1) (columns_of d) d.keys.now ++ all_indexes tables definitions
all_indexes _ _ = []

-- the text of each definition, run after the tables before it, makes its table
abbrev pub Make : List Table → List Definition → List Table → Type 0
Make begun [] [] = ⊤
Make begun (d ∷ definitions) (table ∷ tables) =
    Defines d.text.now (schema_with begun) (record table { tree = 0 })
    × (table.tree ≡ next_tree (schema_with begun)) × Make (begun ++ table ∷ []) definitions tables
Make begun _ _ = ⊥
