-- Defines the SQL tables of a hub and their keys. All bytes are BLOB and all numbers INTEGER; the tables are STRICT, no
-- column accepts NULL, and the key of each kind is its PRIMARY KEY. Never rename a table or a column: existing files
-- use these names.
use Rattle.std.specs.Prelude.{ℕ, ◌+◌, List, [], ◌∷◌, ◌++◌, length, map, codes}
use Rattle.sqlite.specs.Kind.TheVariants.{Integer, Blob}
use Rattle.sqlite.specs.Schema.{Schema}
use Rattle.sqlite.specs.Table.{Table}
use Rattle.sqlite_catalog.specs.Change.{automatics}
use Rattle.sqlite_schema.specs.declared.schema.Column.{Column}
use Rattle.sqlite_schema.specs.declared.schema.Index.{Index}
use Rattle.sqlite_value.specs.Keys.{plain}
use Rattle.sql_rows.specs.Tables.{strict_column, plain_table}

abbrev pub bytes : List ℕ → Column
bytes name = strict_column name Blob

abbrev pub number : List ℕ → Column
number name = strict_column name Integer

-- a table with its keys, the primary key first; columns are counted from 1
abbrev pub table_of : ℕ → List ℕ → List Column → List ℕ → List (List ℕ) → Table
table_of tree name columns primary keys = plain_table tree name columns primary keys (map (λ _. plain) keys)

abbrev pub keyed : ℕ → List ℕ → List Column → List ℕ → Table
keyed tree name columns primary = table_of tree name columns primary (primary ∷ [])

-- the next free number after a table and its keys
abbrev pub next_to : Table → ℕ
next_to table = table.tree + 1 + length table.uniques

-- the one row of this table has the schema's number
abbrev pub schema_table : Table
schema_table = table_of 0 (codes "schema") (number (codes "number") ∷ []) [] []

abbrev pub order_table : Table
order_table = keyed (next_to schema_table) (codes "order") (bytes (codes "supplier") ∷ bytes (codes "number") ∷ []) (1 ∷ 2 ∷ [])

abbrev pub line_table : Table
line_table = keyed (next_to order_table) (codes "line") (
    bytes (codes "supplier") ∷ bytes (codes "number") ∷ number (codes "line") ∷ bytes (codes "gtin")
    ∷ number (codes "ordered") ∷ number (codes "open_qty") ∷ number (codes "refused") ∷ number (codes "cancelled")
    ∷ number (codes "answer") ∷ []) (1 ∷ 2 ∷ 3 ∷ [])

abbrev pub advice_table : Table
advice_table = keyed (next_to line_table) (codes "advice") (bytes (codes "supplier") ∷ bytes (codes "number") ∷ []) (1 ∷ 2 ∷ [])

-- the second key finds the pallets of one supplier
abbrev pub pallet_table : Table
pallet_table = table_of (next_to advice_table) (codes "pallet") (
    bytes (codes "sscc") ∷ bytes (codes "supplier") ∷ bytes (codes "advice") ∷ number (codes "received") ∷ [])
    (1 ∷ []) ((1 ∷ []) ∷ (2 ∷ 1 ∷ []) ∷ [])

abbrev pub content_table : Table
content_table = keyed (next_to pallet_table) (codes "content") (
    bytes (codes "sscc") ∷ number (codes "place") ∷ bytes (codes "number") ∷ number (codes "line")
    ∷ number (codes "quantity") ∷ []) (1 ∷ 2 ∷ [])

abbrev pub receipt_table : Table
receipt_table = keyed (next_to content_table) (codes "receipt") (
    bytes (codes "sscc") ∷ bytes (codes "gtin") ∷ number (codes "accepted") ∷ number (codes "returned")
    ∷ number (codes "destroyed") ∷ []) (1 ∷ 2 ∷ [])

abbrev pub remembered_table : Table
remembered_table = keyed (next_to receipt_table) (codes "remembered") (
    bytes (codes "supplier") ∷ number (codes "side") ∷ bytes (codes "control") ∷ bytes (codes "message")
    ∷ bytes (codes "content") ∷ []) (1 ∷ 2 ∷ 3 ∷ 4 ∷ [])

abbrev pub mail_table : Table
mail_table = keyed (next_to remembered_table) (codes "mail") (
    bytes (codes "supplier") ∷ number (codes "number") ∷ number (codes "moment") ∷ number (codes "decimal")
    ∷ number (codes "kind") ∷ bytes (codes "document") ∷ bytes (codes "body") ∷ number (codes "taken") ∷ [])
    (1 ∷ 2 ∷ [])

abbrev pub hub_table : Table
hub_table = keyed (next_to mail_table) (codes "hub") (
    bytes (codes "hub") ∷ bytes (codes "retailer") ∷ bytes (codes "key") ∷ []) (1 ∷ [])

abbrev pub supplier_table : Table
supplier_table = keyed (next_to hub_table) (codes "supplier") (bytes (codes "supplier") ∷ bytes (codes "key") ∷ []) (1 ∷ [])

abbrev pub prefix_table : Table
prefix_table = keyed (next_to supplier_table) (codes "prefix") (bytes (codes "prefix") ∷ bytes (codes "supplier") ∷ []) (1 ∷ [])

abbrev pub no_schema : Schema
no_schema = record { tables = []; indexes = []; views = [] }

-- the tables of orders, goods and messages, in the order in which they are made
abbrev pub traffic_tables : List Table
traffic_tables =
    schema_table ∷ order_table ∷ line_table ∷ advice_table ∷ pallet_table ∷ content_table ∷ receipt_table
    ∷ remembered_table ∷ mail_table ∷ []

-- the tables of the register
abbrev pub party_tables : List Table
party_tables = hub_table ∷ supplier_table ∷ prefix_table ∷ []

-- all tables; those of the register come last
abbrev pub hub_tables : List Table
hub_tables = traffic_tables ++ party_tables

-- an index for each key, numbered after its table
abbrev pub indexes_of : List Table → List Index
indexes_of [] = []
indexes_of (table ∷ tables) = automatics table 0 (table.tree + 1) table.uniques ++ indexes_of tables

-- schema 1: only the tables of orders, goods and messages
abbrev pub old_schema : Schema
old_schema = record { tables = traffic_tables; indexes = indexes_of traffic_tables; views = [] }

-- schema 2 and schema 3: all tables
abbrev pub hub_schema : Schema
hub_schema = record { tables = hub_tables; indexes = indexes_of hub_tables; views = [] }
