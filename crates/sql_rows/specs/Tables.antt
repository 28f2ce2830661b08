-- Defines tables that have only strict columns.
use Rattle.std.specs.Prelude.{ℕ, true, false, List, [], None}
use Rattle.sqlite_value.specs.declared.value.Value.TheVariants.{Null}
use Rattle.sqlite_value.specs.declared.keys.Collation.TheVariants.{Binary}
use Rattle.sqlite_value.specs.declared.keys.Order.{Order}
use Rattle.sqlite_schema.specs.declared.schema.Kind.{Kind}
use Rattle.sqlite_schema.specs.declared.schema.Column.{Column}
use Rattle.sqlite_schema.specs.declared.schema.Table.{Table}

-- a column that accepts only values of its type, and not NULL
abbrev pub strict_column : List ℕ → Kind → Column
strict_column name kind =
    record { name = name; kind = kind; is_strict = true; not_null = true; default = Null; collation = Binary }

-- a table that has columns and keys, and no other rules
abbrev pub plain_table : ℕ → List ℕ → List Column → List ℕ → List (List ℕ) → List Order → Table
plain_table tree name columns primary keys orders = record {
  name = name;
  tree = tree;
  columns = columns;
  key = None;
  primary = primary;
  uniques = keys;
  orders = orders;
  checks = [];
  references = [];
  computed = [];
  stamps = record { places = []; terms = []; formats = [] };
  is_counted = false;
}
