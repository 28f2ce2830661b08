-- Defines which lines of an order have given numbers.
use Rattle.std.specs.Prelude.{ℕ, ◌==◌, List, filter}
use Rattle.std.specs.List.{flat_map}
use Rattle.hub_tables.specs.State.{lines_of}
use Rattle.hub_tables.specs.Tables.{Tables}
use Rattle.hub_tables.specs.declared.rows.LineRow.{LineRow}

-- the lines of an order with this number: one or none, if the tables are sound
abbrev pub lines_numbered : Tables → List ℕ → ℕ → List LineRow
lines_numbered state order number = filter (λ line. line.line == number) (lines_of state order)

-- the lines with one of these numbers, in the order of the given numbers
abbrev pub lines_at : Tables → List ℕ → List ℕ → List LineRow
lines_at state order numbers = flat_map (lines_numbered state order) numbers
