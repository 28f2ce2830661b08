-- The key of a row as its first columns hold it.
use Rattle.std.specs.Prelude.{ℕ, ◌+◌, List, [], ◌∷◌}
use Rattle.hub_audit.specs.declared.key.Part.{Part}
use Rattle.hub_audit.specs.declared.key.Part.TheVariants.{Text, Number}
use Rattle.hub_schema.specs.Cells.{bytes_in, number_in}
use Rattle.hub_sound.specs.Finding.{RowKey, bytes_cell, number_cell}
use Rattle.hub_sound.specs.declared.finding.KeyCell.{KeyCell}
use Rattle.sqlite_value.specs.Order.{Row, column}
use Rattle.sqlite_value.specs.declared.value.Value.{Value}

abbrev pub cell_in : Part → Value → KeyCell
cell_in Text value = bytes_cell (bytes_in value)
cell_in Number value = number_cell (number_in value)

-- the columns from one on
abbrev pub key_from : ℕ → List Part → Row → RowKey
key_from at [] row = []
key_from at (part ∷ parts) row = cell_in part (column row at) ∷ key_from (at + 1) parts row
