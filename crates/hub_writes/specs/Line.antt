-- Defines the values that a statement binds for an order line.
use Rattle.std.specs.Prelude.{◌<◌, ◌^◌, pos, [], ◌∷◌}
use Rattle.sqlite_value.specs.declared.value.Value.TheVariants.{Int, Blob}
use Rattle.sqlite_value.specs.Order.{Row}
use Rattle.hub_tables.specs.declared.rows.LineRow.{LineRow}

-- in the order of the columns
abbrev pub cells : LineRow → Row
cells row = Blob row.supplier ∷ Blob row.number ∷ Int (pos row.line) ∷ Blob row.gtin ∷ Int (pos row.ordered)
    ∷ Int (pos row.open_qty) ∷ Int (pos row.refused) ∷ Int (pos row.cancelled) ∷ Int (pos row.answer) ∷ []

-- each number fits a u64
abbrev pub IsLowLine : LineRow → Type 0
IsLowLine row = (row.line < 2 ^ 64) × (row.ordered < 2 ^ 64) × (row.open_qty < 2 ^ 64) × (row.refused < 2 ^ 64)
    × (row.cancelled < 2 ^ 64) × (row.answer < 2 ^ 64)
