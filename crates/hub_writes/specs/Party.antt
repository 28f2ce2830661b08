-- Defines the values that a statement binds for the hub's row and for a supplier's key.
use Rattle.std.specs.Prelude.{[], ◌∷◌}
use Rattle.sqlite_value.specs.declared.value.Value.TheVariants.{Blob}
use Rattle.sqlite_value.specs.Order.{Row}
use Rattle.hub_tables.specs.declared.rows.HubRow.{HubRow}
use Rattle.hub_tables.specs.declared.rows.KeyRow.{KeyRow}

-- in the order of the columns
abbrev pub hub_cells : HubRow → Row
hub_cells row = Blob row.hub ∷ Blob row.retailer ∷ Blob row.key ∷ []

abbrev pub key_cells : KeyRow → Row
key_cells row = Blob row.supplier ∷ Blob row.key ∷ []
