-- Defines the values that a statement binds for a pallet.
use Rattle.std.specs.Prelude.{◌<◌, ◌^◌, pos, [], ◌∷◌}
use Rattle.sqlite_value.specs.declared.value.Value.TheVariants.{Int, Blob}
use Rattle.sqlite_value.specs.Order.{Row}
use Rattle.hub_tables.specs.declared.rows.PalletRow.{PalletRow}

-- in the order of the columns
abbrev pub cells : PalletRow → Row
cells row = Blob row.sscc ∷ Blob row.supplier ∷ Blob row.advice ∷ Int (pos row.received) ∷ []

-- its number fits a u64
abbrev pub IsLowPallet : PalletRow → Type 0
IsLowPallet row = row.received < 2 ^ 64
