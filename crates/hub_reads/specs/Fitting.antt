-- Defines whether a register fits the rows of schema 1, one kind after another.
use Rattle.std.specs.Prelude.{◌≡◌, Bool, ◌&&◌, Result}
use Rattle.std.specs.List.{list_all}
use Rattle.sqlite_value.specs.Order.{Row, column}
use Rattle.sqlite.specs.State.{State}
use Rattle.hub_parties.specs.Rows.{RegisterRows, row_of}
use Rattle.hub_tables.specs.Tables.{Tables}
use Rattle.hub_founding.specs.Fits.{is_registered, is_under, fits_pallet}
use Rattle.hub_store.specs.declared.fault.StoreFault.{StoreFault}
use Rattle.hub_schema.specs.Cells.{bytes_in}
use Rattle.hub_schema.specs.Schema.{old_schema}
use Rattle.hub_schema.specs.State.{LooksForOld, Never}
use Rattle.hub_rows.specs.Asks.{DiskHasCause}

-- of the columns that a query shows: the supplier of a row, or the SSCC and the supplier of a pallet
abbrev pub registered_in : RegisterRows → Row → Bool
registered_in register row = is_registered register (bytes_in (column row 0))

abbrev pub pallet_fits : RegisterRows → Row → Bool
pallet_fits register row = is_under (row_of register (bytes_in (column row 1))) (bytes_in (column row 0))

-- whether the register fits the rows of each kind
abbrev pub orders_fit : RegisterRows → Tables → Bool
orders_fit register t = list_all (λ row. is_registered register row.supplier) t.orders

abbrev pub lines_fit : RegisterRows → Tables → Bool
lines_fit register t = list_all (λ row. is_registered register row.supplier) t.lines

abbrev pub advices_fit : RegisterRows → Tables → Bool
advices_fit register t = list_all (λ row. is_registered register row.supplier) t.advices

abbrev pub pallets_fit : RegisterRows → Tables → Bool
pallets_fit register t = list_all (fits_pallet register) t.pallets

abbrev pub remembered_fit : RegisterRows → Tables → Bool
remembered_fit register t = list_all (λ row. is_registered register row.supplier) t.remembered

abbrev pub mail_fits : RegisterRows → Tables → Bool
mail_fits register t = list_all (λ row. is_registered register row.supplier) t.mail

-- whether it fits the rows of this kind and of all later ones
abbrev pub from_remembered : RegisterRows → Tables → Bool
from_remembered register t = remembered_fit register t && mail_fits register t

abbrev pub from_pallets : RegisterRows → Tables → Bool
from_pallets register t = pallets_fit register t && from_remembered register t

abbrev pub from_advices : RegisterRows → Tables → Bool
from_advices register t = advices_fit register t && from_pallets register t

abbrev pub from_lines : RegisterRows → Tables → Bool
from_lines register t = lines_fit register t && from_advices register t

-- A look-up in schema 1 with this answer, which never fails with `Unclean`, and with `Disk` only for a cause.
pub record TellsOld (fit : Tables → Bool) (old new : State) (result : Result Bool StoreFault) : Type 0 where
  pub looks : LooksForOld (λ t is. is ≡ fit t) Never old new result
  pub disk : DiskHasCause old_schema old new result
