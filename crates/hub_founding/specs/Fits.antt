-- Defines what tables hold once a register is founded beside existing rows, and when the register fits those rows.
use Rattle.std.specs.Prelude.{◌≡◌, ℕ, Bool, false, ◌&&◌, List, Option, None, Some, is_some}
use Rattle.std.specs.List.{list_all}
use Rattle.gs1_ids.specs.Digits.{is_key}
use Rattle.gs1_ids.specs.Sscc.{under_some}
use Rattle.hub_parties.specs.Rows.{RegisterRows, row_of}
use Rattle.hub_parties.specs.declared.row.SupplierRow.{SupplierRow}
use Rattle.hub_tables.specs.Change.{apply_all}
use Rattle.hub_tables.specs.Register.{register_changes}
use Rattle.hub_tables.specs.Tables.{Tables}
use Rattle.hub_tables.specs.declared.rows.PalletRow.{PalletRow}

-- the existing rows together with those of the register
abbrev pub founded_beside : Tables → RegisterRows → Tables
founded_beside t register = apply_all (register_changes register) t

-- all rows except those of the register stay the same
pub record KeepsOtherRows (t after : Tables) : Type 0 where
  pub orders : after.orders ≡ t.orders
  pub lines : after.lines ≡ t.lines
  pub advices : after.advices ≡ t.advices
  pub pallets : after.pallets ≡ t.pallets
  pub contents : after.contents ≡ t.contents
  pub receipts : after.receipts ≡ t.receipts
  pub remembered : after.remembered ≡ t.remembered
  pub mail : after.mail ≡ t.mail

abbrev pub is_registered : RegisterRows → List ℕ → Bool
is_registered register gln = is_some (row_of register gln)

-- whether the text is an SSCC under one of the supplier's company prefixes; false if there is no supplier
abbrev pub is_under : Option SupplierRow → List ℕ → Bool
is_under None sscc = false
is_under (Some supplier) sscc = is_key 18 sscc && under_some sscc supplier.prefixes

abbrev pub fits_pallet : RegisterRows → PalletRow → Bool
fits_pallet register row = is_under (row_of register row.supplier) row.sscc

-- whether the supplier of each row is registered, and each pallet's SSCC is under one of its supplier's company
-- prefixes
abbrev pub fits : RegisterRows → Tables → Bool
fits register t =
    list_all (λ row. is_registered register row.supplier) t.orders
    && (list_all (λ row. is_registered register row.supplier) t.lines
    && (list_all (λ row. is_registered register row.supplier) t.advices
    && (list_all (fits_pallet register) t.pallets
    && (list_all (λ row. is_registered register row.supplier) t.remembered
    && list_all (λ row. is_registered register row.supplier) t.mail))))
