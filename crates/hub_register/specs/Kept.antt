-- Defines the tests by which rows whose parts are valid are known to form a register.
use Rattle.std.specs.Prelude.{ℕ, Bool, true, not, ◌&&◌, nat_le, List, [], ◌∷◌, length}
use Rattle.std.specs.List.{list_all}
use Rattle.std.specs.Ordering.{is_lt}
use Rattle.std.specs.Str.{bytes_eq}
use Rattle.gs1_ids.specs.Gln.{is_gln}
use Rattle.gs1_ids.specs.Overlap.{overlap_some}
use Rattle.hub_parties.specs.Key.{is_party_key}
use Rattle.hub_parties.specs.KeyOrder.{bytes_cmp}
use Rattle.hub_parties.specs.Prefixes.{are_company_prefixes}
use Rattle.hub_parties.specs.Rows.{most_suppliers}
use Rattle.hub_parties.specs.declared.row.SupplierRow.{SupplierRow}

-- whether the parts of a row are valid
abbrev pub is_valid : SupplierRow → Bool
is_valid row = is_gln row.gln && (are_company_prefixes row.prefixes && is_party_key row.key)

-- whether one supplier may come before another: its GLN is lower, and no prefix of either begins a prefix of the other
abbrev pub goes_before : SupplierRow → SupplierRow → Bool
goes_before row other = is_lt (bytes_cmp row.gln other.gln) && not (overlap_some row.prefixes other.prefixes)

-- whether each row may come before all rows after it
abbrev pub are_in_order : List SupplierRow → Bool
are_in_order [] = true
are_in_order (row ∷ rows) = list_all (goes_before row) rows && are_in_order rows

-- whether the GLNs of hub and retailer differ, and no supplier has either
abbrev pub is_other : List ℕ → List ℕ → SupplierRow → Bool
is_other hub retailer row = not (bytes_eq hub row.gln) && not (bytes_eq retailer row.gln)

abbrev pub are_others : List ℕ → List ℕ → List SupplierRow → Bool
are_others hub retailer rows = not (bytes_eq hub retailer) && list_all (is_other hub retailer) rows

-- all of these tests, and the limit on the number of suppliers
abbrev pub keep_all : List ℕ → List ℕ → List SupplierRow → Bool
keep_all hub retailer rows =
    nat_le (length rows) most_suppliers && (are_others hub retailer rows && are_in_order rows)
