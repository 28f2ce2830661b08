-- Defines the rows of a register: the hub's GLN, the retailer with its key, and the suppliers; and how a caller is
-- recognised.
use Rattle.std.specs.Prelude.{◌≡◌, ℕ, ◌≤◌, false, ◌&&◌, if◌then◌else◌, IsTrue, List, ◌∷◌, length, map, find, Option}
use Rattle.std.specs.Prelude.{Some, None}
use Rattle.std.specs.List.{list_all}
use Rattle.std.specs.Str.{bytes_eq}
use Rattle.edi_base.specs.Seen.{has_twice}
use Rattle.gs1_ids.specs.Gln.{is_gln}
use Rattle.gs1_ids.specs.Overlap.{PrefixFree}
use Rattle.hub_parties.specs.Key.{is_party_key}
use Rattle.hub_parties.specs.KeyOrder.{bytes_cmp, Rises}
use Rattle.hub_parties.specs.Prefixes.{are_company_prefixes}
use Rattle.hub_parties.specs.declared.role.Role.{Role}
use Rattle.hub_parties.specs.declared.role.Role.TheVariants.{Retailer, Supplier}
use Rattle.hub_parties.specs.declared.row.SupplierRow.{SupplierRow}

pub record RegisterRows : Type 0 where
  pub hub : List ℕ
  pub retailer : List ℕ
  pub retailer_key : List ℕ
  pub suppliers : List SupplierRow

abbrev pub rows_by : List ℕ → List ℕ → List ℕ → List SupplierRow → RegisterRows
rows_by hub retailer retailer_key suppliers =
    record { hub = hub; retailer = retailer; retailer_key = retailer_key; suppliers = suppliers }

-- the GLNs of the hub and of the retailer
pub record Parties : Type 0 where
  pub hub : List ℕ
  pub retailer : List ℕ

abbrev pub parties_of : RegisterRows → Parties
parties_of rows = record { hub = rows.hub; retailer = rows.retailer }

-- the company prefixes of each supplier
abbrev pub company_prefixes : List SupplierRow → List (List (List ℕ))
company_prefixes suppliers = map (λ supplier. supplier.prefixes) suppliers

-- all GLNs, the hub's and the retailer's first
abbrev pub glns : RegisterRows → List (List ℕ)
glns rows = rows.hub ∷ rows.retailer ∷ map (λ row. row.gln) rows.suppliers

-- all keys, the retailer's first
abbrev pub keys : RegisterRows → List (List ℕ)
keys rows = rows.retailer_key ∷ map (λ row. row.key) rows.suppliers

-- the row of a supplier, found by its GLN
abbrev pub supplier_row : List SupplierRow → List ℕ → Option SupplierRow
supplier_row suppliers gln = find (λ supplier. bytes_eq supplier.gln gln) suppliers

abbrev pub row_of : RegisterRows → List ℕ → Option SupplierRow
row_of rows gln = supplier_row rows.suppliers gln

-- the role of a caller, if this is the row of the supplier with its GLN
abbrev pub role_by : RegisterRows → Option SupplierRow → List ℕ → List ℕ → Option Role
role_by rows (Some row) gln key = if bytes_eq row.key key then Some Supplier else None
role_by rows None gln key = if bytes_eq rows.retailer gln && bytes_eq rows.retailer_key key then Some Retailer else None

-- the role of a caller, supplier or retailer, which its own GLN and its own key prove together
abbrev pub role_of : RegisterRows → List ℕ → List ℕ → Option Role
role_of rows gln key = role_by rows (row_of rows gln) gln key

-- the most suppliers that a register may have
abbrev pub most_suppliers : ℕ
most_suppliers = 1000

-- what holds for every register: among other things, its suppliers are sorted by GLN
pub record IsRegister (rows : RegisterRows) : Type 0 where
  pub few : length rows.suppliers ≤ most_suppliers
  pub glns_right : IsTrue (list_all is_gln (glns rows))
  pub glns_apart : has_twice (glns rows) ≡ false
  pub prefixes_right : IsTrue (list_all are_company_prefixes (company_prefixes rows.suppliers))
  pub keys_right : IsTrue (list_all is_party_key (keys rows))
  pub prefixes_free : PrefixFree (company_prefixes rows.suppliers)
  pub suppliers_rise : Rises bytes_cmp (map (λ row. row.gln) rows.suppliers)
