-- Defines the register that tables hold, and the changes that found one.
use Rattle.std.specs.Prelude.{◌≡◌, ℕ, Bool, true, List, [], ◌∷◌, filter, map, Option}
use Rattle.std.specs.List.{AllByRecursion, list_any, flat_map}
use Rattle.std.specs.declared.cmp.Ordering.{Ordering}
use Rattle.hub_parties.specs.KeyOrder.{Rises, bytes_cmp}
use Rattle.hub_parties.specs.Rows.{RegisterRows, Parties, IsRegister, rows_by, parties_of, supplier_row}
use Rattle.hub_parties.specs.declared.row.SupplierRow.{SupplierRow}
use Rattle.hub_tables.specs.Change.{apply_all}
use Rattle.hub_tables.specs.Rows.{same, key_cmp, prefix_cmp}
use Rattle.hub_tables.specs.Tables.{Tables, empty}
use Rattle.hub_tables.specs.declared.change.Change.{Change}
use Rattle.hub_tables.specs.declared.change.Change.TheVariants.{AddHub, AddKey, AddPrefix}
use Rattle.hub_tables.specs.declared.rows.HubRow.{HubRow}
use Rattle.hub_tables.specs.declared.rows.KeyRow.{KeyRow}
use Rattle.hub_tables.specs.declared.rows.PrefixRow.{PrefixRow}

-- whether the supplier has a key
abbrev pub has_key : List KeyRow → List ℕ → Bool
has_key keys supplier = list_any (λ row. same row.supplier supplier) keys

-- the row of a supplier, built from its key and its prefixes
abbrev pub row_in : List PrefixRow → KeyRow → SupplierRow
row_in prefixes row = record {
  gln = row.supplier;
  prefixes = map (λ found. found.prefix) (filter (λ found. same found.supplier row.supplier) prefixes);
  key = row.key;
}

abbrev pub suppliers_of : Tables → List SupplierRow
suppliers_of t = map (row_in t.prefixes) t.keys

-- suppliers are in the order of their GLNs
abbrev pub supplier_cmp : SupplierRow → SupplierRow → Ordering
supplier_cmp a b = bytes_cmp a.gln b.gln

-- the hub's row, or one with empty GLNs and no key if there is none
abbrev pub hub_in : List HubRow → HubRow
hub_in [] = record { hub = []; retailer = []; key = [] }
hub_in (row ∷ rows) = row

abbrev pub register_by : HubRow → List SupplierRow → RegisterRows
register_by row suppliers = rows_by row.hub row.retailer row.key suppliers

abbrev pub register_of : Tables → RegisterRows
register_of t = register_by (hub_in t.hubs) (suppliers_of t)

-- the GLNs of the hub and of the retailer
abbrev pub parties_in : Tables → Parties
parties_in t = parties_of (register_of t)

-- the row of the supplier with this GLN; that supplier's own rows give the same one as all tables do
abbrev pub row_at : List ℕ → Tables → Option SupplierRow
row_at gln t = supplier_row (suppliers_of t) gln

-- The tables hold a register: they have exactly one hub row, each supplier and each prefix once, and a key for each
-- prefix's supplier, and together these rows are a valid register.
pub record HoldsRegister (t : Tables) : Type 0 where
  pub hub : HubRow
  pub one_hub : t.hubs ≡ hub ∷ []
  pub keys_rise : Rises key_cmp t.keys
  pub prefixes_rise : Rises prefix_cmp t.prefixes
  pub prefixes_had : AllByRecursion (λ row. has_key t.keys row.supplier ≡ true) t.prefixes
  pub right : IsRegister (register_of t)

-- The changes that add a register's rows.
abbrev pub prefix_changes : List ℕ → List (List ℕ) → List Change
prefix_changes supplier prefixes =
    map (λ prefix. AddPrefix (record { prefix = prefix; supplier = supplier })) prefixes

abbrev pub row_changes : SupplierRow → List Change
row_changes row = AddKey (record { supplier = row.gln; key = row.key }) ∷ prefix_changes row.gln row.prefixes

abbrev pub suppliers_changes : List SupplierRow → List Change
suppliers_changes rows = flat_map row_changes rows

abbrev pub register_changes : RegisterRows → List Change
register_changes register =
    AddHub (record { hub = register.hub; retailer = register.retailer; key = register.retailer_key })
    ∷ suppliers_changes register.suppliers

-- tables that have a register's rows and no others
abbrev pub founded : RegisterRows → Tables
founded register = apply_all (register_changes register) empty
