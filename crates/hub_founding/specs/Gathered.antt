-- Defines how the prefixes of each supplier are collected, one prefix at a time.
use Rattle.std.specs.Prelude.{ℕ, Bool, if◌then◌else◌, List, [], ◌∷◌, ◌++◌, filter, map}
use Rattle.std.specs.List.{list_all}
use Rattle.hub_parties.specs.Prefixes.{are_company_prefixes, by_bytes}
use Rattle.hub_parties.specs.declared.row.SupplierRow.{SupplierRow}
use Rattle.hub_tables.specs.Register.{has_key}
use Rattle.hub_tables.specs.Rows.{same}
use Rattle.hub_tables.specs.declared.rows.KeyRow.{KeyRow}
use Rattle.hub_tables.specs.declared.rows.PrefixRow.{PrefixRow}

-- the prefixes of the supplier that has this key
abbrev pub prefixes_in : List PrefixRow → KeyRow → List (List ℕ)
prefixes_in prefixes row = map (λ found. found.prefix) (filter (λ found. same found.supplier row.supplier) prefixes)

-- the prefixes of each key's supplier, in the order of the keys
abbrev pub gathered : List PrefixRow → List KeyRow → List (List (List ℕ))
gathered prefixes keys = map (prefixes_in prefixes) keys

-- whether each prefix belongs to a supplier that has a key
abbrev pub all_had : List KeyRow → List PrefixRow → Bool
all_had keys prefixes = list_all (λ row. has_key keys row.supplier) prefixes

-- adds a prefix after the others of its supplier
abbrev pub with_prefix : PrefixRow → List KeyRow → List (List (List ℕ)) → List (List (List ℕ))
with_prefix row (key ∷ keys) (list ∷ lists) =
    (if same row.supplier key.supplier then list ++ row.prefix ∷ [] else list) ∷ with_prefix row keys lists
with_prefix row keys [] = []
with_prefix row [] (list ∷ lists) = list ∷ lists

-- the row of a supplier, from its key and its prefixes in any order
abbrev pub row_with : KeyRow → List (List ℕ) → SupplierRow
row_with key prefixes = record { gln = key.supplier; prefixes = by_bytes prefixes; key = key.key }

-- the rows of all suppliers, from their keys and their prefixes
abbrev pub rows_with : List KeyRow → List (List (List ℕ)) → List SupplierRow
rows_with (key ∷ keys) (list ∷ lists) = row_with key list ∷ rows_with keys lists
rows_with keys [] = []
rows_with [] (list ∷ lists) = []

-- whether each list has prefixes that a supplier can have
abbrev pub all_company_prefixes : List (List (List ℕ)) → Bool
all_company_prefixes lists = list_all (λ prefixes. are_company_prefixes (by_bytes prefixes)) lists
