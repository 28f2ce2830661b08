-- Defines what a register text (TOML 1.1) contains: at the top a string `hub`; a table `retailer` with the strings
-- `gln` and `key`; and an array of tables `supplier`, each with the strings `gln` and `key` and with `prefix`, a string
-- or an array of strings. Other keys are ignored.
use Rattle.toml.specs.Data.{Data, Items, no_items, item, Members, get_member, string, array, as_str, as_array, as_table}
use Rattle.toml.specs.Parse.{parse_document}
use Rattle.std.specs.Prelude.{ℕ, codes, List, [], ◌∷◌, Option, Some, None, option_map, option_and_then}
use Rattle.hub_parties.specs.Rows.{RegisterRows}
use Rattle.hub_parties.specs.declared.row.SupplierRow.{SupplierRow}

infixl 10 ◌>>=◌
abbrev ◌>>=◌ : {A B : Type 0} → Option A → (A → Option B) → Option B
o >>= f = option_and_then f o

-- the string at a key of a table
abbrev pub string_at : List ℕ → Members → Option (List ℕ)
string_at key table = get_member key table >>= as_str

-- the table at a key of a table
abbrev pub table_at : List ℕ → Members → Option Members
table_at name table = get_member name table >>= as_table

-- the strings of an array, in their order
abbrev pub strings_in : Items → Option (List (List ℕ))
strings_in no_items = Some []
strings_in (item value values) = as_str value >>= (λ text. option_map (λ texts. text ∷ texts) (strings_in values))

-- the prefixes that a value gives: a string gives one, an array any number
abbrev pub prefixes_from : Data → Option (List (List ℕ))
prefixes_from (string text) = Some (text ∷ [])
prefixes_from (array values) = strings_in values
prefixes_from value = None

-- the prefixes at a key of a table
abbrev pub prefixes_at : List ℕ → Members → Option (List (List ℕ))
prefixes_at key table = get_member key table >>= prefixes_from

-- the row of a supplier, with its prefixes in the order of the text
abbrev pub row_with : List ℕ → List (List ℕ) → List ℕ → SupplierRow
row_with gln prefixes key = record { gln = gln; prefixes = prefixes; key = key }

-- the row of a supplier, from its table
abbrev pub supplier_in : Members → Option SupplierRow
supplier_in table =
    string_at (codes "gln") table >>= (λ gln.
    string_at (codes "key") table >>= (λ key.
    option_map (λ prefixes. row_with gln prefixes key) (prefixes_at (codes "prefix") table)))

-- the row of a supplier, from its value in the array
abbrev pub supplier_from : Data → Option SupplierRow
supplier_from value = as_table value >>= supplier_in

-- the rows of suppliers, from their tables in their order
abbrev pub suppliers_in : Items → Option (List SupplierRow)
suppliers_in no_items = Some []
suppliers_in (item value values) =
    supplier_from value >>= (λ row. option_map (λ rows. row ∷ rows) (suppliers_in values))

-- the values of the suppliers; none if there is no key `supplier`
abbrev pub supplier_values : Option Data → Option Items
supplier_values None = Some no_items
supplier_values (Some value) = as_array value

abbrev pub suppliers_at : List ℕ → Members → Option (List SupplierRow)
suppliers_at name table = supplier_values (get_member name table) >>= suppliers_in

-- the rows that a document contains
abbrev pub rows_in : Members → Option RegisterRows
rows_in document =
    string_at (codes "hub") document >>= (λ hub.
    table_at (codes "retailer") document >>= (λ retailer.
    string_at (codes "gln") retailer >>= (λ gln.
    string_at (codes "key") retailer >>= (λ key.
    option_map (λ suppliers. record { hub = hub; retailer = gln; retailer_key = key; suppliers = suppliers })
    (suppliers_at (codes "supplier") document)))))

-- the rows that a text contains
abbrev pub rows_of_text : List ℕ → Option RegisterRows
rows_of_text text = parse_document text >>= rows_in
