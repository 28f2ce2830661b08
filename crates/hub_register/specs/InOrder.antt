-- Sorts the suppliers of a register by GLN, and the prefixes of each by their bytes.
use Rattle.std.specs.Prelude.{List, [], ◌∷◌, map}
use Rattle.std.specs.Ordering.{nat_cmp, match_ordering}
use Rattle.std.specs.Cmp.Lexicographic.{slice_cmp}
use Rattle.hub_parties.specs.Prefixes.{by_bytes}
use Rattle.hub_parties.specs.Rows.{RegisterRows}
use Rattle.hub_parties.specs.declared.row.SupplierRow.{SupplierRow}

-- Inserts a row in the order of the GLNs. No row has its GLN yet, so the case of equal GLNs never arises.
abbrev pub put : SupplierRow → List SupplierRow → List SupplierRow
put row [] = row ∷ []
put row (first ∷ rest) =
    match_ordering (slice_cmp nat_cmp row.gln first.gln) (row ∷ first ∷ rest) (row ∷ rest) (first ∷ put row rest)

-- inserts the rows one after another
abbrev pub put_all : List SupplierRow → List SupplierRow → List SupplierRow
put_all [] done = done
put_all (row ∷ rows) done = put_all rows (put row done)

-- the row with its prefixes sorted by their bytes
abbrev pub with_sorted_prefixes : SupplierRow → SupplierRow
with_sorted_prefixes row = record row { prefixes = by_bytes row.prefixes }

-- the rows as a register has them: suppliers sorted by GLN, each with sorted prefixes
abbrev pub in_gln_order : RegisterRows → RegisterRows
in_gln_order rows = record rows { suppliers = put_all (map with_sorted_prefixes rows.suppliers) [] }
