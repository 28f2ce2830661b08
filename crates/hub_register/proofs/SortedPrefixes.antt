-- Shows what sorting the prefixes of each supplier by their bytes keeps.
use Rattle.std.proofs.Common.{◌≡◌, ℕ, get_or, ◌&&◌, None, List, [], ◌∷◌, map, All, refl, ap, subst, sym, ◌∙◌}
use Rattle.std.specs.List.{list_all}
use Rattle.std.specs.List.Sorted.{IsPermutation}
use Rattle.gs1_ids.specs.Overlap.{PrefixFree, overlap_some, first_overlap_between}
use Rattle.gs1_ids.proofs.FirstPairs.{first_pair-alike}
use Rattle.gs1_ids.proofs.Overlaps.{free_if_none_between}
use Rattle.hub_parties.specs.Prefixes.{are_company_prefixes, by_bytes}
use Rattle.hub_parties.specs.Rows.{company_prefixes}
use Rattle.hub_parties.specs.declared.row.SupplierRow.{SupplierRow}
use Rattle.hub_parties.proofs.ByBytes.{by_bytes-permutes, overlap_some-by_bytes}
use Rattle.hub_register.specs.InOrder.{with_sorted_prefixes}

-- the prefixes of a row, sorted by their bytes
abbrev pub sorted : SupplierRow → List (List ℕ)
sorted row = by_bytes row.prefixes

pub same_glns : (rows : List SupplierRow) → map (λ row. row.gln) (map with_sorted_prefixes rows) ≡ map (λ row. row.gln) rows
same_glns [] = refl
same_glns (row ∷ rows) = ap (λ rest. row.gln ∷ rest) (same_glns rows)

pub same_keys : (rows : List SupplierRow) → map (λ row. row.key) (map with_sorted_prefixes rows) ≡ map (λ row. row.key) rows
same_keys [] = refl
same_keys (row ∷ rows) = ap (λ rest. row.key ∷ rest) (same_keys rows)

pub prefixes_sorted : (rows : List SupplierRow) → company_prefixes (map with_sorted_prefixes rows) ≡ map sorted rows
prefixes_sorted [] = refl
prefixes_sorted (row ∷ rows) = ap (λ rest. sorted row ∷ rest) (prefixes_sorted rows)

pub all_sorted : (rows : List SupplierRow)
    → list_all are_company_prefixes (company_prefixes (map with_sorted_prefixes rows))
    ≡ list_all (λ row. are_company_prefixes (by_bytes row.prefixes)) rows
all_sorted [] = refl
all_sorted (row ∷ rows) = ap (λ rest. are_company_prefixes (sorted row) && rest) (all_sorted rows)

-- the same suppliers overlap as in the order of the text
pub same_overlap : (rows : List SupplierRow) → first_overlap_between (map sorted rows) ≡ first_overlap_between (company_prefixes rows)
same_overlap rows =
    first_pair-alike overlap_some sorted (λ (row : SupplierRow). row.prefixes) (λ r s. overlap_some-by_bytes r.prefixes s.prefixes) rows

pub sorted_free : (rows : List SupplierRow)
    → first_overlap_between (company_prefixes rows) ≡ None
    → PrefixFree (company_prefixes (map with_sorted_prefixes rows))
sorted_free rows none =
    subst PrefixFree (sym (prefixes_sorted rows)) (free_if_none_between (map sorted rows) (same_overlap rows ∙ none))

-- and each has the same prefixes
pub each_the_same : (rows : List SupplierRow) → All (λ row. IsPermutation row.prefixes (with_sorted_prefixes row).prefixes) rows
each_the_same rows k d within = by_bytes-permutes (get_or rows k d).prefixes
