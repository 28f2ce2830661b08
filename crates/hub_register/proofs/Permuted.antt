-- Shows that sorting rows with different GLNs by GLN keeps the same rows.
use Rattle.std.proofs.Common.{◌≡◌, ℕ, ◌+◌, Bool, true, false, not, nat_lt, length, option_map, if◌then◌else◌, List, [], ◌∷◌}
use Rattle.std.proofs.Common.{◌++◌, map, Ordering, Option, Some, None, Ok, refl, sym, ap, ◌∙◌}
use Rattle.std.specs.List.{AllByRecursion, list_all}
use Rattle.std.specs.List.Sorted.{IsPermutation}
use Rattle.std.specs.Ordering.{nat_cmp, match_ordering, is_eq}
use Rattle.std.specs.Cmp.Lexicographic.{slice_cmp}
use Rattle.std.specs.declared.cmp.Ordering.TheVariants.{Less, Equal, Greater}
use Rattle.std.proofs.lemmas.Bool.{or_parts, true≢false}
use Rattle.std.proofs.lemmas.List.Sorted.{IsPermutation-refl, IsPermutation-cons, IsPermutation-middle, IsPermutation-trans}
use Rattle.std.proofs.lemmas.List.Sorted.{IsPermutation-sym, IsPermutation-append_right}
use Rattle.std.proofs.lemmas.Map.Text.{is_eq-slice_cmp}
use Rattle.edi_base.specs.Seen.{is_among, has_twice}
use Rattle.gs1_ids.specs.Gln.{is_gln}
use Rattle.gs1_ids.specs.Overlap.{first_overlap_between}
use Rattle.hub_parties.specs.Key.{is_party_key}
use Rattle.hub_parties.specs.Prefixes.{are_company_prefixes, by_bytes}
use Rattle.hub_parties.specs.Rows.{RegisterRows, glns, company_prefixes, keys, most_suppliers}
use Rattle.hub_parties.specs.declared.row.SupplierRow.{SupplierRow}
use Rattle.hub_register.specs.Document.{rows_of_text}
use Rattle.hub_register.specs.Fault.{fault_of}
use Rattle.hub_register.specs.Register.{register_of_rows, unless_faulty, HasRows, RegisterHasItsRows}
use Rattle.hub_register.specs.InOrder.{put, put_all, with_sorted_prefixes, in_gln_order}
use Rattle.hub_register.specs.declared.fault.RegisterFault.{RegisterFault}
use Rattle.hub_register.specs.declared.fault.RegisterFault.TheVariants.{Many, Gln, Twice, Prefix, Key, Overlap}
use Rattle.hub_register.proofs.Ordered.{every-put, Pairwise}
use Rattle.hub_register.proofs.Right.{GlnsDiffer, differ-turned, differ}
use Rattle.hub_register.proofs.SortedPrefixes.{same_glns, each_the_same}

-- inserting a row gives that row and the others, if none of them has its GLN
put-case : (o : Ordering) (row r : SupplierRow) (rs more : List SupplierRow) → is_eq o ≡ false → IsPermutation (row ∷ rs) more
    → IsPermutation (row ∷ r ∷ rs) (match_ordering o (row ∷ r ∷ rs) (row ∷ rs) (r ∷ more))
put-case Less row r rs more differs ih = IsPermutation-refl (row ∷ r ∷ rs)
put-case Equal row r rs more differs ih = absurd (true≢false differs)
put-case Greater row r rs more differs ih =
    IsPermutation-trans (row ∷ r ∷ rs) (r ∷ row ∷ rs) (r ∷ more) (IsPermutation-middle (row ∷ []) r rs)
    (IsPermutation-cons r (row ∷ rs) more ih)

put-permutes : (row : SupplierRow) (rows : List SupplierRow) → AllByRecursion (GlnsDiffer row) rows
    → IsPermutation (row ∷ rows) (put row rows)
put-permutes row [] differs = IsPermutation-refl (row ∷ [])
put-permutes row (r ∷ rs) differs =
    put-case (slice_cmp nat_cmp row.gln r.gln) row r rs (put row rs) (is_eq-slice_cmp row.gln r.gln ∙ differs.0)
    (put-permutes row rs differs.1)

between-next : (row : SupplierRow) (rows done : List SupplierRow)
    → AllByRecursion (GlnsDiffer row) rows
    → AllByRecursion (λ r. AllByRecursion (GlnsDiffer r) done) rows
    → AllByRecursion (λ r. AllByRecursion (GlnsDiffer r) (put row done)) rows
between-next row [] done here there = tt
between-next row (r ∷ rs) done here there =
    (every-put (GlnsDiffer r) row done (differ-turned row r here.0) there.0, between-next row rs done here.1 there.1)

put_all-permutes : (rows done : List SupplierRow)
    → Pairwise GlnsDiffer rows
    → AllByRecursion (λ r. AllByRecursion (GlnsDiffer r) done) rows
    → IsPermutation (rows ++ done) (put_all rows done)
put_all-permutes [] done apart between = IsPermutation-refl done
put_all-permutes (row ∷ rows) done apart between =
    IsPermutation-trans (row ∷ (rows ++ done)) (rows ++ row ∷ done) (put_all rows (put row done))
    (IsPermutation-sym (rows ++ row ∷ done) (row ∷ (rows ++ done)) (IsPermutation-middle rows row done))
    (IsPermutation-trans (rows ++ row ∷ done) (rows ++ put row done) (put_all rows (put row done))
    (IsPermutation-append_right rows (row ∷ done) (put row done) (put-permutes row done between.0))
    (put_all-permutes rows (put row done) apart.1 (between-next row rows done apart.0 between.1)))

none : (rows : List SupplierRow) → AllByRecursion (λ r. AllByRecursion (GlnsDiffer r) []) rows
none [] = tt
none (row ∷ rows) = (tt, none rows)

with_nothing : (rows : List SupplierRow) → rows ++ [] ≡ rows
with_nothing [] = refl
with_nothing (row ∷ rows) = ap (λ rest. row ∷ rest) (with_nothing rows)

-- what the third condition says if the rows have no fault
third : (a b c : Bool) (f g h : RegisterFault) (rest : Option RegisterFault)
    → (if a then Some f else if b then Some g else if c then Some h else rest) ≡ None
    → c ≡ false
third true b c f g h rest e = cc
third false true c f g h rest e = cc
third false false true f g h rest e = cc
third false false false f g h rest e = refl

ordered : (rows : RegisterRows)
    → has_twice (glns rows) ≡ false
    → IsPermutation (map with_sorted_prefixes rows.suppliers) (in_gln_order rows).suppliers
ordered rows once =
    let suppliers = map with_sorted_prefixes rows.suppliers in
    let first = or_parts (is_among rows.hub (rows.retailer ∷ map (λ r. r.gln) rows.suppliers)) _ once in
    let second = or_parts (is_among rows.retailer (map (λ r. r.gln) rows.suppliers)) _ first.1 in
    let apart : has_twice (map (λ r. r.gln) suppliers) ≡ false = ap has_twice (same_glns rows.suppliers) ∙ second.1 in
    rw (with_nothing suppliers) at (put_all-permutes suppliers [] (differ suppliers apart) (none suppliers))

by_fault : (rows register : RegisterRows) (fault : Option RegisterFault)
    → fault_of rows ≡ fault
    → unless_faulty rows fault ≡ Ok register
    → HasRows rows register
by_fault rows register None right e =
    let same : in_gln_order rows ≡ register = cc in
    let once : has_twice (glns rows) ≡ false =
    third (nat_lt most_suppliers (length rows.suppliers)) (not (list_all is_gln (glns rows))) (has_twice (glns rows)) Many Gln Twice
    (if not (list_all (λ row. are_company_prefixes (by_bytes row.prefixes)) rows.suppliers)
    then Some Prefix
    else if not (list_all is_party_key (keys rows))
    then Some Key
    else option_map (λ places. Overlap (places.0 + 1) (places.1 + 1)) (first_overlap_between (company_prefixes rows.suppliers)))
    right in
    record {
      right = right;
      hub = sym (ap (λ (r : RegisterRows). r.hub) same);
      retailer = sym (ap (λ (r : RegisterRows). r.retailer) same);
      retailer_key = sym (ap (λ (r : RegisterRows). r.retailer_key) same);
      suppliers = rw (← same) (ordered rows once);
      same_prefixes = each_the_same rows.suppliers;
    }
by_fault rows register (Some fault) right e = cc

by_rows : (text : List ℕ) (register : RegisterRows) (read : Option RegisterRows)
    → rows_of_text text ≡ read
    → register_of_rows read ≡ Ok register
    → (rows : RegisterRows) × (rows_of_text text ≡ Some rows) × HasRows rows register
by_rows text register None is e = cc
by_rows text register (Some rows) is e = (rows, is, by_fault rows register (fault_of rows) refl e)

pub its_rows : RegisterHasItsRows
its_rows text register e = by_rows text register (rows_of_text text) refl e
