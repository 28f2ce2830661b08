-- Shows that rows without a fault form a register, also once they are sorted by GLN.
use Rattle.std.proofs.Common.{◌≡◌, ℕ, suc, ◌≤◌, true, false, ◌&&◌, List, [], ◌∷◌, length, get_or, map, refl}
use Rattle.std.proofs.Common.{ap, ap₂, ◌∙◌, arith, All, None}
use Rattle.std.specs.List.{list_all, AllByRecursion}
use Rattle.std.specs.Str.{bytes_eq}
use Rattle.std.proofs.lemmas.Bool.{and_parts, or_parts, or_from}
use Rattle.std.proofs.lemmas.List.{length-map}
use Rattle.std.proofs.lemmas.List.Elements.{All-cons, All-nil}
use Rattle.std.proofs.lemmas.List.Kept.{AllPairs-cons}
use Rattle.std.proofs.Math.Bool.{or_comm}
use Rattle.edi_base.specs.Seen.{is_among, has_twice}
use Rattle.edi_base.proofs.Twice.{bytes_eq-sym}
use Rattle.gs1_ids.specs.Overlap.{AreApart, PrefixFree, first_overlap_between}
use Rattle.gs1_ids.specs.Prefix.{begins}
use Rattle.gs1_ids.specs.Gln.{is_gln}
use Rattle.hub_parties.specs.Key.{is_party_key}
use Rattle.hub_parties.specs.Prefixes.{are_company_prefixes, by_bytes}
use Rattle.hub_parties.specs.Rows.{RegisterRows, IsRegister, company_prefixes, glns, keys, most_suppliers}
use Rattle.hub_parties.specs.declared.row.SupplierRow.{SupplierRow}
use Rattle.hub_register.specs.InOrder.{put_all, with_sorted_prefixes, in_gln_order}
use Rattle.hub_register.proofs.Ordered.{length-put_all, all-put_all, every-put_all, Pairwise, apart_in_order, rise_in_order}
use Rattle.hub_register.proofs.SortedPrefixes.{same_glns, same_keys, all_sorted, sorted_free}

-- GLNs that differ
abbrev pub GlnsDiffer : SupplierRow → SupplierRow → Type 0
GlnsDiffer r s = bytes_eq r.gln s.gln ≡ false

pub differ-turned : (r s : SupplierRow) → GlnsDiffer r s → GlnsDiffer s r
differ-turned r s h = bytes_eq-sym s.gln r.gln ∙ h

pub not_among : (text : List ℕ) (rows : List SupplierRow)
    → AllByRecursion (λ r. bytes_eq text r.gln ≡ false) rows
    → is_among text (map (λ r. r.gln) rows) ≡ false
not_among text [] h = refl
not_among text (r ∷ rs) h = or_from (bytes_eq text r.gln) _ h.0 (not_among text rs h.1)

pub each_differs : (text : List ℕ) (rows : List SupplierRow)
    → is_among text (map (λ r. r.gln) rows) ≡ false
    → AllByRecursion (λ r. bytes_eq text r.gln ≡ false) rows
each_differs text [] h = tt
each_differs text (r ∷ rs) h = let parts = or_parts (bytes_eq text r.gln) _ h in (parts.0, each_differs text rs parts.1)

pub once : (rows : List SupplierRow) → Pairwise GlnsDiffer rows → has_twice (map (λ r. r.gln) rows) ≡ false
once [] h = refl
once (r ∷ rs) h = or_from (is_among r.gln (map (λ s. s.gln) rs)) _ (not_among r.gln rs h.0) (once rs h.1)

pub differ : (rows : List SupplierRow) → has_twice (map (λ r. r.gln) rows) ≡ false → Pairwise GlnsDiffer rows
differ [] h = tt
differ (r ∷ rs) h = let parts = or_parts (is_among r.gln (map (λ s. s.gln) rs)) _ h in (each_differs r.gln rs parts.0, differ rs parts.1)

glns-apart : (hub retailer : List ℕ) (rows : List SupplierRow)
    → has_twice (hub ∷ retailer ∷ map (λ r. r.gln) rows) ≡ false
    → has_twice (hub ∷ retailer ∷ map (λ r. r.gln) (put_all rows [])) ≡ false
glns-apart hub retailer rows h =
    let first = or_parts (is_among hub (retailer ∷ map (λ r. r.gln) rows)) _ h in
    let at_hub = or_parts (bytes_eq hub retailer) _ first.0 in
    let second = or_parts (is_among retailer (map (λ r. r.gln) rows)) _ first.1 in
    let other : (text : List ℕ)
    → is_among text (map (λ r. r.gln) rows) ≡ false
    → is_among text (map (λ r. r.gln) (put_all rows [])) ≡ false =
    λ text none. not_among text (put_all rows [])
    (every-put_all (λ r. bytes_eq text r.gln ≡ false) rows [] (each_differs text rows none) tt) in
    or_from _ _ (or_from (bytes_eq hub retailer) _ at_hub.0 (other hub at_hub.1))
    (or_from _ _ (other retailer second.0) (once (put_all rows []) (apart_in_order GlnsDiffer differ-turned rows (differ rows second.1))))

-- prefixes that do not overlap
abbrev pub HaveFreePrefixes : SupplierRow → SupplierRow → Type 0
HaveFreePrefixes r s = AreApart r.prefixes s.prefixes

free-turned : (r s : SupplierRow) → HaveFreePrefixes r s → HaveFreePrefixes s r
free-turned r s h =
    λ j e there i d here.
    or_comm (begins (get_or s.prefixes j e) (get_or r.prefixes i d)) (begins (get_or r.prefixes i d) (get_or s.prefixes j e))
    ∙ h i d here j e there

each_free : (r : SupplierRow) (rows : List SupplierRow) → All (AreApart r.prefixes) (company_prefixes rows)
    → AllByRecursion (HaveFreePrefixes r) rows
each_free r [] h = tt
each_free r (s ∷ rows) h = (h 0 [] (omega arith), each_free r rows (λ k d within. h (suc k) d (omega (arith, within))))

pub free : (rows : List SupplierRow) → PrefixFree (company_prefixes rows) → Pairwise HaveFreePrefixes rows
free [] h = tt
free (r ∷ rows) h = (
  each_free r rows (λ k d within. h 0 (suc k) d (omega arith) (omega (arith, within))),
  free rows (λ i j d before within. h (suc i) (suc j) d (omega (arith, before)) (omega (arith, within))),
)

all_apart : (r : SupplierRow) (rows : List SupplierRow) → AllByRecursion (HaveFreePrefixes r) rows
    → All (AreApart r.prefixes) (company_prefixes rows)
all_apart r [] h = All-nil (AreApart r.prefixes)
all_apart r (s ∷ rows) h = All-cons (AreApart r.prefixes) s.prefixes (company_prefixes rows) h.0 (all_apart r rows h.1)

pub prefix_free : (rows : List SupplierRow) → Pairwise HaveFreePrefixes rows → PrefixFree (company_prefixes rows)
prefix_free [] h = λ i j d before within. absurd (omega arith)
prefix_free (r ∷ rows) h = AllPairs-cons AreApart r.prefixes (company_prefixes rows) (all_apart r rows h.0) (prefix_free rows h.1)

pub free_in_order : (rows : List SupplierRow) → PrefixFree (company_prefixes rows) → PrefixFree (company_prefixes (put_all rows []))
free_in_order rows h = prefix_free (put_all rows []) (apart_in_order HaveFreePrefixes free-turned rows (free rows h))

pub register_right : (rows : RegisterRows)
    → length rows.suppliers ≤ most_suppliers
    → list_all is_gln (glns rows) ≡ true
    → has_twice (glns rows) ≡ false
    → list_all (λ row. are_company_prefixes (by_bytes row.prefixes)) rows.suppliers ≡ true
    → list_all is_party_key (keys rows) ≡ true
    → first_overlap_between (company_prefixes rows.suppliers) ≡ None
    → IsRegister (in_gln_order rows)
register_right rows few right apart prefix key none =
    let suppliers = map with_sorted_prefixes rows.suppliers in
    let hub = and_parts (is_gln rows.hub) _ right in
    let retailer = and_parts (is_gln rows.retailer) _ hub.1 in
    let secret = and_parts (is_party_key rows.retailer_key) _ key in
    record {
      few = omega (arith, length-put_all suppliers [], length-map rows.suppliers with_sorted_prefixes, few);
      glns_right =
          ap₂ (λ a b. a && b) hub.0
          (ap₂ (λ a b. a && b) retailer.0
          (all-put_all (λ r. r.gln) is_gln suppliers [] (ap (list_all is_gln) (same_glns rows.suppliers) ∙ retailer.1) refl));
      glns_apart =
          glns-apart rows.hub rows.retailer suppliers
          (ap (λ rest. has_twice (rows.hub ∷ rows.retailer ∷ rest)) (same_glns rows.suppliers) ∙ apart);
      prefixes_right =
          all-put_all (λ r. r.prefixes) are_company_prefixes suppliers [] (all_sorted rows.suppliers ∙ prefix) refl;
      keys_right =
          ap₂ (λ a b. a && b) secret.0
          (all-put_all (λ r. r.key) is_party_key suppliers [] (ap (list_all is_party_key) (same_keys rows.suppliers) ∙ secret.1) refl);
      prefixes_free = free_in_order suppliers (sorted_free rows.suppliers none);
      suppliers_rise = rise_in_order suppliers;
    }

pub same_rows : (hub retailer key : List ℕ) (suppliers : List SupplierRow) (rows : RegisterRows)
    → hub ≡ rows.hub
    → retailer ≡ rows.retailer
    → key ≡ rows.retailer_key
    → suppliers ≡ put_all (map with_sorted_prefixes rows.suppliers) []
    → in_gln_order rows ≡ record { hub = hub; retailer = retailer; retailer_key = key; suppliers = suppliers }
same_rows hub retailer key suppliers rows a b c d = rw (a, b, c, d)
