-- Shows that valid rows form a register exactly if they pass the tests, and that rising rows keep their order.
use Rattle.std.proofs.Common.{◌≡◌, ℕ, Bool, true, false, not, ◌&&◌, List, [], ◌∷◌, ◌++◌, length, map, refl, sym, ap, ◌∙◌, subst}
use Rattle.std.specs.List.{list_all, AllByRecursion}
use Rattle.std.specs.Ordering.{is_lt, is_eq, match_ordering, ordering_reverse}
use Rattle.std.specs.Str.{bytes_eq}
use Rattle.std.specs.declared.cmp.Ordering.{Ordering}
use Rattle.std.specs.declared.cmp.Ordering.TheVariants.{Less, Equal, Greater}
use Rattle.std.proofs.lemmas.Bool.{and_parts, and_from, or_parts, or_from, not-true, leb-true, le-leb}
use Rattle.std.proofs.lemmas.Cmp.{nat_list_cmp_total}
use Rattle.std.proofs.lemmas.Map.Text.{is_eq-slice_cmp}
use Rattle.std.proofs.lemmas.List.{append-nil, append_assoc}
use Rattle.edi_base.specs.Seen.{is_among}
use Rattle.gs1_ids.specs.Gln.{is_gln}
use Rattle.gs1_ids.proofs.Overlaps.{apart-iff}
use Rattle.hub_parties.specs.Key.{is_party_key}
use Rattle.hub_parties.specs.KeyOrder.{bytes_cmp, Rises}
use Rattle.hub_parties.specs.Prefixes.{are_company_prefixes}
use Rattle.hub_parties.specs.Rows.{IsRegister, rows_by, company_prefixes, most_suppliers}
use Rattle.hub_parties.specs.declared.row.SupplierRow.{SupplierRow}
use Rattle.hub_register.specs.InOrder.{put, put_all}
use Rattle.hub_register.specs.Kept.{is_valid, goes_before, are_in_order, is_other, are_others, keep_all}
use Rattle.hub_register.proofs.Ordered.{Pairwise}
use Rattle.hub_register.proofs.Right.{GlnsDiffer, HaveFreePrefixes, not_among, once, free, prefix_free}

-- Rising rows, inserted one after another.
abbrev pub Below : SupplierRow → SupplierRow → Type 0
Below r s = bytes_cmp r.gln s.gln ≡ Less

put-last : (row : SupplierRow) (done : List SupplierRow)
    → AllByRecursion (λ r. bytes_cmp r.gln row.gln ≡ Less) done
    → put row done ≡ done ++ row ∷ []
put-last row [] below = refl
put-last row (r ∷ done) below =
    ap (λ o. match_ordering o (row ∷ r ∷ done) (row ∷ done) (r ∷ put row done))
    (nat_list_cmp_total.antisymm row.gln r.gln ∙ ap ordering_reverse below.0)
    ∙ ap (λ rest. r ∷ rest) (put-last row done below.1)

all_below : (row : SupplierRow) (rows done : List SupplierRow)
    → Rises bytes_cmp (map (λ r. r.gln) (done ++ row ∷ rows))
    → AllByRecursion (λ r. bytes_cmp r.gln row.gln ≡ Less) done
all_below row rows [] rises = tt
all_below row rows (r ∷ done) rises = (head done rises.0, all_below row rows done rises.1)
  where
    head : (others : List SupplierRow)
        → AllByRecursion (λ gln. bytes_cmp r.gln gln ≡ Less) (map (λ s. s.gln) (others ++ row ∷ rows))
        → bytes_cmp r.gln row.gln ≡ Less
    head [] all = all.0
    head (s ∷ others) all = head others all.1

put_after : (rows done : List SupplierRow) → Rises bytes_cmp (map (λ r. r.gln) (done ++ rows)) → put_all rows done ≡ done ++ rows
put_after [] done rises = sym (append-nil done)
put_after (row ∷ rows) done rises =
    ap (put_all rows) (put-last row done (all_below row rows done rises))
    ∙ put_after rows (done ++ row ∷ [])
    (subst (λ (all : List SupplierRow). Rises bytes_cmp (map (λ r. r.gln) all)) (sym (append_assoc done (row ∷ []) rows)) rises)
    ∙ append_assoc done (row ∷ []) rows

pub as_they_stand : (rows : List SupplierRow) → Rises bytes_cmp (map (λ r. r.gln) rows) → put_all rows [] ≡ rows
as_they_stand rows rises = put_after rows [] rises

-- What the tests mean.
pub is_less : (o : Ordering) → is_lt o ≡ true → o ≡ Less
is_less Less h = refl
is_less Equal h = cc
is_less Greater h = cc

each : {X : Type 0} (p : X → Bool) (P : X → Type 0) → ((x : X) → p x ≡ true → P x) →
    (xs : List X) → list_all p xs ≡ true → AllByRecursion P xs
each p P f [] h = tt
each p P f (x ∷ xs) h = let parts = and_parts (p x) (list_all p xs) h in (f x parts.0, each p P f xs parts.1)

rises : (rows : List SupplierRow) → are_in_order rows ≡ true → Rises bytes_cmp (map (λ r. r.gln) rows)
rises [] h = tt
rises (row ∷ rows) h =
    let parts = and_parts (list_all (goes_before row) rows) (are_in_order rows) h in (below rows parts.0, rises rows parts.1)
  where
    below : (others : List SupplierRow)
        → list_all (goes_before row) others ≡ true
        → AllByRecursion (λ gln. bytes_cmp row.gln gln ≡ Less) (map (λ r. r.gln) others)
    below [] all = tt
    below (other ∷ others) all =
        let parts = and_parts (goes_before row other) (list_all (goes_before row) others) all in
        (is_less (bytes_cmp row.gln other.gln) (and_parts (is_lt (bytes_cmp row.gln other.gln)) _ parts.0).0, below others parts.1)

differ_in_order : (rows : List SupplierRow) → are_in_order rows ≡ true → Pairwise GlnsDiffer rows
differ_in_order [] h = tt
differ_in_order (row ∷ rows) h =
    let parts = and_parts (list_all (goes_before row) rows) (are_in_order rows) h in (
      each (goes_before row) (GlnsDiffer row) (λ other before.
          sym (is_eq-slice_cmp row.gln other.gln)
          ∙ ap is_eq (is_less (bytes_cmp row.gln other.gln) (and_parts (is_lt (bytes_cmp row.gln other.gln)) _ before).0)) rows parts.0,
      differ_in_order rows parts.1,
    )

free_in_order : (rows : List SupplierRow) → are_in_order rows ≡ true → Pairwise HaveFreePrefixes rows
free_in_order [] h = tt
free_in_order (row ∷ rows) h =
    let parts = and_parts (list_all (goes_before row) rows) (are_in_order rows) h in (
      each (goes_before row) (HaveFreePrefixes row) (λ other before.
          (apart-iff row.prefixes other.prefixes _ refl).0
          (not-true _ (and_parts (is_lt (bytes_cmp row.gln other.gln)) _ before).1)) rows parts.0,
      free_in_order rows parts.1,
    )

no_supplier_is : (hub retailer : List ℕ) (rows : List SupplierRow) → list_all (is_other hub retailer) rows ≡ true
    → (is_among hub (map (λ r. r.gln) rows) ≡ false) × (is_among retailer (map (λ r. r.gln) rows) ≡ false)
no_supplier_is hub retailer rows h = (
  not_among hub rows (each (is_other hub retailer) (λ r. bytes_eq hub r.gln ≡ false)
      (λ r other. not-true _ (and_parts (not (bytes_eq hub r.gln)) _ other).0) rows h),
  not_among retailer rows (each (is_other hub retailer) (λ r. bytes_eq retailer r.gln ≡ false)
      (λ r other. not-true _ (and_parts (not (bytes_eq hub r.gln)) _ other).1) rows h),
)

module _ (f : SupplierRow → List ℕ) (p : List ℕ → Bool) (part : (row : SupplierRow) → is_valid row ≡ true → p (f row) ≡ true) where
  all_parts : (rows : List SupplierRow) → list_all is_valid rows ≡ true → list_all p (map f rows) ≡ true
  all_parts [] h = refl
  all_parts (row ∷ rows) h =
      let parts = and_parts (is_valid row) (list_all is_valid rows) h in and_from (p (f row)) _ (part row parts.0) (all_parts rows parts.1)

prefixes_valid : (rows : List SupplierRow) → list_all is_valid rows ≡ true → list_all are_company_prefixes (company_prefixes rows) ≡ true
prefixes_valid [] h = refl
prefixes_valid (row ∷ rows) h =
    let parts = and_parts (is_valid row) (list_all is_valid rows) h in
    and_from (are_company_prefixes row.prefixes) _
    (and_parts (are_company_prefixes row.prefixes) _ (and_parts (is_gln row.gln) _ parts.0).1).0 (prefixes_valid rows parts.1)

module _ (hub retailer key : List ℕ) (rows : List SupplierRow) where
  pub kept_right : keep_all hub retailer rows ≡ true
      → is_gln hub ≡ true
      → is_gln retailer ≡ true
      → is_party_key key ≡ true
      → list_all is_valid rows ≡ true
      → IsRegister (rows_by hub retailer key rows)
  kept_right kept hub_valid retailer_valid key_valid valid =
      let few = and_parts _ (are_others hub retailer rows && are_in_order rows) kept in
      let order = and_parts (are_others hub retailer rows) (are_in_order rows) few.1 in
      let others = and_parts (not (bytes_eq hub retailer)) (list_all (is_other hub retailer) rows) order.0 in
      let none = no_supplier_is hub retailer rows others.1 in
      record {
        few = leb-true (length rows) most_suppliers few.0;
        glns_right =
            and_from (is_gln hub) _ hub_valid (and_from (is_gln retailer) _ retailer_valid
            (all_parts (λ row. row.gln) is_gln (λ row h. (and_parts (is_gln row.gln) _ h).0) rows valid));
        glns_apart =
            or_from _ _ (or_from (bytes_eq hub retailer) _ (not-true _ others.0) none.0)
            (or_from _ _ none.1 (once rows (differ_in_order rows order.1)));
        prefixes_right = prefixes_valid rows valid;
        keys_right =
            and_from (is_party_key key) _ key_valid (all_parts (λ row. row.key) is_party_key
            (λ row h. (and_parts (are_company_prefixes row.prefixes) _ (and_parts (is_gln row.gln) _ h).1).1) rows valid);
        prefixes_free = prefix_free rows (free_in_order rows order.1);
        suppliers_rise = rises rows order.1;
      }

  kept_order : keep_all hub retailer rows ≡ true → are_in_order rows ≡ true
  kept_order kept =
      (and_parts (are_others hub retailer rows) (are_in_order rows)
      (and_parts _ (are_others hub retailer rows && are_in_order rows) kept).1).1

  pub kept_stand : keep_all hub retailer rows ≡ true → put_all rows [] ≡ rows
  kept_stand kept = as_they_stand rows (rises rows (kept_order kept))

-- and the converse
pub in_order : (rows : List SupplierRow) → Rises bytes_cmp (map (λ r. r.gln) rows) → Pairwise HaveFreePrefixes rows
    → are_in_order rows ≡ true
in_order [] rising apart = refl
in_order (row ∷ rows) rising apart = and_from _ _ (before rows rising.0 apart.0) (in_order rows rising.1 apart.1)
  where
    before : (others : List SupplierRow)
        → AllByRecursion (λ gln. bytes_cmp row.gln gln ≡ Less) (map (λ r. r.gln) others)
        → AllByRecursion (HaveFreePrefixes row) others
        → list_all (goes_before row) others ≡ true
    before [] below free = refl
    before (other ∷ others) below free =
        and_from _ _ (and_from _ _ (ap is_lt below.0) (ap not ((apart-iff row.prefixes other.prefixes _ refl).1 free.0)))
        (before others below.1 free.1)

others_back : (hub retailer : List ℕ) (rows : List SupplierRow)
    → is_among hub (map (λ r. r.gln) rows) ≡ false
    → is_among retailer (map (λ r. r.gln) rows) ≡ false
    → list_all (is_other hub retailer) rows ≡ true
others_back hub retailer [] a b = refl
others_back hub retailer (row ∷ rows) a b =
    let first = or_parts (bytes_eq hub row.gln) _ a in
    let second = or_parts (bytes_eq retailer row.gln) _ b in
    and_from _ _ (and_from _ _ (ap not first.0) (ap not second.0)) (others_back hub retailer rows first.1 second.1)

pub right_kept : (hub retailer key : List ℕ) (rows : List SupplierRow) →
    IsRegister (rows_by hub retailer key rows) → keep_all hub retailer rows ≡ true
right_kept hub retailer key rows right =
    let first = or_parts (is_among hub (retailer ∷ map (λ r. r.gln) rows)) _ right.glns_apart in
    let at_hub = or_parts (bytes_eq hub retailer) _ first.0 in
    let second = or_parts (is_among retailer (map (λ r. r.gln) rows)) _ first.1 in
    and_from _ _ (le-leb (length rows) most_suppliers right.few)
    (and_from _ _ (and_from _ _ (ap not at_hub.0) (others_back hub retailer rows at_hub.1 second.0))
    (in_order rows right.suppliers_rise (free rows right.prefixes_free)))
