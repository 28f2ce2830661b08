-- Shows what the changes that add a supplier do to tables.
use Rattle.std.proofs.Common.{◌≡◌, ◌≢◌, ℕ, Bool, true, false, cond, ◌||◌, inl, inr, List, [], ◌∷◌, ◌++◌, filter, find, map}
use Rattle.std.proofs.Common.{Some, None, refl, sym, ◌∙◌, ap, subst}
use Rattle.std.specs.List.{AllByRecursion, list_any, list_all}
use Rattle.std.specs.declared.cmp.Ordering.{Ordering}
use Rattle.std.specs.declared.cmp.Ordering.TheVariants.{Less, Equal, Greater}
use Rattle.std.specs.Ordering.{is_gt, is_eq, is_lt}
use Rattle.std.specs.Cmp.{IsTotalOrder}
use Rattle.std.specs.Bool.{⊤}
use Rattle.std.proofs.lemmas.Bool.{and_parts, or_right}
use Rattle.std.proofs.lemmas.List.{append-nil, append_assoc}
use Rattle.std.proofs.lemmas.Map.Text.{is_eq-slice_cmp}
use Rattle.edi_base.proofs.Twice.{bytes_eq-sym}
use Rattle.gs1_ids.specs.Prefix.{begins, overlap}
use Rattle.gs1_ids.proofs.Prefixes.{Decides-begins}
use Rattle.hub_parties.specs.KeyOrder.{InOrder, Rises, put, bytes_cmp}
use Rattle.hub_parties.specs.Prefixes.{rising}
use Rattle.hub_parties.specs.Rows.{supplier_row}
use Rattle.hub_parties.specs.declared.row.SupplierRow.{SupplierRow}
use Rattle.hub_tables.specs.Change.{apply, apply_all}
use Rattle.hub_tables.specs.Register.{supplier_cmp, has_key, row_in, suppliers_of, row_at, prefix_changes, row_changes}
use Rattle.hub_tables.specs.Rows.{same, key_cmp, prefix_cmp}
use Rattle.hub_tables.specs.Sets.{Has}
use Rattle.hub_tables.specs.Tables.{Tables, Ordered, view}
use Rattle.hub_tables.specs.declared.change.Change.TheVariants.{AddKey}
use Rattle.hub_tables.specs.declared.rows.KeyRow.{KeyRow}
use Rattle.hub_tables.specs.declared.rows.PrefixRow.{PrefixRow}
use Rattle.hub_tables.proofs.Filters.{filter_again}
use Rattle.hub_tables.proofs.Freedom.{PrefixesApart}
use Rattle.hub_tables.proofs.KeyOrder.{all_put, any_put, any_more, in_order_put, in_order_rising, filter_put_in, filter_put_out}
use Rattle.hub_tables.proofs.KeyOrder.{put_last}
use Rattle.hub_tables.proofs.KindOrders.{key_total, prefix_total}
use Rattle.hub_tables.proofs.Lists.{decide, same_is, same_if, differ, all_weaker, filter_none, any_if_found}
use Rattle.hub_tables.proofs.Members.{all_of, all_if, none_of, none_if, one_of, has_map, has_filter}
use Rattle.hub_tables.proofs.Setting.{rises_put}

-- Inserts rows one after another.
abbrev pub puts : {X : Type 0} → (X → X → Ordering) → List X → List X → List X
puts cmp [] there = there
puts cmp (x ∷ xs) there = puts cmp xs (put cmp x there)

module _ {X : Type 0} (cmp : X → X → Ordering) where
  pub filter_puts_out : (p : X → Bool) (xs there : List X)
      → AllByRecursion (λ x. p x ≡ false) xs
      → filter p (puts cmp xs there) ≡ filter p there
  filter_puts_out p [] there all = refl
  filter_puts_out p (x ∷ xs) there all = filter_puts_out p xs (put cmp x there) all.1 ∙ filter_put_out cmp p there x all.0

  pub all_puts : (P : X → Type 0) (xs there : List X) → AllByRecursion P xs → AllByRecursion P there → AllByRecursion P (puts cmp xs there)
  all_puts P [] there a b = b
  all_puts P (x ∷ xs) there a b = all_puts P xs (put cmp x there) a.1 (all_put cmp P there x b a.0)

  -- a function that keeps keys can be applied before or after inserting
  pub map_put : {Y : Type 0} (other : Y → Y → Ordering) (f : X → Y)
      → ((x y : X) → other (f x) (f y) ≡ cmp x y)
      → (xs : List X) (x : X)
      → map f (put cmp x xs) ≡ put other (f x) (map f xs)
  map_put other f e [] x = refl
  map_put other f e (y ∷ ys) x =
      split (map_put other f e ys x) (is_gt (cmp y x))
      ∙ ap (λ o. cond (is_gt o) (f x ∷ f y ∷ map f ys) (f y ∷ put other (f x) (map f ys))) (sym (e y x))
    where
      split : map f (put cmp x ys) ≡ put other (f x) (map f ys) → (v : Bool) → map f (cond v (x ∷ y ∷ ys) (y ∷ put cmp x ys))
          ≡ cond v (f x ∷ f y ∷ map f ys) (f y ∷ put other (f x) (map f ys))
      split rest true = refl
      split rest false = ap (λ zs. f y ∷ zs) rest

module _ {X : Type 0} {cmp : X → X → Ordering} (total : IsTotalOrder cmp) where
  pub filter_puts_in : (p : X → Bool) (xs there : List X)
      → InOrder cmp there
      → AllByRecursion (λ x. p x ≡ true) xs
      → filter p (puts cmp xs there) ≡ puts cmp xs (filter p there)
  filter_puts_in p [] there ordered all = refl
  filter_puts_in p (x ∷ xs) there ordered all =
      filter_puts_in p xs (put cmp x there) (in_order_put total there x ordered) all.1
      ∙ ap (puts cmp xs) (filter_put_in total p there x ordered all.0)

  -- rising rows, none of which is there already, still rise once they are inserted
  pub rises_puts : (xs there : List X)
      → Rises cmp xs
      → Rises cmp there
      → AllByRecursion (λ x. list_any (λ y. is_eq (cmp y x)) there ≡ false) xs
      → Rises cmp (puts cmp xs there)
  rises_puts [] there a b new = b
  rises_puts (x ∷ xs) there a b new =
      rises_puts xs (put cmp x there) a.1 (rises_put total x there b new.0) (still xs a.0 new.1)
    where
      still : (ys : List X)
          → AllByRecursion (λ y. cmp x y ≡ Less) ys
          → AllByRecursion (λ y. list_any (λ z. is_eq (cmp z y)) there ≡ false) ys
          → AllByRecursion (λ y. list_any (λ z. is_eq (cmp z y)) (put cmp x there) ≡ false) ys
      still [] c d = tt
      still (y ∷ ys) c d = (
        any_put cmp (λ z. is_eq (cmp z y)) there x
            ∙ (λ i. d.0 i || (is_eq (c.0 i) || false)),
        still ys c.1 d.1,
      )

-- rising rows that come after all others are inserted at the end
pub puts_rising : {X : Type 0} (cmp : X → X → Ordering) (xs done : List X)
    → AllByRecursion (λ x. AllByRecursion (λ y. is_gt (cmp y x) ≡ false) done) xs
    → Rises cmp xs
    → puts cmp xs done ≡ done ++ xs
puts_rising cmp [] done above rises = sym (append-nil done)
puts_rising {X} cmp (x ∷ xs) done above rises =
    ap (puts cmp xs) (put_last cmp done x above.0)
    ∙ puts_rising cmp xs (done ++ x ∷ []) (later xs above.1 rises.0) rises.1
    ∙ append_assoc done (x ∷ []) xs
  where
    push : (P : X → Type 0) (ys : List X) → AllByRecursion P ys → P x → AllByRecursion P (ys ++ x ∷ [])
    push P [] a b = (b, tt)
    push P (y ∷ ys) a b = (a.0, push P ys a.1 b)

    later : (ys : List X)
        → AllByRecursion (λ z. AllByRecursion (λ y. is_gt (cmp y z) ≡ false) done) ys
        → AllByRecursion (λ z. cmp x z ≡ Less) ys
        → AllByRecursion (λ z. AllByRecursion (λ y. is_gt (cmp y z) ≡ false) (done ++ x ∷ [])) ys
    later [] a b = tt
    later (z ∷ zs) a b = (push (λ y. is_gt (cmp y z) ≡ false) done a.0 (ap is_gt b.0), later zs a.1 b.1)

-- The rows of a supplier.
abbrev pub key_row : SupplierRow → KeyRow
key_row row = record { supplier = row.gln; key = row.key }

abbrev pub prefix_rows : List ℕ → List (List ℕ) → List PrefixRow
prefix_rows gln prefixes = map (λ prefix. record { prefix = prefix; supplier = gln }) prefixes

abbrev pub with_row : SupplierRow → Tables → Tables
with_row row t = record t {
  keys = put key_cmp (key_row row) t.keys;
  prefixes = puts prefix_cmp (prefix_rows row.gln row.prefixes) t.prefixes;
}

prefixes_added : (gln : List ℕ) (prefixes : List (List ℕ)) (t : Tables)
    → apply_all (prefix_changes gln prefixes) t ≡ record t { prefixes = puts prefix_cmp (prefix_rows gln prefixes) t.prefixes }
prefixes_added gln [] t = refl
prefixes_added gln (prefix ∷ prefixes) t =
    prefixes_added gln prefixes (record t { prefixes = put prefix_cmp (record { prefix = prefix; supplier = gln }) t.prefixes })

pub row_added : (row : SupplierRow) (t : Tables) → apply_all (row_changes row) t ≡ with_row row t
row_added row t = prefixes_added row.gln row.prefixes (apply (AddKey (key_row row)) t)

-- each prefix row is the supplier's
its_prefixes : (P : List ℕ → Type 0) (gln : List ℕ) (prefixes : List (List ℕ))
    → P gln
    → AllByRecursion (λ (r : PrefixRow). P r.supplier) (prefix_rows gln prefixes)
its_prefixes P gln [] p = tt
its_prefixes P gln (prefix ∷ prefixes) p = (p, its_prefixes P gln prefixes p)

-- the supplier sees its rows added, and no one else does
pub row_seen : (row : SupplierRow) (t : Tables) → Ordered t → view row.gln (with_row row t) ≡ with_row row (view row.gln t)
row_seen row t ordered =
    let mine = same_if row.gln row.gln refl in
    let keys = filter_put_in key_total (λ r. same r.supplier row.gln) t.keys (key_row row) ordered.keys mine in
    let prefixes = filter_puts_in prefix_total (λ r. same r.supplier row.gln) (prefix_rows row.gln row.prefixes) t.prefixes
    ordered.prefixes (its_prefixes (λ gln. same gln row.gln ≡ true) row.gln row.prefixes mine) in
    λ i. record (view row.gln t) { keys = keys i; prefixes = prefixes i }

pub row_unseen : (row : SupplierRow) (t : Tables) (other : List ℕ) → other ≢ row.gln → view other (with_row row t) ≡ view other t
row_unseen row t other ne =
    let theirs = differ row.gln other (λ e. ne (sym e)) in
    let keys = filter_put_out key_cmp (λ r. same r.supplier other) t.keys (key_row row) theirs in
    let prefixes = filter_puts_out prefix_cmp (λ r. same r.supplier other) (prefix_rows row.gln row.prefixes) t.prefixes
    (its_prefixes (λ gln. same gln other ≡ false) row.gln row.prefixes theirs) in
    λ i. record (view other t) { keys = keys i; prefixes = prefixes i }

-- what is found by a GLN in tables is also found in that GLN's view
pub own_row : (gln : List ℕ) (t : Tables) → row_at gln (view gln t) ≡ row_at gln t
own_row gln t = by_keys t.keys
  where
    seen : List PrefixRow
    seen = filter (λ r. same r.supplier gln) t.prefixes

    alike : (k : KeyRow) → same k.supplier gln ≡ true → row_in seen k ≡ row_in t.prefixes k
    alike k e =
        let prefixes : filter (λ r. same r.supplier k.supplier) seen ≡ filter (λ r. same r.supplier k.supplier) t.prefixes =
        subst (λ n. filter (λ r. same r.supplier n) seen ≡ filter (λ r. same r.supplier n) t.prefixes)
        (sym (same_is k.supplier gln e)) (filter_again (λ r. same r.supplier gln) (λ r. same r.supplier gln) t.prefixes (λ r h. h)) in
        ap (λ found. record { gln = k.supplier; prefixes = map (λ r. r.prefix) found; key = k.key }) prefixes

    by_keys : (keys : List KeyRow)
        → supplier_row (map (row_in seen) (filter (λ r. same r.supplier gln) keys)) gln
        ≡ supplier_row (map (row_in t.prefixes) keys) gln
    by_keys [] = refl
    by_keys (k ∷ keys) =
        elim (same k.supplier gln) as (λ v. same k.supplier gln ≡ v
        → supplier_row (map (row_in seen)
        (cond v (k ∷ filter (λ r. same r.supplier gln) keys) (filter (λ r. same r.supplier gln) keys))) gln
        ≡ cond v (Some (row_in t.prefixes k)) (supplier_row (map (row_in t.prefixes) keys) gln)) [
          | true ↦ λ e.
              ap (λ v. cond v (Some (row_in seen k)) (supplier_row (map (row_in seen) (filter (λ r. same r.supplier gln) keys)) gln)) e
              ∙ ap Some (alike k e)
          | false ↦ λ e. by_keys keys
        ] refl

-- a supplier's prefix is in its row
module _ (t : Tables) where
  pub prefix_there : (k : KeyRow) (r : PrefixRow)
      → Has t.prefixes r
      → same r.supplier k.supplier ≡ true
      → Has (row_in t.prefixes k).prefixes r.prefix
  prefix_there k r there e =
      has_map (λ (found : PrefixRow). found.prefix) (filter (λ found. same found.supplier k.supplier) t.prefixes) r
      (has_filter (λ found. same found.supplier k.supplier) t.prefixes r there e)

  -- a supplier that is found has a key
  pub key_found : (gln : List ℕ) (s : SupplierRow) → row_at gln t ≡ Some s → has_key t.keys gln ≡ true
  key_found gln s known = sym (by_keys t.keys) ∙ any_if_found (λ supplier. same supplier.gln gln) (suppliers_of t) s known
    where
      by_keys : (keys : List KeyRow)
          → list_any (λ supplier. same supplier.gln gln) (map (row_in t.prefixes) keys) ≡ has_key keys gln
      by_keys [] = refl
      by_keys (k ∷ keys) = ap (λ v. same k.supplier gln || v) (by_keys keys)

-- a row that fails the test does not change what is found
pub find_past : {X : Type 0} (cmp : X → X → Ordering) (p : X → Bool) (xs : List X) (x : X)
    → p x ≡ false
    → find p (put cmp x xs) ≡ find p xs
find_past cmp p [] x e = ap (λ v. cond v (Some x) None) e
find_past cmp p (y ∷ ys) x e =
    elim (is_gt (cmp y x)) as (λ v. find p (cond v (x ∷ y ∷ ys) (y ∷ put cmp x ys)) ≡ find p (y ∷ ys)) [
      | true ↦ ap (λ v. cond v (Some x) (find p (y ∷ ys))) e
      | false ↦ ap (λ rest. cond (p y) (Some y) rest) (find_past cmp p ys x e)
    ]

is_less : (o : Ordering) → is_lt o ≡ true → o ≡ Less
is_less Less h = refl
is_less Equal h = cc
is_less Greater h = cc

overlaps_itself : (p : List ℕ) → overlap p p ≡ true
overlaps_itself p = ap (λ v. v || begins p p) ((Decides-begins p p).1 ([], sym (append-nil p)))

module _ (row : SupplierRow) (t : Tables) (new : has_key t.keys row.gln ≡ false) where
  not_its_key : (k : KeyRow) → Has t.keys k → same row.gln k.supplier ≡ false
  not_its_key k there = bytes_eq-sym row.gln k.supplier ∙ none_of (λ k. same k.supplier row.gln) t.keys new k there

  abbrev rows_after : List PrefixRow
  rows_after = puts prefix_cmp (prefix_rows row.gln row.prefixes) t.prefixes

  old_row : (k : KeyRow) → Has t.keys k → row_in rows_after k ≡ row_in t.prefixes k
  old_row k there =
      ap (λ found. record { gln = k.supplier; prefixes = map (λ r. r.prefix) found; key = k.key })
      (filter_puts_out prefix_cmp (λ found. same found.supplier k.supplier) (prefix_rows row.gln row.prefixes) t.prefixes
      (its_prefixes (λ gln. same gln k.supplier ≡ false) row.gln row.prefixes (not_its_key k there)))

  old_rows : map (row_in rows_after) t.keys ≡ map (row_in t.prefixes) t.keys
  old_rows = map_alike t.keys (all_if (λ k. row_in rows_after k ≡ row_in t.prefixes k) t.keys old_row)
    where
      map_alike : (keys : List KeyRow)
          → AllByRecursion (λ k. row_in rows_after k ≡ row_in t.prefixes k) keys
          → map (row_in rows_after) keys ≡ map (row_in t.prefixes) keys
      map_alike [] all = refl
      map_alike (k ∷ keys) all = λ i. all.0 i ∷ map_alike keys all.1 i

  -- afterwards there is one more supplier, which has the added prefixes and those that were there for it already
  suppliers_and : suppliers_of (with_row row t) ≡ put supplier_cmp (row_in rows_after (key_row row)) (suppliers_of t)
  suppliers_and =
      map_put key_cmp supplier_cmp (row_in rows_after) (λ x y. refl) t.keys (key_row row)
      ∙ ap (put supplier_cmp (row_in rows_after (key_row row))) old_rows

  -- a supplier that was found still is
  pub row_stays : (gln : List ℕ) (s : SupplierRow) → row_at gln t ≡ Some s → row_at gln (with_row row t) ≡ Some s
  row_stays gln s known =
      ap (λ suppliers. supplier_row suppliers gln) suppliers_and
      ∙ find_past supplier_cmp (λ supplier. same supplier.gln gln) (suppliers_of t) (row_in rows_after (key_row row)) another
      ∙ known
    where
      another : same row.gln gln ≡ false
      another = elim (decide (same row.gln gln)) [
        | inl e ↦
            let there : has_key t.keys row.gln ≡ true =
            ap (has_key t.keys) (same_is row.gln gln e) ∙ key_found t gln s known in
            absurd (cc)
        | inr e ↦ e
      ]

-- Keys and prefixes rise strictly, and each prefix's supplier has a key.
pub record Enrolled (t : Tables) : Type 0 where
  pub keys_rise : Rises key_cmp t.keys
  pub prefixes_rise : Rises prefix_cmp t.prefixes
  pub prefixes_had : AllByRecursion (λ row. has_key t.keys row.supplier ≡ true) t.prefixes

-- whether a text is lower than another, by their bytes
abbrev is_below : List ℕ → List ℕ → Bool
is_below text other = is_lt (bytes_cmp text other)

-- a new supplier, with rising prefixes that do not overlap those of the others
module _ (row : SupplierRow) (t : Tables) (here : Enrolled t) (new : has_key t.keys row.gln ≡ false)
    (rises : rising row.prefixes ≡ true) (apart : (s : SupplierRow) → Has (suppliers_of t) s → PrefixesApart row s) where
  rows_rise : Rises prefix_cmp (prefix_rows row.gln row.prefixes)
  rows_rise = by_text row.prefixes rises
    where
      below : (p : List ℕ) (ps : List (List ℕ))
          → list_all (λ y. is_lt (bytes_cmp p y)) ps ≡ true
          → AllByRecursion (λ (r : PrefixRow). bytes_cmp p r.prefix ≡ Less) (prefix_rows row.gln ps)
      below p [] h = tt
      below p (q ∷ qs) h =
          let parts = and_parts (is_lt (bytes_cmp p q)) (list_all (λ y. is_lt (bytes_cmp p y)) qs) h in
          (is_less (bytes_cmp p q) parts.0, below p qs parts.1)

      by_text : (ps : List (List ℕ)) → rising ps ≡ true → Rises prefix_cmp (prefix_rows row.gln ps)
      by_text [] h = tt
      by_text (p ∷ ps) h =
          let parts = and_parts (list_all (λ y. is_lt (bytes_cmp p y)) ps) (rising ps) h in
          (below p ps parts.0, by_text ps parts.1)

  none_left : filter (λ r. same r.supplier row.gln) t.prefixes ≡ []
  none_left = filter_none (λ r. same r.supplier row.gln) t.prefixes
      (all_weaker (λ r. has_key t.keys r.supplier ≡ true) (λ r. same r.supplier row.gln ≡ false) (λ r had.
      elim (decide (same r.supplier row.gln)) [
        | inl e ↦
            let there : has_key t.keys r.supplier ≡ has_key t.keys row.gln =
            ap (has_key t.keys) (same_is r.supplier row.gln e) in
            absurd (cc)
        | inr e ↦ e
      ]) t.prefixes here.prefixes_had)

  new_row : row_in (rows_after row t new) (key_row row) ≡ row
  new_row =
      ap (λ prefixes. record { gln = row.gln; prefixes = prefixes; key = row.key })
      (ap (map (λ (r : PrefixRow). r.prefix))
      (filter_puts_in prefix_total (λ r. same r.supplier row.gln) (prefix_rows row.gln row.prefixes) t.prefixes
      (in_order_rising prefix_cmp t.prefixes here.prefixes_rise)
      (its_prefixes (λ gln. same gln row.gln ≡ true) row.gln row.prefixes (same_if row.gln row.gln refl))
      ∙ ap (puts prefix_cmp (prefix_rows row.gln row.prefixes)) none_left
      ∙ puts_rising prefix_cmp (prefix_rows row.gln row.prefixes) []
      (its_prefixes (λ gln. ⊤) row.gln row.prefixes tt) rows_rise)
      ∙ back row.prefixes)
    where
      back : (ps : List (List ℕ)) → map (λ (r : PrefixRow). r.prefix) (prefix_rows row.gln ps) ≡ ps
      back [] = refl
      back (p ∷ ps) = ap (λ rest. p ∷ rest) (back ps)

  -- adds exactly one supplier
  pub suppliers_after : suppliers_of (with_row row t) ≡ put supplier_cmp row (suppliers_of t)
  suppliers_after = suppliers_and row t new ∙ ap (λ r. put supplier_cmp r (suppliers_of t)) new_row

  not_there : (p : List ℕ) → Has row.prefixes p → list_any (λ (r : PrefixRow). is_eq (bytes_cmp r.prefix p)) t.prefixes ≡ false
  not_there p mine = none_if (λ (r : PrefixRow). is_eq (bytes_cmp r.prefix p)) t.prefixes (λ r there.
      elim (decide (is_eq (bytes_cmp r.prefix p))) [
        | inl e ↦
            let one : r.prefix ≡ p = same_is r.prefix p (sym (is_eq-slice_cmp r.prefix p) ∙ e) in
            let had = all_of (λ row. has_key t.keys row.supplier ≡ true) t.prefixes here.prefixes_had r there in
            let k = one_of (λ k. same k.supplier r.supplier) t.keys had in
            let other = has_map (row_in t.prefixes) t.keys k.0 k.1 in
            let free = apart (row_in t.prefixes k.0) other p r.prefix mine
            (prefix_there t k.0 r there (bytes_eq-sym r.supplier k.0.supplier ∙ k.2)) in
            let both : true ≡ false = sym (overlaps_itself p) ∙ ap (overlap p) (sym one) ∙ free in
            absurd (cc)
        | inr e ↦ e
      ])

  pub enrolled_after : Enrolled (with_row row t)
  enrolled_after = record {
    keys_rise = rises_put key_total (key_row row) t.keys here.keys_rise (none_if (λ k. is_eq (key_cmp k (key_row row))) t.keys
        (λ k there. is_eq-slice_cmp k.supplier row.gln ∙ none_of (λ k. same k.supplier row.gln) t.keys new k there));
    prefixes_rise = rises_puts prefix_total (prefix_rows row.gln row.prefixes) t.prefixes rows_rise here.prefixes_rise
        (each row.prefixes (λ p mine. not_there p mine));
    prefixes_had = all_puts prefix_cmp (λ r. has_key (put key_cmp (key_row row) t.keys) r.supplier ≡ true)
        (prefix_rows row.gln row.prefixes) t.prefixes
        (its_prefixes (λ gln. has_key (put key_cmp (key_row row) t.keys) gln ≡ true) row.gln row.prefixes
        (any_put key_cmp (λ k. same k.supplier row.gln) t.keys (key_row row)
        ∙ or_right (has_key t.keys row.gln) (same row.gln row.gln || false)
        (ap (λ v. v || false) (same_if row.gln row.gln refl))))
        (all_weaker (λ r. has_key t.keys r.supplier ≡ true)
        (λ r. has_key (put key_cmp (key_row row) t.keys) r.supplier ≡ true)
        (λ r had. any_more key_cmp (λ k. same k.supplier r.supplier) t.keys (key_row row) had) t.prefixes here.prefixes_had);
  }
    where
      each : (ps : List (List ℕ))
          → ((p : List ℕ) → Has ps p → list_any (λ (r : PrefixRow). is_eq (bytes_cmp r.prefix p)) t.prefixes ≡ false)
          → AllByRecursion (λ (x : PrefixRow). list_any (λ (r : PrefixRow). is_eq (prefix_cmp r x)) t.prefixes ≡ false)
          (prefix_rows row.gln ps)
      each [] f = tt
      each (p ∷ ps) f = (f p (inl refl), each ps (λ q there. f q (inr there)))
