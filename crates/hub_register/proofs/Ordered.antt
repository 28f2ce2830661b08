-- Shows that what holds for rows still holds once they are sorted by GLN.
use Rattle.std.proofs.Common.{◌≡◌, ℕ, ◌+◌, ◌≤◌, Bool, true, List, [], ◌∷◌, length, map, Ordering, refl, ap, ◌∙◌, arith}
use Rattle.std.specs.List.{list_all, AllByRecursion}
use Rattle.std.specs.Cmp.Lexicographic.{slice_cmp}
use Rattle.std.specs.Ordering.{nat_cmp, match_ordering, ordering_reverse}
use Rattle.std.specs.declared.cmp.Ordering.TheVariants.{Less, Equal, Greater}
use Rattle.std.proofs.lemmas.Bool.{and_parts, and_from}
use Rattle.std.proofs.lemmas.Cmp.{nat_list_cmp_total}
use Rattle.hub_parties.specs.KeyOrder.{bytes_cmp, Rises}
use Rattle.hub_parties.specs.declared.row.SupplierRow.{SupplierRow}
use Rattle.hub_register.specs.InOrder.{put, put_all}

-- what holds for the rows wherever the new one is inserted
by_place : (Q : List SupplierRow → Type 0) (o : Ordering) (a b c : List SupplierRow) → Q a → Q b → Q c → Q (match_ordering o a b c)
by_place Q Less a b c x y z = x
by_place Q Equal a b c x y z = y
by_place Q Greater a b c x y z = z

length-put : (row : SupplierRow) (rows : List SupplierRow) → length (put row rows) ≤ length rows + 1
length-put row [] = omega arith
length-put row (r ∷ rs) =
    by_place (λ rows. length rows ≤ length (r ∷ rs) + 1) (slice_cmp nat_cmp row.gln r.gln) (row ∷ r ∷ rs) (row ∷ rs)
    (r ∷ put row rs) (omega arith) (omega arith) (omega (arith, length-put row rs))

pub length-put_all : (rows done : List SupplierRow) → length (put_all rows done) ≤ length rows + length done
length-put_all [] done = omega arith
length-put_all (row ∷ rows) done = omega (arith, length-put_all rows (put row done), length-put row done)

module _ {A : Type 0} (f : SupplierRow → A) (p : A → Bool) where
  all-put : (row : SupplierRow) (rows : List SupplierRow)
      → p (f row) ≡ true
      → list_all p (map f rows) ≡ true
      → list_all p (map f (put row rows)) ≡ true
  all-put row [] here there = and_from _ _ here refl
  all-put row (r ∷ rs) here there =
      let parts = and_parts (p (f r)) (list_all p (map f rs)) there in
      by_place (λ rows. list_all p (map f rows) ≡ true) (slice_cmp nat_cmp row.gln r.gln) (row ∷ r ∷ rs) (row ∷ rs) (r ∷ put row rs)
      (and_from _ _ here there) (and_from _ _ here parts.1) (and_from _ _ parts.0 (all-put row rs here parts.1))

  -- a test that all rows pass
  pub all-put_all : (rows done : List SupplierRow)
      → list_all p (map f rows) ≡ true
      → list_all p (map f done) ≡ true
      → list_all p (map f (put_all rows done)) ≡ true
  all-put_all [] done waiting put = put
  all-put_all (row ∷ rows) done waiting put =
      let parts = and_parts (p (f row)) (list_all p (map f rows)) waiting in
      all-put_all rows _ parts.1 (all-put row done parts.0 put)

-- a fact of each row
module _ (P : SupplierRow → Type 0) where
  pub every-put : (row : SupplierRow) (rows : List SupplierRow) → P row → AllByRecursion P rows → AllByRecursion P (put row rows)
  every-put row [] here there = (here, tt)
  every-put row (r ∷ rs) here there =
      by_place (AllByRecursion P) (slice_cmp nat_cmp row.gln r.gln) (row ∷ r ∷ rs) (row ∷ rs) (r ∷ put row rs) (here, there)
      (here, there.1) (there.0, every-put row rs here there.1)

  pub every-put_all : (rows done : List SupplierRow) → AllByRecursion P rows → AllByRecursion P done → AllByRecursion P (put_all rows done)
  every-put_all [] done waiting put = put
  every-put_all (row ∷ rows) done waiting put = every-put_all rows _ waiting.1 (every-put row done waiting.0 put)

-- rows with rising GLNs
abbrev gln_cmp : SupplierRow → SupplierRow → Ordering
gln_cmp r s = bytes_cmp r.gln s.gln

weaker : (P Q : SupplierRow → Type 0) → ((r : SupplierRow) → P r → Q r) →
    (rows : List SupplierRow) → AllByRecursion P rows → AllByRecursion Q rows
weaker P Q so [] h = tt
weaker P Q so (r ∷ rs) h = (so r h.0, weaker P Q so rs h.1)

rises-case : (o : Ordering) (row r : SupplierRow) (rs : List SupplierRow)
    → gln_cmp row r ≡ o
    → Rises gln_cmp (r ∷ rs)
    → Rises gln_cmp (put row rs)
    → Rises gln_cmp (match_ordering o (row ∷ r ∷ rs) (row ∷ rs) (r ∷ put row rs))
rises-case Less row r rs e h ih = (
  (
    e,
    weaker (λ s. gln_cmp r s ≡ Less) (λ s. gln_cmp row s ≡ Less)
        (λ s after. nat_list_cmp_total.trans row.gln r.gln s.gln e after) rs h.0,
  ),
  h,
)
rises-case Equal row r rs e h ih = (
  weaker (λ s. gln_cmp r s ≡ Less) (λ s. gln_cmp row s ≡ Less) (λ s after. nat_list_cmp_total.congr row.gln r.gln s.gln e ∙ after) rs h.0,
  h.1,
)
rises-case Greater row r rs e h ih = (
  every-put (λ s. gln_cmp r s ≡ Less) row rs (nat_list_cmp_total.antisymm r.gln row.gln ∙ ap ordering_reverse e) h.0,
  ih,
)

rises-put : (row : SupplierRow) (rows : List SupplierRow) → Rises gln_cmp rows → Rises gln_cmp (put row rows)
rises-put row [] h = (tt, tt)
rises-put row (r ∷ rs) h = rises-case (gln_cmp row r) row r rs refl h (rises-put row rs h.1)

rises-put_all : (rows done : List SupplierRow) → Rises gln_cmp done → Rises gln_cmp (put_all rows done)
rises-put_all [] done h = h
rises-put_all (row ∷ rows) done h = rises-put_all rows (put row done) (rises-put row done h)

below_all : (gln : List ℕ) (rows : List SupplierRow)
    → AllByRecursion (λ s. bytes_cmp gln s.gln ≡ Less) rows
    → AllByRecursion (λ other. bytes_cmp gln other ≡ Less) (map (λ row. row.gln) rows)
below_all gln [] h = tt
below_all gln (r ∷ rs) h = (h.0, below_all gln rs h.1)

glns_rise : (rows : List SupplierRow) → Rises gln_cmp rows → Rises bytes_cmp (map (λ row. row.gln) rows)
glns_rise [] h = tt
glns_rise (r ∷ rs) h = (below_all r.gln rs h.0, glns_rise rs h.1)

pub rise_in_order : (rows : List SupplierRow) → Rises bytes_cmp (map (λ row. row.gln) (put_all rows []))
rise_in_order rows = glns_rise (put_all rows []) (rises-put_all rows [] tt)

-- a relation of every two rows
module _ (R : SupplierRow → SupplierRow → Type 0) where
  abbrev pub Pairwise : List SupplierRow → Type 0
  Pairwise [] = Unit {0}
  Pairwise (row ∷ rows) = AllByRecursion (R row) rows × Pairwise rows

module _ (R : SupplierRow → SupplierRow → Type 0) (turned : (r s : SupplierRow) → R r s → R s r) where
  apart-put : (row : SupplierRow) (rows : List SupplierRow) → AllByRecursion (R row) rows → Pairwise R rows → Pairwise R (put row rows)
  apart-put row [] here there = (tt, tt)
  apart-put row (r ∷ rs) here there =
      by_place (Pairwise R) (slice_cmp nat_cmp row.gln r.gln) (row ∷ r ∷ rs) (row ∷ rs) (r ∷ put row rs)
      (here, there) (here.1, there.1) (every-put (R r) row rs (turned row r here.0) there.0, apart-put row rs here.1 there.1)

  next : (row : SupplierRow) (rows done : List SupplierRow)
      → AllByRecursion (R row) rows
      → AllByRecursion (λ r. AllByRecursion (R r) done) rows
      → AllByRecursion (λ r. AllByRecursion (R r) (put row done)) rows
  next row [] done here there = tt
  next row (r ∷ rs) done here there = (every-put (R r) row done (turned row r here.0) there.0, next row rs done here.1 there.1)

  apart-put_all : (rows done : List SupplierRow)
      → Pairwise R rows
      → Pairwise R done
      → AllByRecursion (λ r. AllByRecursion (R r) done) rows
      → Pairwise R (put_all rows done)
  apart-put_all [] done waiting put between = put
  apart-put_all (row ∷ rows) done waiting put between =
      apart-put_all rows _ waiting.1 (apart-put row done between.0 put) (next row rows done waiting.0 between.1)

  from_none : (rows : List SupplierRow) → AllByRecursion (λ r. AllByRecursion (R r) []) rows
  from_none [] = tt
  from_none (row ∷ rows) = (tt, from_none rows)

  pub apart_in_order : (rows : List SupplierRow) → Pairwise R rows → Pairwise R (put_all rows [])
  apart_in_order rows apart = apart-put_all rows [] apart tt (from_none rows)
