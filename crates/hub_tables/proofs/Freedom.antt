-- Handles suppliers whose prefixes do not overlap, one after another.
use Rattle.std.proofs.Common.{◌≡◌, ℕ, zero, suc, Bool, true, false, ◌||◌, cond, List, [], ◌∷◌, All, refl, arith}
use Rattle.std.specs.List.{AllByRecursion}
use Rattle.std.specs.Ordering.{is_gt}
use Rattle.std.specs.declared.cmp.Ordering.{Ordering}
use Rattle.std.specs.Bool.{⊤}
use Rattle.std.proofs.lemmas.List.Elements.{All-from_recursion, recursion_from_All}
use Rattle.gs1_ids.specs.Overlap.{AreApart, PrefixFree}
use Rattle.gs1_ids.specs.Prefix.{begins, overlap}
use Rattle.hub_parties.specs.KeyOrder.{put}
use Rattle.hub_parties.specs.Rows.{company_prefixes}
use Rattle.hub_parties.specs.declared.row.SupplierRow.{SupplierRow}
use Rattle.hub_tables.specs.Sets.{Has}
use Rattle.hub_tables.proofs.KeyOrder.{all_put}
use Rattle.hub_tables.proofs.Members.{all_of, all_if}

-- no prefix of the one overlaps one of the other
abbrev pub PrefixesApart : SupplierRow → SupplierRow → Type 0
PrefixesApart one other = (p q : List ℕ) → Has one.prefixes p → Has other.prefixes q → overlap p q ≡ false

abbrev pub SuppliersApart : List SupplierRow → Type 0
SuppliersApart [] = ⊤
SuppliersApart (one ∷ others) = AllByRecursion (PrefixesApart one) others × SuppliersApart others

or_back : (a b : Bool) → (a || b) ≡ false → (b || a) ≡ false
or_back true b h = cc
or_back false true h = cc
or_back false false h = refl

overlap_back : (p q : List ℕ) → overlap p q ≡ false → overlap q p ≡ false
overlap_back p q h = or_back (begins p q) (begins q p) h

pub apart_back : (one other : SupplierRow) → PrefixesApart one other → PrefixesApart other one
apart_back one other f p q here there = overlap_back q p (f q p there here)

apart_from : (one other : SupplierRow) → AreApart one.prefixes other.prefixes → PrefixesApart one other
apart_from one other h p q here there =
    all_of (λ q. overlap p q ≡ false) other.prefixes (recursion_from_All (λ q. overlap p q ≡ false) other.prefixes
    (all_of (λ p. All (λ q. overlap p q ≡ false) other.prefixes) one.prefixes
    (recursion_from_All (λ p. All (λ q. overlap p q ≡ false) other.prefixes) one.prefixes h) p here)) q there

apart_to : (one other : SupplierRow) → PrefixesApart one other → AreApart one.prefixes other.prefixes
apart_to one other f =
    All-from_recursion (λ p. All (λ q. overlap p q ≡ false) other.prefixes) one.prefixes
    (all_if (λ p. All (λ q. overlap p q ≡ false) other.prefixes) one.prefixes (λ p here.
    All-from_recursion (λ q. overlap p q ≡ false) other.prefixes
    (all_if (λ q. overlap p q ≡ false) other.prefixes (λ q there. f p q here there))))

-- the same, from positions
pub free_from : (suppliers : List SupplierRow) → PrefixFree (company_prefixes suppliers) → SuppliersApart suppliers
free_from [] h = tt
free_from (one ∷ others) h = (
  first others (λ j d within. h 0 (suc j) d (omega arith) (omega (arith, within))),
  free_from others (λ i j d before within. h (suc i) (suc j) d (omega (arith, before)) (omega (arith, within))),
)
  where
    first : (rest : List SupplierRow) → All (AreApart one.prefixes) (company_prefixes rest) → AllByRecursion (PrefixesApart one) rest
    first [] all = tt
    first (other ∷ rest) all = (
      apart_from one other (all 0 [] (omega arith)),
      first rest (λ j d within. all (suc j) d (omega (arith, within))),
    )

pub free_to : (suppliers : List SupplierRow) → SuppliersApart suppliers → PrefixFree (company_prefixes suppliers)
free_to [] free i j d before within = absurd (omega (arith, within))
free_to (one ∷ others) free zero zero d before within = absurd (omega (arith, before))
free_to (one ∷ others) free zero (suc j) d before within = first others free.0 j d (omega (arith, within))
  where
    first : (rest : List SupplierRow) → AllByRecursion (PrefixesApart one) rest → All (AreApart one.prefixes) (company_prefixes rest)
    first [] all j d within = absurd (omega (arith, within))
    first (other ∷ rest) all zero d within = apart_to one other all.0
    first (other ∷ rest) all (suc j) d within = first rest all.1 j d (omega (arith, within))
free_to (one ∷ others) free (suc i) zero d before within = absurd (omega (arith, before))
free_to (one ∷ others) free (suc i) (suc j) d before within = free_to others free.1 i j d (omega (arith, before)) (omega (arith, within))

-- adding one that overlaps none of the others
pub free_put : (cmp : SupplierRow → SupplierRow → Ordering) (suppliers : List SupplierRow) (row : SupplierRow)
    → AllByRecursion (PrefixesApart row) suppliers
    → SuppliersApart suppliers
    → SuppliersApart (put cmp row suppliers)
free_put cmp [] row apart free = (tt, tt)
free_put cmp (one ∷ others) row apart free =
    elim (is_gt (cmp one row)) as (λ v. SuppliersApart (cond v (row ∷ one ∷ others) (one ∷ put cmp row others))) [
      | true ↦ (apart, free)
      | false ↦ (all_put cmp (PrefixesApart one) others row free.0 (apart_back row one apart.0), free_put cmp others row apart.1 free.1)
    ]
