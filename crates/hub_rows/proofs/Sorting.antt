-- Shows that a sorted answer is the only sorted list of its rows.
use Rattle.std.proofs.Common.{◌≡◌, ℕ, zero, suc, ◌+◌, ◌<◌, ◌≤◌, Bool, true, false, cond, inl, inr, List, [], ◌∷◌, ◌++◌}
use Rattle.std.proofs.Common.{map, filter, length, get_or, append-nil, refl, sym, ap, subst, ◌∙◌, arith}
use Rattle.std.specs.List.{AllByRecursion, Contains, IsDistinct}
use Rattle.std.specs.List.Sorted.{IsPermutation, IsSorted}
use Rattle.std.specs.declared.cmp.Ordering.{Ordering}
use Rattle.std.specs.declared.cmp.Ordering.TheVariants.{Less, Equal, Greater}
use Rattle.std.specs.Ordering.{is_gt, is_lt, is_eq, ordering_reverse, on}
use Rattle.std.specs.Cmp.{IsTotalOrder}
use Rattle.std.proofs.lemmas.List.{get_or_default}
use Rattle.std.proofs.lemmas.List.Elements.{recursion_from_All, All-from_recursion}
use Rattle.std.proofs.lemmas.List.Sorted.{sorted_far, ranks_by, Contains-permutation, IsPermutation-refl}
use Rattle.std.proofs.lemmas.List.Sorted.{IsPermutation-sym, IsPermutation-trans, IsPermutation-cons}
use Rattle.std.proofs.lemmas.List.Sorted.{IsPermutation-middle, IsPermutation-append_right}
use Rattle.std.proofs.lemmas.Map.Keys.{IsDistinct-IsPermutation}
use Rattle.sql_rows.proofs.Answers.{at_map, length_map}
use Rattle.hub_parties.specs.KeyOrder.{put, Rises}
use Rattle.hub_tables.specs.Sets.{Has}
use Rattle.hub_tables.proofs.Lists.{all_filter}
use Rattle.hub_tables.proofs.Sets.{one_list}
use Rattle.hub_schema.specs.Rows.{in_key_order}
use Rattle.hub_schema.proofs.InKeyOrder.{put_all}

contains_has : {X : Type 0} (xs : List X) (x : X) (k : ℕ) → k < length xs → get_or xs k x ≡ x → Has xs x
contains_has [] x k h e = absurd (omega (arith, h))
contains_has (y ∷ ys) x zero h e = inl (sym e)
contains_has (y ∷ ys) x (suc k) h e = inr (contains_has ys x k (omega (arith, h)) e)

has_contains : {X : Type 0} (xs : List X) (x : X) → Has xs x → Contains xs x
has_contains [] x h = absurd h
has_contains (y ∷ ys) x h = elim h [
  | inl e ↦ (0, omega arith, sym e)
  | inr g ↦ let c = has_contains ys x g in
      (suc c.0, omega (arith, c.1), c.2)
]

pub permuted_has : {X : Type 0} (xs ys : List X) → IsPermutation xs ys → (x : X) → Has xs x → Has ys x
permuted_has xs ys p x h = let c = Contains-permutation xs ys x p (has_contains xs x h) in contains_has ys x c.0 c.1 c.2

-- Inserting moves rows.
module _ {X : Type 0} (cmp : X → X → Ordering) where
  put_moves : (x : X) (ys : List X) → IsPermutation (x ∷ ys) (put cmp x ys)
  put_moves x [] = IsPermutation-refl (x ∷ [])
  put_moves x (y ∷ ys) = elim (is_gt (cmp y x)) as (λ v. IsPermutation (x ∷ y ∷ ys) (cond v (x ∷ y ∷ ys) (y ∷ put cmp x ys))) [
    | true ↦ IsPermutation-refl (x ∷ y ∷ ys)
    | false ↦ IsPermutation-trans (x ∷ y ∷ ys) (y ∷ x ∷ ys) (y ∷ put cmp x ys)
        (IsPermutation-sym (y ∷ x ∷ ys) (x ∷ y ∷ ys) (IsPermutation-middle (y ∷ []) x ys))
        (IsPermutation-cons y (x ∷ ys) (put cmp x ys) (put_moves x ys))
  ]

  all_moved : (xs there : List X) → IsPermutation (xs ++ there) (put_all cmp xs there)
  all_moved [] there = IsPermutation-refl there
  all_moved (x ∷ xs) there =
      IsPermutation-trans (x ∷ (xs ++ there)) (xs ++ put cmp x there) (put_all cmp xs (put cmp x there))
      (IsPermutation-trans (x ∷ (xs ++ there)) (xs ++ x ∷ there) (xs ++ put cmp x there)
      (IsPermutation-sym (xs ++ x ∷ there) (x ∷ (xs ++ there)) (IsPermutation-middle xs x there))
      (IsPermutation-append_right xs (x ∷ there) (put cmp x there) (put_moves x there)))
      (all_moved xs (put cmp x there))

  pub listed_moved : (xs : List X) → IsPermutation xs (in_key_order cmp xs)
  listed_moved xs = subst (λ ys. IsPermutation ys (in_key_order cmp xs)) (append-nil xs) (all_moved xs [])

  pub rises_filter : (p : X → Bool) (xs : List X) → Rises cmp xs → Rises cmp (filter p xs)
  rises_filter p [] r = tt
  rises_filter p (x ∷ xs) r = elim (p x) as (λ v. Rises cmp (cond v (x ∷ filter p xs) (filter p xs)))
      [ true ↦ (all_filter (λ y. cmp x y ≡ Less) p xs r.0, rises_filter p xs r.1) | false ↦ rises_filter p xs r.1 ]

  below : (x : X) (ys : List X) → AllByRecursion (λ y. cmp x y ≡ Less) ys → AllByRecursion (λ y. is_eq (cmp x y) ≡ false) ys
  below x [] a = tt
  below x (y ∷ ys) a = (ap is_eq a.0, below x ys a.1)

  distinct : (xs : List X) → Rises cmp xs → IsDistinct (λ x y. is_eq (cmp x y)) xs
  unfolding IsDistinct
  distinct [] r = tt
  distinct (x ∷ xs) r = (below x xs r.0, distinct xs r.1)

module _ {X : Type 0} {cmp : X → X → Ordering} (total : IsTotalOrder cmp) where
  less_of : (x y : X) → is_lt (cmp y x) ≡ false → is_eq (cmp x y) ≡ false → cmp x y ≡ Less
  less_of x y h g = total.antisymm x y ∙ by_answer (cmp y x) h (sym (ap is_eq (total.antisymm x y)) ∙ g)
    where
      by_answer : (o : Ordering) → is_lt o ≡ false → is_eq (ordering_reverse o) ≡ false → ordering_reverse o ≡ Less
      by_answer Less h g = cc
      by_answer Equal h g = cc
      by_answer Greater h g = refl

  flips : (x y : X) → is_eq (cmp x y) ≡ is_eq (cmp y x)
  flips x y = ap is_eq (total.antisymm x y) ∙ by_answer (cmp y x)
    where
      by_answer : (o : Ordering) → is_eq (ordering_reverse o) ≡ is_eq o
      by_answer Less = refl
      by_answer Equal = refl
      by_answer Greater = refl

  all_less : (x : X) (ys : List X) → AllByRecursion (λ y. is_lt (cmp y x) ≡ false) ys → AllByRecursion (λ y. is_eq (cmp x y) ≡ false) ys
      → AllByRecursion (λ y. cmp x y ≡ Less) ys
  all_less x [] a b = tt
  all_less x (y ∷ ys) a b = (less_of x y a.0 b.0, all_less x ys a.1 b.1)

  rises_from : (xs : List X) → ((i j : ℕ) (d : X) → i ≤ j → j < length xs → is_lt (cmp (get_or xs j d) (get_or xs i d)) ≡ false)
      → IsDistinct (λ x y. is_eq (cmp x y)) xs → Rises cmp xs
  unfolding IsDistinct
  rises_from [] f a = tt
  rises_from (x ∷ xs) f a = (
    all_less x xs (recursion_from_All (λ y. is_lt (cmp y x) ≡ false) xs (λ k d h. f 0 (suc k) d (omega arith) (omega (arith, h)))) a.0,
    rises_from xs (λ i j d h g. f (suc i) (suc j) d (omega (arith, h)) (omega (arith, g))) a.1,
  )

  -- rising rows, in another order that is sorted
  pub sorted_rising : (xs ys : List X) → IsPermutation xs ys → Rises cmp xs → IsSorted cmp ys → ys ≡ xs
  sorted_rising xs ys p rises sorted =
      let apart = IsDistinct-IsPermutation (λ x y. is_eq (cmp x y)) flips xs ys p (distinct cmp xs rises) in
      let up = rises_from ys (λ i j d h g. sorted_far (λ x y. is_lt (cmp x y)) (ranks_by total (λ x. x)) ys sorted i j d h g) apart in
      one_list total ys xs up rises (λ x h. permuted_has ys xs (IsPermutation-sym xs ys p) x h) (λ x h. permuted_has xs ys p x h)

-- Sorting by the value of a row.
pub sorted_map : {X Y : Type 0} (f : X → Y) (cmp : Y → Y → Ordering) (xs : List X) → IsSorted (on f cmp) xs → IsSorted cmp (map f xs)
sorted_map f cmp [] sorted k d low high = absurd (omega (arith, high))
sorted_map f cmp (x ∷ xs) sorted k d low high =
    let long : k + 1 < length (x ∷ xs) = subst (λ n. k + 1 < n) (length_map f (x ∷ xs)) high in
    let less : k < length (map f (x ∷ xs)) = omega (arith, high) in
    rw (
      get_or_default (map f (x ∷ xs)) k d (f x) less,
      get_or_default (map f (x ∷ xs)) (k + 1) d (f x) high,
      at_map f (x ∷ xs) k x,
      at_map f (x ∷ xs) (k + 1) x,
      sorted k x low long,
    )

-- two orders that agree on rows with a property sort them alike
pub sorted_alike : {X : Type 0} (one other : X → X → Ordering) (P : X → Type 0) → ((x y : X) → P x → P y → one x y ≡ other x y)
    → (xs : List X) → AllByRecursion P xs → IsSorted one xs → IsSorted other xs
sorted_alike one other P alike xs all sorted k d low high =
    let every = All-from_recursion P xs all in
    let here = every k d (omega (arith, high)) in
    let next = every (k + 1) d high in
    ap is_lt (sym (alike (get_or xs (k + 1) d) (get_or xs k d) next here)) ∙ sorted k d low high
