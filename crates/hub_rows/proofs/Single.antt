-- Shows that at most one row has a key.
use Rattle.std.proofs.Common.{◌≡◌, ℕ, Bool, true, false, cond, ◌&&◌, inl, inr, ◌==◌, option_map, map, Some, List, []}
use Rattle.std.proofs.Common.{◌∷◌, filter, find, slice_get, refl, sym, ap, ap₂, subst, ◌∙◌, arith, true≢false}
use Rattle.std.specs.List.{AllByRecursion, list_all}
use Rattle.std.specs.List.Sorted.{IsPermutation}
use Rattle.std.specs.declared.cmp.Ordering.{Ordering}
use Rattle.std.specs.declared.cmp.Ordering.TheVariants.{Less, Equal, Greater}
use Rattle.std.specs.Ordering.{is_eq, nat_cmp, ordering_then}
use Rattle.std.proofs.Math.Bool.{and_comm}
use Rattle.std.proofs.lemmas.Bool.{cases_Bool}
use Rattle.std.proofs.lemmas.Bool.Decides.{nat_tests}
use Rattle.std.proofs.lemmas.Map.Text.{is_eq-slice_cmp}
use Rattle.hub_parties.specs.KeyOrder.{bytes_cmp, Rises}
use Rattle.hub_tables.specs.Rows.{same}
use Rattle.std.proofs.lemmas.List.Sorted.{length_permutation}
use Rattle.sqlite.proofs.Callers.{one_permutation}
use Rattle.hub_tables.proofs.Lists.{all_passes, all_weaker, same_is, same_if}
use Rattle.hub_rows.proofs.Listing.{filter_both, all_clean, clean_all}
use Rattle.hub_rows.proofs.Sorting.{rises_filter}

filter_alike : {X : Type 0} (p q : X → Bool) → ((x : X) → p x ≡ q x) → (xs : List X) → filter p xs ≡ filter q xs
filter_alike p q h [] = refl
filter_alike p q h (x ∷ xs) = ap₂ (λ v ys. cond v (x ∷ ys) ys) (h x) (filter_alike p q h xs)

pub filter_turned : {X : Type 0} (p q : X → Bool) (xs : List X) → filter (λ x. p x && q x) xs ≡ filter p (filter q xs)
filter_turned p q xs = filter_alike (λ x. p x && q x) (λ x. q x && p x) (λ x. and_comm (p x) (q x)) xs ∙ sym (filter_both q p xs)

pub first_passes : {X : Type 0} (p : X → Bool) (xs : List X) → slice_get (filter p xs) 0 ≡ find p xs
first_passes p [] = refl
first_passes p (x ∷ xs) = elim (p x) as (λ v. slice_get (cond v (x ∷ filter p xs) (filter p xs)) 0 ≡ cond v (Some x)
    (find p xs)) [ true ↦ refl | false ↦ first_passes p xs ]

empty_moved : {X : Type 0} (ys : List X) → IsPermutation [] ys → ys ≡ []
empty_moved [] p = refl
empty_moved (y ∷ ys) p = absurd (let none = length_permutation [] (y ∷ ys) p in cc)

-- rising rows that all have one key, in any order
one_at_most : {X : Type 0} (cmp : X → X → Ordering) (xs ys : List X) → Rises cmp xs
    → ((x y : X) → is_eq (cmp x y) ≡ true → cmp x y ≡ Less → ⊥) → AllByRecursion (λ x. AllByRecursion (λ y. is_eq (cmp x y) ≡ true) xs) xs
    → IsPermutation xs ys → ys ≡ xs
one_at_most cmp [] ys rises never tied p = empty_moved ys p
one_at_most cmp (x ∷ []) ys rises never tied p = one_permutation x ys p
one_at_most cmp (x ∷ y ∷ xs) ys rises never tied p = absurd (never x y tied.0.1.0 rises.0.0)

never_less : {X : Type 0} (cmp : X → X → Ordering) (x y : X) → is_eq (cmp x y) ≡ true → cmp x y ≡ Less → ⊥
never_less cmp x y h less = let no : false ≡ true = sym (ap is_eq less) ∙ h in cc

all_tied : {X : Type 0} (P : X → Type 0) (R : X → X → Type 0) → ((x y : X) → P x → P y → R x y) → (xs ys : List X) → AllByRecursion P xs
    → AllByRecursion P ys → AllByRecursion (λ x. AllByRecursion (R x) ys) xs
all_tied P R f [] ys a b = tt
all_tied P R f (x ∷ xs) ys a b = (each x ys a.0 b, all_tied P R f xs ys a.1 b)
  where
    each : (x : _) (ys : List _) → P x → AllByRecursion P ys → AllByRecursion (R x) ys
    each x [] p b = tt
    each x (y ∷ ys) p b = (f x y p b.0, each x ys p b.1)

-- the first row of an answer is the one with the key
pub found_first : {X : Type 0} (cmp : X → X → Ordering) (whose at : X → Bool) (all rows : List X) → Rises cmp all
    → ((x y : X) → (whose x && at x) ≡ true → (whose y && at y) ≡ true → is_eq (cmp x y) ≡ true)
    → IsPermutation (filter at (filter whose all)) rows → slice_get rows 0 ≡ find at (filter whose all)
found_first cmp whose at all rows rises alike moved =
    let xs = filter (λ x. whose x && at x) all in
    let same = filter_both whose at all in
    let passed = all_passes (λ x. whose x && at x) all in
    let one = one_at_most cmp xs rows (rises_filter cmp (λ x. whose x && at x) all rises) (never_less cmp)
    (all_tied (λ x. (whose x && at x) ≡ true) (λ x y. is_eq (cmp x y) ≡ true) alike xs xs passed passed)
    (subst (λ ys. IsPermutation ys rows) same moved) in
    ap (λ ys. slice_get ys 0) (one ∙ sym same) ∙ first_passes at (filter whose all)

-- Keys that compare as equal.

pub both_tied : (o p : Ordering) → is_eq o ≡ true → is_eq p ≡ true → is_eq (ordering_then o p) ≡ true
both_tied Less p h g = cc
both_tied Equal p h g = g
both_tied Greater p h g = cc

pub bytes_tied : (a b key : List ℕ) → same a key ≡ true → same b key ≡ true → is_eq (bytes_cmp a b) ≡ true
bytes_tied a b key h g = is_eq-slice_cmp a b ∙ same_if a b (same_is a key h ∙ sym (same_is b key g))

pub numbers_tied : (a b key : ℕ) → (a == key) ≡ true → (b == key) ≡ true → is_eq (nat_cmp a b) ≡ true
numbers_tied a b key h g = grind (arith, nat_tests)

pub shown_first : {X Y : Type 0} (f : X → Y) (xs : List X) → slice_get (map f xs) 0 ≡ option_map f (slice_get xs 0)
shown_first f [] = refl
shown_first f (x ∷ xs) = refl

pub all_through : {X Y : Type 0} (p : Y → Bool) (f : X → Y) (xs : List X) → list_all p (map f xs) ≡ list_all (λ x. p (f x)) xs
all_through p f [] = refl
all_through p f (x ∷ xs) = ap (λ v. p (f x) && v) (all_through p f xs)

-- a row that fails one test fails one that asks more
pub spoils_more : {X : Type 0} (p q : X → Bool) → ((x : X) → q x ≡ true → p x ≡ true) → (xs : List X) → list_all p xs ≡ false
    → list_all q xs ≡ false
spoils_more p q more xs h = elim (cases_Bool (list_all q xs)) [
  | inl e ↦ absurd (true≢false (sym (clean_all p xs (all_weaker (λ x. q x ≡ true) (λ x. p x ≡ true) more xs (all_clean q xs e))) ∙ h))
  | inr e ↦ e
]
