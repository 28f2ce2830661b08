-- Shows that the rows at a place come one after another.
use Rattle.std.proofs.Common.{◌≡◌, ℕ, zero, suc, ◌+◌, ◌-◌, ◌≤◌, ◌<◌, Bool, true, false, cond, List, [], ◌∷◌, length}
use Rattle.std.proofs.Common.{take, drop, get_or, filter, refl, sym, ap, ◌∙◌, arith}
use Rattle.std.specs.List.{AllByRecursion, prefix_len}
use Rattle.std.specs.List.Sorted.{IsPartitionedBy, IsPartitionPoint}
use Rattle.std.specs.declared.cmp.Ordering.{Ordering}
use Rattle.std.specs.declared.cmp.Ordering.TheVariants.{Less, Equal, Greater}
use Rattle.std.specs.Ordering.{is_lt, is_le, is_eq, is_gt}
use Rattle.std.proofs.lemmas.List.Elements.{All-from_recursion, All-get_or}
use Rattle.std.proofs.lemmas.List.Sums.{prefix_len_is}
use Rattle.std.proofs.lemmas.List.{take_all, length-drop}
use Rattle.hub_parties.specs.KeyOrder.{Rises}
use Rattle.hub_tables.proofs.Lists.{all_weaker, filter_none}
use Rattle.trial_rows.specs.Search.{may_precede, KeepsPlaces, Parted}

pub all_taken : {X : Type 0} (P : X → Type 0) (n : ℕ) (xs : List X) → AllByRecursion P xs → AllByRecursion P (take n xs)
all_taken P zero xs all = tt
all_taken P (suc n) [] all = tt
all_taken P (suc n) (x ∷ xs) all = (all.0, all_taken P n xs all.1)

-- a partition point is the number of elements that pass
pub from_point : {X : Type 0} (p : X → Bool) (xs : List X) (n : ℕ) → n ≤ length xs →
    IsPartitionPoint (λ x. p x ≡ true) (λ x. p x ≡ false) xs n → n ≡ prefix_len p xs
from_point p [] n bound point = omega arith
from_point p (x ∷ xs) n bound point =
    sym (prefix_len_is p (x ∷ xs) n x bound (λ k l. point.0 k x (omega arith) l) (λ l. point.1 n x
    (omega arith) l))

down_lt : (a b : Ordering) → may_precede a b ≡ true → is_lt b ≡ true → is_lt a ≡ true
down_lt Less b h l = refl
down_lt Equal Less h l = cc
down_lt Equal Equal h l = cc
down_lt Equal Greater h l = cc
down_lt Greater Less h l = cc
down_lt Greater Equal h l = cc
down_lt Greater Greater h l = cc

down_le : (a b : Ordering) → may_precede a b ≡ true → is_le b ≡ true → is_le a ≡ true
down_le Less b h l = refl
down_le Equal b h l = refl
down_le Greater Less h l = cc
down_le Greater Equal h l = cc
down_le Greater Greater h l = l

module _ {X : Type 0} (place : X → Ordering) where
  pub parted : (cmp : X → X → Ordering) → KeepsPlaces cmp place → (xs : List X) → Rises cmp xs → Parted place xs
  parted cmp keeps [] rises = tt
  parted cmp keeps (x ∷ xs) rises = (
    all_weaker (λ y. cmp x y ≡ Less) (λ y. may_precede (place x) (place y) ≡ true) (λ y less. keeps x y
        (ap is_gt less)) xs rises.0,
    parted cmp keeps xs rises.1,
  )

  partitioned : (p : Ordering → Bool) → ((a b : Ordering) → may_precede a b ≡ true → p b ≡ true → p a ≡ true) →
      (xs : List X) →
      Parted place xs → IsPartitionedBy (λ x. p (place x)) xs
  partitioned p down [] h i j d le lt passes = absurd (omega arith)
  partitioned p down (x ∷ xs) h zero zero d le lt passes = passes
  partitioned p down (x ∷ xs) h zero (suc j) d le lt passes =
      down (place x) (place (get_or xs j d))
      (All-get_or (λ y. may_precede (place x) (place y) ≡ true) xs j d (omega arith)
      (All-from_recursion (λ y. may_precede (place x) (place y) ≡ true) xs h.0)) passes
  partitioned p down (x ∷ xs) h (suc i) zero d le lt passes = absurd (omega arith)
  partitioned p down (x ∷ xs) h (suc i) (suc j) d le lt passes =
      partitioned p down xs h.1 i j d (omega arith) (omega arith) passes

  pub below_first : (xs : List X) → Parted place xs → IsPartitionedBy (λ x. is_lt (place x)) xs
  below_first = partitioned is_lt down_lt

  pub within_first : (xs : List X) → Parted place xs → IsPartitionedBy (λ x. is_le (place x)) xs
  within_first = partitioned is_le down_le

  abbrev pub below : List X → ℕ
  below xs = prefix_len (λ x. is_lt (place x)) xs

  abbrev pub within : List X → ℕ
  within xs = prefix_len (λ x. is_le (place x)) xs

  none_below : (xs : List X) → AllByRecursion (λ y. may_precede Equal (place y) ≡ true) xs → below xs ≡ 0
  none_below [] all = refl
  none_below (x ∷ xs) all = elim (place x) as (λ o. may_precede Equal o ≡ true →
      cond (is_lt o) (1 + below xs) 0 ≡ 0) [ Less ↦ λ h. cc | Equal ↦ λ h. refl | Greater ↦ λ h. refl ] all.0

  not_at : (o : Ordering) → may_precede Greater o ≡ true → is_eq o ≡ false
  not_at Less h = cc
  not_at Equal h = cc
  not_at Greater h = refl

  pub at_place : (xs : List X) → Parted place xs → filter (λ x. is_eq (place x)) xs ≡ take
      (within (drop (below xs) xs)) (drop
      (below xs) xs)
  at_place [] h = refl
  at_place (x ∷ xs) h =
      let rest = at_place xs h.1 in
      let more : 1 + below xs ≡ suc (below xs) = omega arith in
      elim (place x) as (λ o. place x ≡ o → AllByRecursion (λ y. may_precede o (place y) ≡ true) xs →
      cond (is_eq o) (x ∷ filter (λ x. is_eq (place x)) xs) (filter (λ x. is_eq (place x)) xs)
      ≡ take (within (drop (cond (is_lt o) (1 + below xs) 0) (x ∷ xs)))
      (drop (cond (is_lt o) (1 + below xs) 0) (x ∷ xs))) [
        | Less ↦ λ e all. rest ∙ sym (ap (λ n. take (within (drop n (x ∷ xs))) (drop n (x ∷ xs))) more)
        | Equal ↦ λ e all.
            let none = none_below xs all in
            let one : 1 + within xs ≡ suc (within xs) = omega arith in
            ap (λ ys. x ∷ ys) (rest ∙ ap (λ n. take (within (drop n xs)) (drop n xs)) none)
            ∙ sym (ap (λ n. take n (x ∷ xs)) (ap (λ o. cond (is_le o) (1 + within xs) 0) e ∙ one))
        | Greater ↦ λ e all.
            filter_none (λ x. is_eq (place x)) xs
            (all_weaker (λ y. may_precede Greater (place y) ≡ true) (λ y. is_eq (place y) ≡ false)
            (λ y g. not_at (place y) g) xs all)
            ∙ sym (ap (λ n. take n (x ∷ xs)) (ap (λ o. cond (is_le o) (1 + within xs) 0) e))
      ] refl h.0

-- Prefixes and rests.

pub rises_drop : {X : Type 0} (cmp : X → X → Ordering) (n : ℕ) (xs : List X) → Rises cmp xs → Rises cmp (drop n xs)
rises_drop cmp zero xs rises = rises
rises_drop cmp (suc n) [] rises = tt
rises_drop cmp (suc n) (x ∷ xs) rises = rises_drop cmp n xs rises.1

pub rises_take : {X : Type 0} (cmp : X → X → Ordering) (n : ℕ) (xs : List X) → Rises cmp xs → Rises cmp (take n xs)
rises_take cmp zero xs rises = tt
rises_take cmp (suc n) [] rises = tt
rises_take cmp (suc n) (x ∷ xs) rises = (all_taken (λ y. cmp x y ≡ Less) n xs rises.0, rises_take cmp n xs rises.1)

-- if what passes ends within a prefix, it ends there in the whole list too
pub front_within : {X : Type 0} (p : X → Bool) (n : ℕ) (xs : List X) → prefix_len p (take n xs) < n →
    prefix_len p (take n xs) ≡ prefix_len p xs
front_within p zero xs h = absurd (omega (arith, h))
front_within p (suc n) [] h = refl
front_within p (suc n) (x ∷ xs) h = elim (p x) as (λ v. cond v (1 + prefix_len p (take n xs)) 0 < suc n →
    cond v (1 + prefix_len p (take n xs)) 0 ≡ cond v (1 + prefix_len p xs) 0) [
      | true ↦ λ h. ap (λ n. 1 + n) (front_within p n xs (omega (arith, h)))
      | false ↦ λ h. refl
    ] h

pub rest_is : {X : Type 0} (n : ℕ) (xs : List X) → take (length xs - n) (drop n xs) ≡ drop n xs
rest_is n xs = take_all (length xs - n) (drop n xs) (omega (arith, length-drop n xs))
