-- Provides lemmas about filters of filters.
use Rattle.std.proofs.Common.{◌≡◌, ℕ, zero, suc, ◌+◌, ◌-◌, ◌<◌, ◌≤◌, ◌==◌, Bool, true, false, cond, ◌&&◌, ◌||◌, not, inl}
use Rattle.std.proofs.Common.{inr, List, [], ◌∷◌, length, filter, find, map, take, drop, get_or, slice_get, Option}
use Rattle.std.proofs.Common.{Some, None, refl, sym, ap, ap₂, ◌∙◌, arith}
use Rattle.std.specs.List.{AllByRecursion, list_any, last_or, filter_map, cons_option}
use Rattle.std.proofs.lemmas.Bool.Decides.{nat_tests}
use Rattle.std.proofs.lemmas.List.{drop_more}
use Rattle.std.proofs.Math.Bool.{and_comm}
use Rattle.hub_tables.specs.Rows.{same}
use Rattle.hub_tables.specs.Tables.{holds}
use Rattle.hub_tables.specs.declared.rows.ContentRow.{ContentRow}
use Rattle.hub_tables.specs.declared.rows.PalletRow.{PalletRow}
use Rattle.hub_tables.specs.declared.rows.ReceiptRow.{ReceiptRow}
use Rattle.hub_tables.proofs.Lists.{decide, same_is}

module _ {X : Type 0} (p q : X → Bool) where
  pub filter_both : (xs : List X) → filter (λ x. p x && q x) xs ≡ filter q (filter p xs)
  filter_both [] = refl
  filter_both (x ∷ xs) = elim (p x) as
      (λ v. cond (v && q x) (x ∷ filter (λ x. p x && q x) xs) (filter (λ x. p x && q x) xs) ≡ filter q
      (cond v (x ∷ filter p xs) (filter p xs))) [
        | true ↦ ap₂ (λ ys zs. cond (q x) (x ∷ ys) zs) (filter_both xs) (filter_both xs)
        | false ↦ filter_both xs
      ]

  pub first_of_both : (xs : List X) → slice_get (filter (λ x. p x && q x) xs) 0 ≡ find q (filter p xs)
  first_of_both [] = refl
  first_of_both (x ∷ xs) = elim (p x) as (λ v. slice_get (cond (v && q x) (x ∷ filter (λ x. p x && q x) xs) (filter
      (λ x. p x && q x) xs)) 0 ≡ find q (cond v (x ∷ filter p xs) (filter p xs))) [
        | true ↦ elim (q x) as
            (λ w. slice_get (cond w (x ∷ filter (λ x. p x && q x) xs) (filter (λ x. p x && q x) xs)) 0 ≡ cond w (Some x)
            (find q (filter p xs))) [ true ↦ refl | false ↦ first_of_both xs ]
        | false ↦ first_of_both xs
      ]

positive : (n : ℕ) → true ≡ not (suc n == 0)
positive n = grind (arith, nat_tests)

pub any_filtered : {X : Type 0} (p : X → Bool) (xs : List X) → list_any p xs ≡ not (length (filter p xs) == 0)
any_filtered p [] = refl
any_filtered p (x ∷ xs) = elim (p x) as (λ v. (v || list_any p xs) ≡ not (length (cond v (x ∷ filter p xs)
    (filter p xs)) == 0)) [ true ↦ positive (length (filter p xs)) | false ↦ any_filtered p xs ]

-- a test on what passes another test
any_within : {X : Type 0} (p q : X → Bool) (xs : List X) → list_any q (filter p xs) ≡ list_any (λ x. p x && q x) xs
any_within p q [] = refl
any_within p q (x ∷ xs) =
    elim (p x) as (λ v. list_any q (cond v (x ∷ filter p xs) (filter p xs)) ≡ ((v && q x) || list_any
    (λ x. p x && q x) xs)) [ true ↦ ap (λ v. q x || v) (any_within p q xs) | false ↦ any_within p q xs ]

pub any_of_both : {X : Type 0} (p q : X → Bool) (xs : List X) → list_any q (filter p xs) ≡ not
    (length (filter (λ x. p x && q x) xs) == 0)
any_of_both p q xs = any_within p q xs ∙ any_filtered (λ x. p x && q x) xs

pub any_of_either : {X : Type 0} (p q : X → Bool) (xs : List X) → list_any q (filter p xs) ≡ list_any
    (λ x. q x && p x) xs
any_of_either p q xs = any_within p q xs ∙ (λ i. list_any (λ x. and_comm (p x) (q x) i) xs)

find_within : {X : Type 0} (p q : X → Bool) (xs : List X) → find q (filter p xs) ≡ find (λ x. p x && q x) xs
find_within p q [] = refl
find_within p q (x ∷ xs) =
    elim (p x) as (λ v. find q (cond v (x ∷ filter p xs) (filter p xs)) ≡ cond (v && q x) (Some x) (find
    (λ x. p x && q x) xs)) [ true ↦ ap (cond (q x) (Some x)) (find_within p q xs) | false ↦ find_within p q xs ]

pub find_of_either : {X : Type 0} (p q : X → Bool) (xs : List X) → find q (filter p xs) ≡ find p (filter q xs)
find_of_either p q xs = find_within p q xs ∙ (λ i. find (λ x. and_comm (p x) (q x) i) xs) ∙ sym (find_within q p xs)

pub filter_three : {X : Type 0} (p q r : X → Bool) (xs : List X) → filter r (filter (λ x. p x && q x) xs) ≡ filter
    (λ x. q x && r x)
    (filter p xs)
filter_three p q r xs = ap (filter r) (filter_both p q xs) ∙ sym (filter_both q r (filter p xs))

-- what a supplier sees under a key, if it has the pallet with that key
held : {X : Type 0} (key : X → List ℕ) (supplier sscc : List ℕ) (pallets : List PalletRow) (xs : List X) →
    filter (λ x. same (key x) sscc) (filter (λ x. holds supplier pallets (key x)) xs) ≡ cond
    (holds supplier pallets sscc) (filter
    (λ x. same (key x) sscc) xs) []
held {X} key supplier sscc pallets [] = elim (holds supplier pallets sscc) as (λ v. ◌≡◌ {A = List X} []
    (cond v [] [])) [ true ↦ refl | false ↦ refl ]
held {X} key supplier sscc pallets (x ∷ xs) =
    let is : X → Bool = λ x. same (key x) sscc in
    let has : List ℕ → Bool = holds supplier pallets in
    let rest = held key supplier sscc pallets xs in
    elim (is x) as (λ v. is x ≡ v → filter is (cond (has (key x)) (x ∷ filter (λ x. has (key x)) xs) (filter (λ x. has
    (key x)) xs)) ≡ cond (has sscc) (cond v (x ∷ filter is xs) (filter is xs)) []) [
      | true ↦ λ e.
          ap (λ s. filter is (cond (has s) (x ∷ filter (λ x. has (key x)) xs) (filter (λ x. has (key x)) xs)))
          (same_is (key x) sscc e)
          ∙ elim (has sscc) as (λ w. filter is (filter (λ x. has (key x)) xs) ≡ cond w (filter is xs) [] →
          filter is (cond w (x ∷ filter (λ x. has (key x)) xs) (filter (λ x. has (key x)) xs)) ≡ cond w
          (x ∷ filter is xs) []) [
            | true ↦ λ r. ap (λ v. cond v (x ∷ filter is (filter (λ x. has (key x)) xs))
                (filter is (filter (λ x. has (key x)) xs))) e
                ∙ ap (λ ys. x ∷ ys) r
            | false ↦ λ r. r
          ] rest
      | false ↦ λ e.
          elim (has (key x)) as
          (λ w. filter is (cond w (x ∷ filter (λ x. has (key x)) xs) (filter (λ x. has (key x)) xs)) ≡ cond
          (has sscc) (filter is xs) []) [
            | true ↦ ap (λ v. cond v (x ∷ filter is (filter (λ x. has (key x)) xs))
                (filter is (filter (λ x. has (key x)) xs))) e ∙ rest
            | false ↦ rest
          ]
    ] refl

pub contents_held : (supplier sscc : List ℕ) (pallets : List PalletRow) (rows : List ContentRow) →
    filter (λ row. same row.sscc sscc) (filter (λ row. holds supplier pallets row.sscc) rows) ≡ cond
    (holds supplier pallets sscc)
    (filter (λ row. same row.sscc sscc) rows) []
contents_held supplier sscc pallets rows = held (λ (row : ContentRow). row.sscc) supplier sscc pallets rows

pub receipts_held : (supplier sscc : List ℕ) (pallets : List PalletRow) (rows : List ReceiptRow) →
    filter (λ row. same row.sscc sscc) (filter (λ row. holds supplier pallets row.sscc) rows) ≡ cond
    (holds supplier pallets sscc)
    (filter (λ row. same row.sscc sscc) rows) []
receipts_held supplier sscc pallets rows = held (λ (row : ReceiptRow). row.sscc) supplier sscc pallets rows

-- the last element of a list
last_from : {X : Type 0} (x : X) (xs : List X) → last_or (Some x) xs ≡ slice_get (x ∷ xs) (length xs)
last_from x [] = refl
last_from x (y ∷ ys) = last_from y ys

pub last_is : {X : Type 0} (xs : List X) → last_or None xs ≡ slice_get xs (length xs - 1)
last_is [] = refl
last_is (x ∷ xs) = let n : suc (length xs) - 1 ≡ length xs = omega arith in last_from x xs ∙ ap (slice_get (x ∷ xs))
    (sym n)

pub first_is_found : {X : Type 0} (p : X → Bool) (xs : List X) → slice_get (filter p xs) 0 ≡ find p xs
first_is_found p [] = refl
first_is_found p (x ∷ xs) = elim (p x) as (λ v. slice_get (cond v (x ∷ filter p xs) (filter p xs)) 0 ≡ cond v (Some x)
    (find p xs)) [ true ↦ refl | false ↦ first_is_found p xs ]

-- one more key
pub filter_map_step : {X Y : Type 0} (h : X → Option Y) (xs : List X) (i : ℕ) (x : X) → i < length xs
    → x ≡ get_or xs i x →
    filter_map h (drop i xs) ≡ cons_option (h x) (filter_map h (drop (i + 1) xs))
filter_map_step h xs i x within is = ap (filter_map h) (drop_more xs i x within)
    ∙ ap (λ y. cons_option (h y) (filter_map h (drop (i + 1) xs))) (sym is)

-- Filters and tests of lists, and of their keys.

pub filter_of_map : {X K : Type 0} (p : K → Bool) (key : X → K) (xs : List X) → filter p (map key xs) ≡ map key
    (filter (λ x. p (key x)) xs)
filter_of_map p key [] = refl
filter_of_map p key (x ∷ xs) =
    elim (p (key x)) as (λ v. cond v (key x ∷ filter p (map key xs)) (filter p (map key xs)) ≡ map key
    (cond v (x ∷ filter (λ x. p
    (key x)) xs) (filter (λ x. p (key x)) xs))) [
      | true ↦ ap (λ ks. key x ∷ ks) (filter_of_map p key xs)
      | false ↦ filter_of_map p key xs
    ]

pub any_none : {X : Type 0} (p : X → Bool) (xs : List X) → AllByRecursion (λ x. p x ≡ false) xs → list_any p xs ≡ false
any_none p [] all = refl
any_none p (x ∷ xs) all = ap (λ v. v || list_any p xs) all.0 ∙ any_none p xs all.1

pub none_any : {X : Type 0} (p : X → Bool) (xs : List X) → list_any p xs ≡ false → AllByRecursion (λ x. p x ≡ false) xs
none_any p [] none = tt
none_any p (x ∷ xs) none = elim (p x) as (λ v. p x ≡ v → (v || list_any p xs) ≡ false →
    AllByRecursion (λ x. p x ≡ false) (x ∷ xs)) [
      | true ↦ λ e h. absurd (cc (h))
      | false ↦ λ e h.
          (e, none_any p xs h)
    ] refl none

pub none_first : {X : Type 0} (p : X → Bool) (xs : List X) → slice_get (filter p xs) 0 ≡ None → list_any p xs ≡ false
none_first p [] none = refl
none_first p (x ∷ xs) none = elim (p x) as (λ v. slice_get (cond v (x ∷ filter p xs) (filter p xs)) 0 ≡ None →
    (v || list_any p xs) ≡ false) [ true ↦ λ h. cc | false ↦ λ h. none_first p xs h ] none

-- a test that passes only what passes another
pub any_among : {X : Type 0} (p q : X → Bool) → ((x : X) → q x ≡ true → p x ≡ true) → (xs : List X) →
    list_any q (filter p xs) ≡ list_any q xs
any_among p q f [] = refl
any_among p q f (x ∷ xs) =
    let rest = any_among p q f xs in
    elim (decide (p x)) [
      | inl e ↦ grind (arith, e, rest)
      | inr e ↦ elim (decide (q x)) [
        | inl g ↦ let no : true ≡ false = sym (f x g)
            ∙ e in absurd (cc (no))
        | inr g ↦ grind (arith, e, g, rest)
      ]
    ]

pub any_of_map : {X K : Type 0} (p : K → Bool) (key : X → K) (xs : List X) → list_any p (map key xs) ≡ list_any
    (λ x. p (key x)) xs
any_of_map p key [] = refl
any_of_map p key (x ∷ xs) = ap (λ v. p (key x) || v) (any_of_map p key xs)

pub filter_true : {X : Type 0} (xs : List X) → filter (λ x. true) xs ≡ xs
filter_true [] = refl
filter_true (x ∷ xs) = ap (λ ys. x ∷ ys) (filter_true xs)

-- a prefix has at most as many elements as were asked for
pub take_within : {X : Type 0} (n : ℕ) (xs : List X) → length (take n xs) ≤ n
take_within zero xs = omega arith
take_within (suc n) [] = omega arith
take_within (suc n) (x ∷ xs) = omega (arith, take_within n xs)

pub take_of_map : {X K : Type 0} (key : X → K) (n : ℕ) (xs : List X) → take n (map key xs) ≡ map key (take n xs)
take_of_map key zero xs = refl
take_of_map key (suc n) [] = refl
take_of_map key (suc n) (x ∷ xs) = ap (λ ks. key x ∷ ks) (take_of_map key n xs)
