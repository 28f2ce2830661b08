-- Provides lemmas about tests and lists.
use Rattle.std.proofs.Common.{◌≡◌, ◌≢◌, ℕ, Bool, true, false, cond, ◌||◌, ◌⊎◌, inl, inr, List, [], ◌∷◌, filter, find, Some}
use Rattle.std.proofs.Common.{None, refl, sym, ◌∙◌, ap, ap₂, subst, arith}
use Rattle.std.specs.List.{AllByRecursion, list_any}
use Rattle.std.proofs.lemmas.Bool.{or_right}
use Rattle.std.proofs.lemmas.Slice.Eq.{bytes_eq-Decides}
use Rattle.hub_parties.specs.KeyOrder.{replace}
use Rattle.hub_tables.specs.Rows.{same}
use Rattle.hub_tables.specs.State.{the_only}

pub decide : (b : Bool) → (b ≡ true) ⊎ (b ≡ false)
decide true = inl refl
decide false = inr refl

pub same_is : (a b : List ℕ) → same a b ≡ true → a ≡ b
same_is a b h = (bytes_eq-Decides a b).0 h

pub same_if : (a b : List ℕ) → a ≡ b → same a b ≡ true
same_if a b e = (bytes_eq-Decides a b).1 e

pub differ : (a b : List ℕ) → a ≢ b → same a b ≡ false
differ a b ne = elim (decide (same a b)) [ inl e ↦ absurd (ne (same_is a b e)) | inr e ↦ e ]

-- two tests that agree on all elements keep the same ones
pub filter_alike : {X : Type 0} (p q : X → Bool) (xs : List X) → AllByRecursion (λ x. p x ≡ q x) xs → filter p xs ≡ filter q xs
filter_alike p q [] all = refl
filter_alike p q (x ∷ xs) all = ap₂ (λ v rest. cond v (x ∷ rest) rest) all.0 (filter_alike p q xs all.1)

pub filter_replace : {X : Type 0} (p at : X → Bool) (r : X) (xs : List X)
    → p r ≡ true
    → AllByRecursion (λ y. at y ≡ true → p y ≡ true) xs
    → filter p (replace at r xs) ≡ replace at r (filter p xs)
filter_replace p at r [] pr all = refl
filter_replace p at r (y ∷ ys) pr all =
    let ih = filter_replace p at r ys pr all.1 in
    elim (decide (at y)) [
      | inl e ↦ let py : p y ≡ true = all.0 e in grind (arith, e, pr, py, ih)
      | inr e ↦ elim (decide (p y)) [ inl py ↦ grind (arith, e, py, ih) | inr py ↦ grind (arith, e, py, ih) ]
    ]

pub filter_replace_out : {X : Type 0} (p at : X → Bool) (r : X) (xs : List X)
    → p r ≡ false
    → AllByRecursion (λ y. at y ≡ true → p y ≡ false) xs
    → filter p (replace at r xs) ≡ filter p xs
filter_replace_out p at r [] pr all = refl
filter_replace_out p at r (y ∷ ys) pr all =
    let ih = filter_replace_out p at r ys pr all.1 in
    elim (decide (at y)) [
      | inl e ↦ let py : p y ≡ false = all.0 e in grind (arith, e, pr, py, ih)
      | inr e ↦ elim (decide (p y)) [ inl py ↦ grind (arith, e, py, ih) | inr py ↦ grind (arith, e, py, ih) ]
    ]

-- replacing a row by one with the same key does not change whether some row passes
pub any_replaced : {X : Type 0} (p at : X → Bool) (r : X) (xs : List X)
    → ((y : X) → at y ≡ true → p y ≡ p r)
    → list_any p (replace at r xs) ≡ list_any p xs
any_replaced p at r [] f = refl
any_replaced p at r (y ∷ ys) f =
    let ih = any_replaced p at r ys f in
    elim (decide (at y)) [
      | inl e ↦ let alike : p y ≡ p r = f y e in grind (arith, e, alike, ih)
      | inr e ↦ grind (arith, e, ih)
    ]

-- For what holds for each element.
module _ {X : Type 0} (P : X → Type 0) where
  pub all_filter : (p : X → Bool) (xs : List X) → AllByRecursion P xs → AllByRecursion P (filter p xs)
  all_filter p [] a = tt
  all_filter p (x ∷ xs) a =
      elim (p x) as (λ v. AllByRecursion P (cond v (x ∷ filter p xs) (filter p xs)))
      [ true ↦ (a.0, all_filter p xs a.1) | false ↦ all_filter p xs a.1 ]

  pub all_replace : (at : X → Bool) (r : X) (xs : List X) → AllByRecursion P xs → P r → AllByRecursion P (replace at r xs)
  all_replace at r [] a b = tt
  all_replace at r (x ∷ xs) a b = (elim (at x) as (λ v. P (cond v r x)) [ true ↦ b | false ↦ a.0 ], all_replace at r xs a.1 b)

  pub all_weaker : (Q : X → Type 0) → ((x : X) → P x → Q x) → (xs : List X) → AllByRecursion P xs → AllByRecursion Q xs
  all_weaker Q f [] a = tt
  all_weaker Q f (x ∷ xs) a = (f x a.0, all_weaker Q f xs a.1)

  pub all_always : ((x : X) → P x) → (xs : List X) → AllByRecursion P xs
  all_always f [] = tt
  all_always f (x ∷ xs) = (f x, all_always f xs)

  -- if it holds for the rows that are not replaced, and for the new row
  pub all_replaced : (at : X → Bool) (r : X) (xs : List X)
      → AllByRecursion (λ y. at y ≡ false → P y) xs
      → P r
      → AllByRecursion P (replace at r xs)
  all_replaced at r [] a b = tt
  all_replaced at r (x ∷ xs) a b = (
    elim (at x) as (λ v. at x ≡ v → P (cond v r x)) [ true ↦ λ e. b | false ↦ λ e. a.0 e ] refl,
    all_replaced at r xs a.1 b,
  )

  pub all_found : (p : X → Bool) (xs : List X) (x : X) → AllByRecursion P xs → find p xs ≡ Some x → P x × (p x ≡ true)
  all_found p [] x a e = cc
  all_found p (y ∷ ys) x a e =
      elim (p y) as (λ v. p y ≡ v → cond v (Some y) (find p ys) ≡ Some x → P x × (p x ≡ true)) [
        | true ↦ λ b f. let yx : y ≡ x = cc in (subst P yx a.0, ap p (sym yx) ∙ b)
        | false ↦ λ b f. all_found p ys x a.1 f
      ] refl e

  pub all_only : (xs : List X) (x : X) → AllByRecursion P xs → the_only xs ≡ Some x → P x
  all_only [] x a e = cc
  all_only (y ∷ []) x a e = let yx : y ≡ x = cc in subst P yx a.0
  all_only (y ∷ z ∷ zs) x a e = cc

pub all_passes : {X : Type 0} (p : X → Bool) (xs : List X) → AllByRecursion (λ x. p x ≡ true) (filter p xs)
all_passes p [] = tt
all_passes p (x ∷ xs) =
    elim (p x) as (λ v. p x ≡ v → AllByRecursion (λ x. p x ≡ true) (cond v (x ∷ filter p xs) (filter p xs)))
    [ true ↦ λ e. (e, all_passes p xs) | false ↦ λ e. all_passes p xs ] refl

-- each element is found when searching for itself
pub all_itself : {X : Type 0} (p : X → X → Bool)
    → ((x : X) → p x x ≡ true)
    → (xs : List X)
    → AllByRecursion (λ x. list_any (p x) xs ≡ true) xs
all_itself p f [] = tt
all_itself p f (x ∷ xs) = (
  ap (λ v. v || list_any (p x) xs) (f x),
  all_weaker (λ y. list_any (p y) xs ≡ true) (λ y. (p y x || list_any (p y) xs) ≡ true)
      (λ y h. or_right (p y x) (list_any (p y) xs) h) xs (all_itself p f xs),
)

pub filter_none : {X : Type 0} (p : X → Bool) (xs : List X) → AllByRecursion (λ x. p x ≡ false) xs → filter p xs ≡ []
filter_none p [] all = refl
filter_none p (x ∷ xs) all = ap (λ v. cond v (x ∷ filter p xs) (filter p xs)) all.0 ∙ filter_none p xs all.1

pub any_if_found : {X : Type 0} (p : X → Bool) (xs : List X) (x : X) → find p xs ≡ Some x → list_any p xs ≡ true
any_if_found p [] x h = cc
any_if_found p (y ∷ ys) x h =
    elim (p y) as (λ v. cond v (Some y) (find p ys) ≡ Some x → (v || list_any p ys) ≡ true)
    [ true ↦ λ g. refl | false ↦ λ g. any_if_found p ys x g ] h

pub none_if_not_found : {X : Type 0} (p : X → Bool) (xs : List X) → find p xs ≡ None → list_any p xs ≡ false
none_if_not_found p [] h = refl
none_if_not_found p (x ∷ xs) h =
    elim (p x) as (λ v. cond v (Some x) (find p xs) ≡ None → (v || list_any p xs) ≡ false)
    [ true ↦ λ g. cc | false ↦ λ g. none_if_not_found p xs g ] h
