-- Shows what inserting, filtering and replacing do to lists sorted by a key.
use Rattle.std.proofs.Common.{◌≡◌, ℕ, ◌+◌, Bool, true, false, cond, ◌||◌, inl, inr, List, [], ◌∷◌, ◌++◌, filter, map}
use Rattle.std.proofs.Common.{sum_by, refl, sym, ◌∙◌, ap, arith}
use Rattle.std.specs.List.{AllByRecursion, list_any}
use Rattle.std.specs.declared.cmp.Ordering.{Ordering}
use Rattle.std.specs.declared.cmp.Ordering.TheVariants.{Less, Equal, Greater}
use Rattle.std.specs.Ordering.{is_gt, ordering_reverse}
use Rattle.std.specs.Cmp.{IsTotalOrder}
use Rattle.std.proofs.Math.Bool.{or_assoc}
use Rattle.std.proofs.lemmas.Cmp.{upto}
use Rattle.std.proofs.lemmas.List.Sums.{sum_by-cons}
use Rattle.hub_parties.specs.KeyOrder.{InOrder, Rises, put}
use Rattle.hub_tables.proofs.Lists.{decide, all_filter, all_weaker}

-- Without assuming any order.
module _ {X : Type 0} (cmp : X → X → Ordering) where
  pub all_put : (P : X → Type 0) (xs : List X) (x : X) → AllByRecursion P xs → P x → AllByRecursion P (put cmp x xs)
  all_put P [] x a b = (b, tt)
  all_put P (y ∷ ys) x a b =
      elim (is_gt (cmp y x)) as (λ v. AllByRecursion P (cond v (x ∷ y ∷ ys) (y ∷ put cmp x ys)))
      [ true ↦ (b, a) | false ↦ (a.0, all_put P ys x a.1 b) ]

  pub all_put_back : (P : X → Type 0) (xs : List X) (x : X) → AllByRecursion P (put cmp x xs) → P x × AllByRecursion P xs
  all_put_back P [] x a = (a.0, tt)
  all_put_back P (y ∷ ys) x a =
      elim (is_gt (cmp y x)) as (λ v. AllByRecursion P (cond v (x ∷ y ∷ ys) (y ∷ put cmp x ys)) → P x × AllByRecursion P (y ∷ ys)) [
        | true ↦ λ h. h
        | false ↦ λ h. let later = all_put_back P ys x h.1 in (later.0, (h.0, later.1))
      ] a

  pub any_put : (p : X → Bool) (xs : List X) (x : X) → list_any p (put cmp x xs) ≡ (list_any p xs || (p x || false))
  any_put p [] x = refl
  any_put p (y ∷ ys) x =
      elim (is_gt (cmp y x)) as (λ v. list_any p (cond v (x ∷ y ∷ ys) (y ∷ put cmp x ys)) ≡ ((p y || list_any p ys) || (p x || false))) [
        | true ↦ turned (p x) (p y || list_any p ys)
        | false ↦ ap (λ v. p y || v) (any_put p ys x) ∙ sym (or_assoc (p y) (list_any p ys) (p x || false))
      ]
    where
      turned : (a b : Bool) → (a || b) ≡ (b || (a || false))
      turned true true = refl
      turned true false = refl
      turned false true = refl
      turned false false = refl

  pub filter_put_out : (p : X → Bool) (xs : List X) (x : X) → p x ≡ false → filter p (put cmp x xs) ≡ filter p xs
  filter_put_out p [] x e = ap (λ v. cond v (x ∷ []) []) e
  filter_put_out p (y ∷ ys) x e =
      let ih = filter_put_out p ys x e in
      elim (decide (is_gt (cmp y x))) [
        | inl g ↦ grind (arith, g, e)
        | inr g ↦ elim (decide (p y)) [ inl h ↦ grind (arith, g, h, ih) | inr h ↦ grind (arith, g, h, ih) ]
      ]

  pub any_more : (p : X → Bool) (xs : List X) (x : X) → list_any p xs ≡ true → list_any p (put cmp x xs) ≡ true
  any_more p xs x h = any_put p xs x ∙ ap (λ v. v || (p x || false)) h

  pub sum_put : (f : X → ℕ) (xs : List X) (x : X) → sum_by f (put cmp x xs) ≡ sum_by f xs + f x
  sum_put f [] x = omega arith
  sum_put f (y ∷ ys) x =
      elim (is_gt (cmp y x)) as (λ v. sum_by f (cond v (x ∷ y ∷ ys) (y ∷ put cmp x ys)) ≡ sum_by f (y ∷ ys) + f x) [
        | true ↦ sum_by-cons f x (y ∷ ys) ∙ turned (f x) (sum_by f (y ∷ ys))
        | false ↦ sum_by-cons f y (put cmp x ys)
            ∙ ap (λ n. f y + n) (sum_put f ys x)
            ∙ regrouped (f y) (sum_by f ys) (f x)
            ∙ ap (λ n. n + f x) (sym (sum_by-cons f y ys))
      ]
    where
      turned : (a b : ℕ) → a + b ≡ b + a
      turned a b = omega arith

      regrouped : (a b c : ℕ) → a + (b + c) ≡ a + b + c
      regrouped a b c = omega arith

  pub put_last : (xs : List X) (x : X) → AllByRecursion (λ y. is_gt (cmp y x) ≡ false) xs → put cmp x xs ≡ xs ++ x ∷ []
  put_last [] x all = refl
  put_last (y ∷ ys) x all = ap (λ v. cond v (x ∷ y ∷ ys) (y ∷ put cmp x ys)) all.0 ∙ ap (λ zs. y ∷ zs) (put_last ys x all.1)

  pub put_first : (xs : List X) (x : X) → AllByRecursion (λ y. is_gt (cmp y x) ≡ true) xs → put cmp x xs ≡ x ∷ xs
  put_first [] x all = refl
  put_first (y ∷ ys) x all = ap (λ v. cond v (x ∷ y ∷ ys) (y ∷ put cmp x ys)) all.0

  pub in_order_filter : (p : X → Bool) (xs : List X) → InOrder cmp xs → InOrder cmp (filter p xs)
  in_order_filter p [] a = tt
  in_order_filter p (x ∷ xs) a =
      elim (p x) as (λ v. InOrder cmp (cond v (x ∷ filter p xs) (filter p xs))) [
        | true ↦ (all_filter (λ y. is_gt (cmp x y) ≡ false) p xs a.0, in_order_filter p xs a.1)
        | false ↦ in_order_filter p xs a.1
      ]

  -- a function that keeps keys keeps the order
  pub in_order_map : (f : X → X) → ((x y : X) → cmp (f x) (f y) ≡ cmp x y) → (xs : List X) → InOrder cmp xs → InOrder cmp (map f xs)
  in_order_map f e [] a = tt
  in_order_map f e (x ∷ xs) a = (mapped xs a.0, in_order_map f e xs a.1)
    where
      mapped : (ys : List X)
          → AllByRecursion (λ y. is_gt (cmp x y) ≡ false) ys
          → AllByRecursion (λ y. is_gt (cmp (f x) y) ≡ false) (map f ys)
      mapped [] b = tt
      mapped (y ∷ ys) b = (ap is_gt (e x y) ∙ b.0, mapped ys b.1)

-- For sorted lists.
module _ {X : Type 0} {cmp : X → X → Ordering} (total : IsTotalOrder cmp) where
  less_back : (x y : X) → is_gt (cmp y x) ≡ true → is_gt (cmp x y) ≡ false
  less_back x y h = ap is_gt (total.antisymm x y) ∙ by_answer (cmp y x) h
    where
      by_answer : (o : Ordering) → is_gt o ≡ true → is_gt (ordering_reverse o) ≡ false
      by_answer Less g = cc
      by_answer Equal g = cc
      by_answer Greater g = refl

  -- what comes after a greater row is greater too
  all_greater : (x y : X) (ys : List X)
      → is_gt (cmp y x) ≡ true
      → AllByRecursion (λ z. is_gt (cmp y z) ≡ false) ys
      → AllByRecursion (λ z. is_gt (cmp z x) ≡ true) ys
  all_greater x y ys h all = all_weaker (λ z. is_gt (cmp y z) ≡ false) (λ z. is_gt (cmp z x) ≡ true) (λ z g.
      elim (decide (is_gt (cmp z x))) [ inl k ↦ k | inr k ↦ let no = upto total y z x g k in absurd (cc) ]) ys all

  pub in_order_put : (xs : List X) (x : X) → InOrder cmp xs → InOrder cmp (put cmp x xs)
  in_order_put [] x a = (tt, tt)
  in_order_put (y ∷ ys) x a =
      elim (is_gt (cmp y x)) as (λ v. is_gt (cmp y x) ≡ v → InOrder cmp (cond v (x ∷ y ∷ ys) (y ∷ put cmp x ys))) [
        | true ↦ λ h. (
          (
            less_back x y h,
            all_weaker (λ z. is_gt (cmp y z) ≡ false) (λ z. is_gt (cmp x z) ≡ false)
                (λ z g. upto total x y z (less_back x y h) g) ys a.0,
          ),
          a,
        )
        | false ↦ λ h. (all_put cmp (λ z. is_gt (cmp y z) ≡ false) ys x a.0 h, in_order_put ys x a.1)
      ] refl

  pub filter_put_in : (p : X → Bool) (xs : List X) (x : X) → InOrder cmp xs → p x ≡ true → filter p (put cmp x xs) ≡ put cmp x (filter p xs)
  filter_put_in p [] x a e = ap (λ v. cond v (x ∷ []) []) e
  filter_put_in p (y ∷ ys) x a e =
      let ih = filter_put_in p ys x a.1 e in
      elim (decide (is_gt (cmp y x))) [
        | inl g ↦
            let first = put_first cmp (filter p (y ∷ ys)) x
            (all_filter (λ z. is_gt (cmp z x) ≡ true) p (y ∷ ys) (g, all_greater x y ys g a.0)) in
            ap (λ v. filter p (cond v (x ∷ y ∷ ys) (y ∷ put cmp x ys))) g
            ∙ ap (λ v. cond v (x ∷ filter p (y ∷ ys)) (filter p (y ∷ ys))) e
            ∙ sym first
        | inr g ↦ elim (decide (p y)) [ inl h ↦ grind (arith, g, h, ih) | inr h ↦ grind (arith, g, h, ih) ]
      ]

-- rising rows still rise after a filter
pub rises_filter : {X : Type 0} (cmp : X → X → Ordering) (p : X → Bool) (xs : List X) → Rises cmp xs → Rises cmp (filter p xs)
rises_filter cmp p [] a = tt
rises_filter cmp p (x ∷ xs) a =
    elim (p x) as (λ v. Rises cmp (cond v (x ∷ filter p xs) (filter p xs)))
    [ true ↦ (all_filter (λ y. cmp x y ≡ Less) p xs a.0, rises_filter cmp p xs a.1) | false ↦ rises_filter cmp p xs a.1 ]

-- rows that rise are in order
pub in_order_rising : {X : Type 0} (cmp : X → X → Ordering) (xs : List X) → Rises cmp xs → InOrder cmp xs
in_order_rising cmp [] h = tt
in_order_rising cmp (x ∷ xs) h = (
  all_weaker (λ y. cmp x y ≡ Less) (λ y. is_gt (cmp x y) ≡ false) (λ y less. ap is_gt less) xs h.0,
  in_order_rising cmp xs h.1,
)
