-- Shows that inserting rows one after another gives their list in the order of the keys.
use Rattle.std.proofs.Common.{◌≡◌, ◌⊎◌, inl, inr, Bool, true, false, cond, ◌||◌, List, [], ◌∷◌, ◌++◌, fold, filter, map}
use Rattle.std.proofs.Common.{refl, sym, ap, ap₂, ◌∙◌}
use Rattle.std.specs.Bool.{⊤}
use Rattle.std.proofs.Math.Bool.{or-false}
use Rattle.std.specs.List.{AllByRecursion, list_any}
use Rattle.std.specs.declared.cmp.Ordering.{Ordering}
use Rattle.std.specs.declared.cmp.Ordering.TheVariants.{Less, Equal, Greater}
use Rattle.std.specs.Ordering.{is_gt, is_eq, ordering_reverse}
use Rattle.std.specs.Cmp.{IsTotalOrder}
use Rattle.hub_parties.specs.KeyOrder.{InOrder, put, Rises}
use Rattle.hub_tables.specs.Sets.{Has, SameSet}
use Rattle.hub_tables.proofs.KeyOrder.{any_put, in_order_put, filter_put_in, filter_put_out}
use Rattle.hub_tables.proofs.Lists.{decide}
use Rattle.hub_tables.proofs.Setting.{rises_put}
use Rattle.hub_schema.specs.Rows.{in_key_order}

-- inserts rows one after another into existing ones
abbrev pub put_all : {X : Type 0} → (X → X → Ordering) → List X → List X → List X
put_all cmp xs there = fold (λ sorted row. put cmp row sorted) there xs

-- no two have the same key
abbrev pub KeysApart : {X : Type 0} → (X → X → Ordering) → List X → Type 0
KeysApart cmp [] = ⊤
KeysApart cmp (x ∷ xs) = AllByRecursion (λ y. is_eq (cmp x y) ≡ false) xs × KeysApart cmp xs

module _ {X : Type 0} (cmp : X → X → Ordering) where
  all_more : (xs : List X) (x : X) (there : List X)
      → put_all cmp (xs ++ x ∷ []) there ≡ put cmp x (put_all cmp xs there)
  all_more [] x there = refl
  all_more (y ∷ ys) x there = all_more ys x (put cmp y there)

  -- the last row is inserted last
  pub listed_more : (xs : List X) (x : X) → in_key_order cmp (xs ++ x ∷ []) ≡ put cmp x (in_key_order cmp xs)
  listed_more xs x = all_more xs x []

  put_map : (f : X → X) → ((x y : X) → cmp (f x) (f y) ≡ cmp x y) → (xs : List X) (x : X)
      → put cmp (f x) (map f xs) ≡ map f (put cmp x xs)
  put_map f e [] x = refl
  put_map f e (y ∷ ys) x =
      ap₂ (λ v zs. cond v (f x ∷ f y ∷ map f ys) (f y ∷ zs)) (ap is_gt (e y x)) (put_map f e ys x)
      ∙ elim (is_gt (cmp y x)) as (λ v. cond v (f x ∷ f y ∷ map f ys) (f y
      ∷ map f (put cmp x ys)) ≡ map f (cond v (x ∷ y ∷ ys) (y ∷ put cmp x ys)))
      [ true ↦ refl | false ↦ refl ]

  all_map : (f : X → X) → ((x y : X) → cmp (f x) (f y) ≡ cmp x y) → (xs there : List X)
      → put_all cmp (map f xs) (map f there) ≡ map f (put_all cmp xs there)
  all_map f e [] there = refl
  all_map f e (x ∷ xs) there = ap (put_all cmp (map f xs)) (put_map f e there x) ∙ all_map f e xs (put cmp x there)

  -- rows that are replaced but keep their keys
  pub listed_map : (f : X → X) → ((x y : X) → cmp (f x) (f y) ≡ cmp x y) → (xs : List X)
      → in_key_order cmp (map f xs) ≡ map f (in_key_order cmp xs)
  listed_map f e xs = all_map f e xs []

  has_put : (xs : List X) (x z : X) → Has (put cmp x xs) z → Has (x ∷ xs) z
  has_put [] x z h = h
  has_put (y ∷ ys) x z h =
      elim (is_gt (cmp y x)) as (λ v. Has (cond v (x ∷ y ∷ ys) (y ∷ put cmp x ys)) z → Has (x ∷ y ∷ ys) z) [
        | true ↦ λ g. g
        | false ↦ λ g. elim g [
          | inl e ↦ inr (inl e)
          | inr k ↦ elim (has_put ys x z k) [
            | inl e ↦ inl e
            | inr m ↦ inr (inr m)
          ]
        ]
      ] h

  put_has : (xs : List X) (x z : X) → Has (x ∷ xs) z → Has (put cmp x xs) z
  put_has [] x z h = h
  put_has (y ∷ ys) x z h = elim (is_gt (cmp y x)) as (λ v. Has (cond v (x ∷ y ∷ ys) (y ∷ put cmp x ys)) z) [
    | true ↦ h
    | false ↦ elim h [
      | inl e ↦ inr (put_has ys x z (inl e))
      | inr g ↦ elim g [
        | inl e ↦ inl e
        | inr m ↦ inr (put_has ys
            x z (inr m))
      ]
    ]
  ]

  all_has : (xs there : List X) (z : X) → Has (put_all cmp xs there) z → Has xs z ⊎ Has there z
  all_has [] there z h = inr h
  all_has (x ∷ xs) there z h = elim (all_has xs (put cmp x there) z h) [
    | inl g ↦ inl (inr g)
    | inr g ↦ elim (has_put there x z g) [ inl e ↦ inl (inl e) | inr m ↦ inr m ]
  ]

  has_all : (xs there : List X) (z : X) → Has xs z ⊎ Has there z → Has (put_all cmp xs there) z
  has_all [] there z h = elim h [ inl g ↦ absurd g | inr g ↦ g ]
  has_all (x ∷ xs) there z h = has_all xs (put cmp x there) z (elim h [
    | inl g ↦ elim g [ inl e ↦ inr (put_has there x z (inl e)) | inr m ↦ inl m ]
    | inr g ↦ inr (put_has there x z (inr g))
  ])

  -- the rows are the same
  pub listed_same : (xs : List X) → SameSet xs (in_key_order cmp xs)
  listed_same xs = record {
    there = λ z h. has_all xs [] z (inl h);
    back = λ z h. elim (all_has xs [] z h) [ inl g ↦ g | inr g ↦ absurd g ];
  }

  turned : (a b c : Bool) → (a || (b || (c || false))) ≡ ((c || a) || b)
  turned true true true = refl
  turned true true false = refl
  turned true false true = refl
  turned true false false = refl
  turned false true true = refl
  turned false true false = refl
  turned false false true = refl
  turned false false false = refl

  all_any : (p : X → Bool) (xs there : List X) → list_any p (put_all cmp xs there) ≡ (list_any p xs || list_any p there)
  all_any p [] there = refl
  all_any p (x ∷ xs) there =
      all_any p xs (put cmp x there) ∙ ap (λ v. list_any p xs || v) (any_put cmp p there x)
      ∙ turned (list_any p xs) (list_any p there) (p x)

  -- whether some row passes the test
  pub listed_any : (p : X → Bool) (xs : List X) → list_any p (in_key_order cmp xs) ≡ list_any p xs
  listed_any p xs = all_any p xs [] ∙ or-false (list_any p xs)

module _ {X : Type 0} {cmp : X → X → Ordering} (total : IsTotalOrder cmp) where
  all_filter : (p : X → Bool) (xs there : List X) → InOrder cmp there
      → filter p (put_all cmp xs there) ≡ put_all cmp (filter p xs) (filter p there)
  all_filter p [] there a = refl
  all_filter p (x ∷ xs) there a =
      let more = all_filter p xs (put cmp x there) (in_order_put total there x a) in
      elim (decide (p x)) [
        | inl e ↦ more ∙ ap (put_all cmp (filter p xs)) (filter_put_in total p there x a e)
            ∙ ap (λ v. put_all cmp (cond v (x ∷ filter p xs) (filter p xs)) (filter p there)) (sym e)
        | inr e ↦ more ∙ ap (put_all cmp (filter p xs)) (filter_put_out cmp p there x e)
            ∙ ap (λ v. put_all cmp (cond v (x ∷ filter p xs) (filter p xs)) (filter p there)) (sym e)
      ]

  -- filtering the rows
  pub listed_filter : (p : X → Bool) (xs : List X) → filter p (in_key_order cmp xs) ≡ in_key_order cmp (filter p xs)
  listed_filter p xs = all_filter p xs [] tt

  eq_back : (x y : X) → is_eq (cmp x y) ≡ false → is_eq (cmp y x) ≡ false
  eq_back x y h = ap is_eq (total.antisymm y x) ∙ by_answer (cmp x y) h
    where
      by_answer : (o : Ordering) → is_eq o ≡ false → is_eq (ordering_reverse o) ≡ false
      by_answer Less g = refl
      by_answer Equal g = cc
      by_answer Greater g = refl

  none_equal : (x : X) (there : List X) → AllByRecursion (λ y. is_eq (cmp y x) ≡ false) there
      → list_any (λ y. is_eq (cmp y x)) there ≡ false
  none_equal x [] a = refl
  none_equal x (y ∷ ys) a = ap₂ (λ v w. v || w) a.0 (none_equal x ys a.1)

  -- each new row differs from each existing one
  abbrev Differ : List X → List X → Type 0
  Differ xs there = AllByRecursion (λ x. AllByRecursion (λ y. is_eq (cmp y x) ≡ false) there) xs

  put_differs : (z x : X) (there : List X) → is_eq (cmp x z) ≡ false
      → AllByRecursion (λ y. is_eq (cmp y z) ≡ false) there
      → AllByRecursion (λ y. is_eq (cmp y z) ≡ false) (put cmp x there)
  put_differs z x [] e a = (e, tt)
  put_differs z x (y ∷ ys) e a =
      elim (is_gt (cmp y x)) as (λ v. AllByRecursion (λ y. is_eq (cmp y z) ≡ false) (cond v (x ∷ y ∷ ys) (y
      ∷ put cmp x ys)))
      [ true ↦ (e, a) | false ↦ (a.0, put_differs z x ys e a.1) ]

  still_differ : (x : X) (xs there : List X) → AllByRecursion (λ y. is_eq (cmp x y) ≡ false) xs → Differ xs there
      → Differ xs (put cmp x there)
  still_differ x [] there a d = tt
  still_differ x (z ∷ zs) there a d = (put_differs z x there a.0 d.0, still_differ x zs there a.1 d.1)

  all_rises : (xs there : List X) → KeysApart cmp xs → Rises cmp there → Differ xs there → Rises cmp (put_all cmp xs there)
  all_rises [] there a b d = b
  all_rises (x ∷ xs) there a b d =
      all_rises xs (put cmp x there) a.1 (rises_put total x there b (none_equal x there d.0)) (still_differ x xs there
      a.0 d.1)

  from_none : (xs : List X) → Differ xs []
  from_none [] = tt
  from_none (x ∷ xs) = (tt, from_none xs)

  -- rows rise if no two have the same key
  pub listed_rises : (xs : List X) → KeysApart cmp xs → Rises cmp (in_key_order cmp xs)
  listed_rises xs apart = all_rises xs [] apart tt (from_none xs)
