-- Prefixes in the order of their bytes: where some two of them overlap, so do some two neighbours.
use Rattle.std.proofs.Common.{◌≡◌, ℕ, ◌+◌, ◌<◌, ◌≤◌, true, false, List, [], ◌∷◌, ◌++◌, length, get_or, set, ◌⊎◌, inl, inr, ⊎_elim}
use Rattle.std.proofs.Common.{refl, sym, ap, ap₂, ◌∙◌, subst, arith, cond, Ordering}
use Rattle.std.specs.List.{AllAdjacentBelow, swap}
use Rattle.std.specs.List.Sorted.{IsPermutation, IsSorted}
use Rattle.std.specs.Prelude.{◌==◌}
use Rattle.std.specs.Cmp.{nat_cmp_is}
use Rattle.std.specs.Cmp.Lexicographic.{slice_cmp}
use Rattle.std.specs.Ordering.{is_lt, nat_cmp, ordering_then}
use Rattle.std.specs.declared.cmp.Ordering.TheVariants.{Less, Equal, Greater}
use Rattle.std.proofs.lemmas.Bool.{both_ways, cases_eq, cases_lt, false_from_ne_true, ltb-false, true≢false}
use Rattle.std.proofs.lemmas.Cmp.{nat_list_cmp_total}
use Rattle.std.proofs.lemmas.List.Sorted.{IsPermutation-keeps, ranks_by, sorted_far}
use Rattle.std.proofs.Math.Bool.{or_comm}
use Rattle.std.proofs.lemmas.List.{get_or_default, get_or-set_same, get_or-set_other, length-set}
use Rattle.gs1_ids.specs.Overlap.{NoneOverlap}
use Rattle.gs1_ids.specs.Prefix.{Begins, begins, overlap}
use Rattle.gs1_ids.proofs.Prefixes.{Decides-overlap}

-- one text is not above another
abbrev pub Upto : List ℕ → List ℕ → Type 0
Upto x y = is_lt (slice_cmp nat_cmp y x) ≡ false

head_upto : (a b : ℕ) (o : Ordering) → is_lt (ordering_then (nat_cmp b a) o) ≡ false → a ≤ b
head_upto a b o h =
    ltb-false b a (false_from_ne_true _ (λ less. both_ways _ h
    (ap (λ c. is_lt (ordering_then (cond c Less (cond (b == a) Equal Greater)) o)) less)))

rest_upto : (a : ℕ) (o : Ordering) → is_lt (ordering_then (nat_cmp a a) o) ≡ false → is_lt o ≡ false
rest_upto a o h = ap (λ r. is_lt (ordering_then r o)) (nat_cmp_is a a Equal refl) ∙ h

-- what stands between a text and one that it begins, it begins too
begins_between : (x rest y : List ℕ) → Upto x y → Upto y (x ++ rest) → Begins x y
begins_between [] rest y p q = (y, refl)
begins_between (a ∷ x) rest [] p q = absurd (true≢false p)
begins_between (a ∷ x) rest (b ∷ y) p q =
    let first : a ≤ b = head_upto a b (slice_cmp nat_cmp y x) p in
    let second : b ≤ a = head_upto b a (slice_cmp nat_cmp (x ++ rest) y) q in
    let same : b ≡ a = omega (arith, first, second) in
    let ih =
    begins_between x rest y
    (rest_upto a (slice_cmp nat_cmp y x) (subst (λ c. is_lt (ordering_then (nat_cmp c a) (slice_cmp nat_cmp y x)) ≡ false) same p))
    (rest_upto a (slice_cmp nat_cmp (x ++ rest) y)
    (subst (λ c. is_lt (ordering_then (nat_cmp a c) (slice_cmp nat_cmp (x ++ rest) y)) ≡ false) same q)) in
    (ih.0, ap₂ (λ c cs. c ∷ cs) same ih.1)

-- a text that is begun by one not below it is that one
begins_back : (z rest : List ℕ) → Upto (z ++ rest) z → Begins (z ++ rest) z
begins_back [] [] p = ([], refl)
begins_back [] (r ∷ rest) p = absurd (true≢false p)
begins_back (a ∷ z) rest p = let ih = begins_back z rest (rest_upto a (slice_cmp nat_cmp z (z ++ rest)) p) in (ih.0, ap (λ cs. a ∷ cs) ih.1)

overlap_between : (x y z : List ℕ) → Upto x y → Upto y z → Upto x z → overlap x z ≡ true → overlap x y ≡ true
overlap_between x y z p q r h =
    let forth : Begins x z → Begins x y = λ (b : Begins x z). begins_between x b.0 y p (subst (Upto y) b.1 q) in
    let back : Begins z x → Begins x z =
    λ (b : Begins z x). subst (λ w. Begins w z) (sym b.1) (begins_back z b.0 (subst (λ w. Upto w z) b.1 r)) in
    (Decides-overlap x y).1 (inl (⊎_elim forth (λ b. forth (back b)) ((Decides-overlap x z).0 h)))

module _ (xs : List (List ℕ)) (sorted : IsSorted (slice_cmp nat_cmp) xs) where
  upto : (i j : ℕ) (d : List ℕ) → i ≤ j → j < length xs → Upto (get_or xs i d) (get_or xs j d)
  upto i j d before within = sorted_far _ (ranks_by nat_list_cmp_total (λ x. x)) xs sorted i j d before within

  pub none_if_no_neighbours : AllAdjacentBelow (λ p q. overlap p q ≡ false) xs (length xs) → NoneOverlap xs
  none_if_no_neighbours apart i j d before within =
      false_from_ne_true _ (λ h. both_ways _ (apart i d (omega (arith, before, within)))
      (overlap_between (get_or xs i d) (get_or xs (i + 1) d) (get_or xs j d)
      (upto i (i + 1) d (omega arith) (omega (arith, before, within))) (upto (i + 1) j d (omega (arith, before)) within)
      (upto i j d (omega (arith, before)) within) h))

-- whether some two overlap does not hang on the order
abbrev Unlike : List (List ℕ) → Type 0
Unlike xs = (i j : ℕ) (d : List ℕ) → i < length xs → j < length xs → (i ≡ j → ⊥) → overlap (get_or xs i d) (get_or xs j d) ≡ false

turned : (x y : List ℕ) → overlap x y ≡ overlap y x
turned x y = or_comm (begins x y) (begins y x)

unlike : (xs : List (List ℕ)) → NoneOverlap xs → Unlike xs
unlike xs none i j d first second differ =
    ⊎_elim (λ before. none i j d before second) (λ after. turned (get_or xs i d) (get_or xs j d)
    ∙ none j i d (omega (arith, after, differ)) first) (cases_lt i j)

-- of an exchange of two places: what stands at k stood at m
abbrev From : ℕ → ℕ → ℕ → ℕ → Type 0
From a b k m = ((k ≡ a) × (m ≡ b)) ⊎ (((k ≡ b) × (m ≡ a)) ⊎ ((k ≡ a → ⊥) × (k ≡ b → ⊥) × (m ≡ k)))

from_one : (a b k l m : ℕ) → From a b k m → From a b l m → k ≡ l
from_one a b k l m (inl f) (inl g) = f.0 ∙ sym g.0
from_one a b k l m (inl f) (inr (inl g)) = f.0 ∙ sym g.1 ∙ f.1 ∙ sym g.0
from_one a b k l m (inl f) (inr (inr g)) = absurd (g.1 (sym g.2 ∙ f.1))
from_one a b k l m (inr (inl f)) (inl g) = f.0 ∙ sym g.1 ∙ f.1 ∙ sym g.0
from_one a b k l m (inr (inl f)) (inr (inl g)) = f.0 ∙ sym g.0
from_one a b k l m (inr (inl f)) (inr (inr g)) = absurd (g.0 (sym g.2 ∙ f.1))
from_one a b k l m (inr (inr f)) (inl g) = absurd (f.1 (sym f.2 ∙ g.1))
from_one a b k l m (inr (inr f)) (inr (inl g)) = absurd (f.0 (sym f.2 ∙ g.1))
from_one a b k l m (inr (inr f)) (inr (inr g)) = sym f.2 ∙ g.2

stood_within : (a b k m n : ℕ) → a < n → b < n → k < n → From a b k m → m < n
stood_within a b k m n p q h (inl f) = omega (arith, q, f.1)
stood_within a b k m n p q h (inr (inl f)) = omega (arith, p, f.1)
stood_within a b k m n p q h (inr (inr f)) = omega (arith, h, f.2)

module _ (e : List ℕ) (rest : List (List ℕ)) (a b : ℕ) (p : a < length (e ∷ rest)) (q : b < length (e ∷ rest)) where
  abbrev once_set : List (List ℕ)
  once_set = set (e ∷ rest) a (get_or (e ∷ rest) b e)

  long : length (swap (e ∷ rest) a b) ≡ length (e ∷ rest)
  long = length-set once_set b (get_or (e ∷ rest) a e) ∙ length-set (e ∷ rest) a (get_or (e ∷ rest) b e)

  stood : (k : ℕ) (d : List ℕ) → (m : ℕ) × From a b k m × (get_or (swap (e ∷ rest) a b) k d ≡ get_or (e ∷ rest) m d)
  stood k d =
      let xs = e ∷ rest in
      let within : b < length once_set = omega (arith, q, length-set xs a (get_or xs b e)) in
      ⊎_elim (λ at_b. (
        a,
        inr (inl (at_b, refl)),
        ap (λ n. get_or (swap xs a b) n d) at_b
            ∙ get_or-set_same once_set b (get_or xs a e) d within ∙ get_or_default xs a e d p,
      ))
      (λ not_b. ⊎_elim (λ at_a. (
        b,
        inl (at_a, refl),
        get_or-set_other once_set b k (get_or xs a e) d not_b
            ∙ ap (λ n. get_or once_set n d) at_a ∙ get_or-set_same xs a (get_or xs b e) d p ∙ get_or_default xs b e d q,
      ))
      (λ not_a. (
        k,
        inr (inr (not_a, not_b, refl)),
        get_or-set_other once_set b k (get_or xs a e) d not_b
            ∙ get_or-set_other xs a k (get_or xs b e) d not_a,
      )) (cases_eq k a)) (cases_eq k b)

unlike_swapped : (xs : List (List ℕ)) (a b : ℕ) → a < length xs → b < length xs → Unlike xs → Unlike (swap xs a b)
unlike_swapped [] a b p q h i j d first second differ = absurd (omega (arith, p))
unlike_swapped (e ∷ rest) a b p q h i j d first second differ =
    let one = stood e rest a b p q i d in
    let other = stood e rest a b p q j d in
    let long = long e rest a b p q in
    ap₂ overlap one.2 other.2
    ∙ h one.0 other.0 d (stood_within a b i one.0 (length (e ∷ rest)) p q (omega (arith, long, first)) one.1)
    (stood_within a b j other.0 (length (e ∷ rest)) p q (omega (arith, long, second)) other.1)
    (λ same. differ (from_one a b i j one.0 one.1 (subst (From a b j) (sym same) other.1)))

pub none_in_order : (xs ys : List (List ℕ)) → IsPermutation xs ys → NoneOverlap xs → NoneOverlap ys
none_in_order xs ys same none =
    let kept = IsPermutation-keeps xs Unlike (unlike xs none) unlike_swapped ys same in
    λ i j d before within. kept i j d (omega (arith, before, within)) within (λ e. omega (arith, before, e))

pub neighbours_if_none : (xs : List (List ℕ)) → NoneOverlap xs → AllAdjacentBelow (λ p q. overlap p q ≡ false) xs (length xs)
neighbours_if_none xs none k d within = none k (k + 1) d (omega arith) within
