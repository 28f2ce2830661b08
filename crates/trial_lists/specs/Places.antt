-- Defines the place of a row relative to what is searched for: below it, at it or above it.
use Rattle.std.proofs.Common.{◌≡◌, ℕ, true, false, ◌==◌, cond, refl, sym, ap, ap₂, ◌∙◌}
use Rattle.std.specs.Prelude.{nat_lt}
use Rattle.std.specs.Cmp.{IsTotalOrder}
use Rattle.std.specs.Ordering.{nat_cmp, ordering_then, ordering_reverse, is_eq, is_gt}
use Rattle.std.specs.declared.cmp.Ordering.{Ordering}
use Rattle.std.specs.declared.cmp.Ordering.TheVariants.{Less, Equal, Greater}
use Rattle.std.proofs.lemmas.Bool.{both_ways}
use Rattle.std.proofs.lemmas.Cmp.{alike_right, nat_cmp_total}
use Rattle.trial_rows.specs.Search.{may_precede, KeepsPlaces}

-- `Equal` if the first compares as less, else `Less`
abbrev pub at_less : Ordering → Ordering
at_less Less = Equal
at_less Equal = Less
at_less Greater = Less

-- `Equal` for each number above this one, `Less` for the others
abbrev pub above : ℕ → ℕ → Ordering
above number n = at_less (nat_cmp number n)

pub is_above : (number n : ℕ) → is_eq (above number n) ≡ nat_lt number n
is_above number n =
    elim (nat_lt number n) as (λ v. is_eq (at_less (cond v Less (cond (number == n) Equal Greater))) ≡ v) [
      | true ↦ refl
      | false ↦ elim (number == n) as (λ v. is_eq (at_less (cond v Equal Greater)) ≡ false) [
        | true ↦ refl
        | false ↦ refl
      ]
    ]

-- Sorted rows keep the order of their places.

precedes_greater : (o : Ordering) → may_precede o Greater ≡ true
precedes_greater Less = refl
precedes_greater Equal = refl
precedes_greater Greater = refl

precedes_itself : (o : Ordering) → may_precede o o ≡ true
precedes_itself Less = refl
precedes_itself Equal = refl
precedes_itself Greater = refl

not_above : (a b : Ordering) → is_gt (ordering_then a b) ≡ false → is_gt a ≡ false
not_above Less b h = refl
not_above Equal b h = refl
not_above Greater b h = h

-- comparing with the first part of a key keeps places
pub first_part : {X : Type 0} (c d : X → X → Ordering) (p : X → Ordering) → KeepsPlaces c p
    → KeepsPlaces (λ x y. ordering_then (c x y) (d x y)) p
first_part c d p keeps x y h = keeps x y (not_above (c x y) (d x y) h)

reversed : (o p : Ordering) → may_precede o p ≡ true
    → may_precede (at_less (ordering_reverse o)) (at_less (ordering_reverse p)) ≡ true
reversed Less p h = refl
reversed Equal p h = refl
reversed Greater Less h = h
reversed Greater Equal h = h
reversed Greater Greater h = refl

module _ {X K : Type 0} {cmp : K → K → Ordering} (total : IsTotalOrder cmp) (key : X → K) (k : K) where
  strictly : (x y : X) → cmp (key x) (key y) ≡ Less → (p : Ordering) → (o : Ordering) → cmp (key y) k ≡ o
      → (q : Ordering) → may_precede (ordering_then (cmp (key x) k) p) (ordering_then o q) ≡ true
  strictly x y less p Less e q = ap (λ a. may_precede (ordering_then a p) Less) (total.trans (key x) (key y) k less e)
  strictly x y less p Equal e q =
      ap (λ a. may_precede (ordering_then a p) q) (sym (alike_right total (key y) k (key x) e) ∙ less)
  strictly x y less p Greater e q = precedes_greater (ordering_then (cmp (key x) k) p)

  alike : (o p q : Ordering) → may_precede p q ≡ true → may_precede (ordering_then o p) (ordering_then o q) ≡ true
  alike Less p q h = refl
  alike Equal p q h = h
  alike Greater p q h = refl

  -- comparing with a key keeps places
  pub by_key : KeepsPlaces (λ x y. cmp (key x) (key y)) (λ x. cmp (key x) k)
  by_key x y h =
      elim (cmp (key x) (key y)) as (λ o. cmp (key x) (key y) ≡ o → is_gt o ≡ false
      → may_precede (cmp (key x) k) (cmp (key y) k) ≡ true) [
        | Less ↦ λ e _. at e (cmp (key y) k) refl
        | Equal ↦ λ e _. ap (λ o. may_precede o (cmp (key y) k)) (total.congr (key x) (key y) k e) ∙ precedes_itself
            (cmp (key y) k)
        | Greater ↦ λ e g. absurd (both_ways true g refl)
      ] refl h
    where
      at : cmp (key x) (key y) ≡ Less → (o : Ordering) → cmp (key y) k ≡ o → may_precede (cmp (key x) k) o ≡ true
      at less Less e = ap (λ a. may_precede a Less) (total.trans (key x) (key y) k less e)
      at less Equal e = ap (λ a. may_precede a Equal) (sym (alike_right total (key y) k (key x) e) ∙ less)
      at less Greater e = precedes_greater (cmp (key x) k)

  -- comparing with the first part of a key, and then with the rest, keeps places
  pub then_part : (d : X → X → Ordering) (p : X → Ordering) → KeepsPlaces d p
      → KeepsPlaces (λ x y. ordering_then (cmp (key x) (key y)) (d x y)) (λ x. ordering_then (cmp (key x) k) (p x))
  then_part d p keeps x y h =
      elim (cmp (key x) (key y)) as (λ o. cmp (key x) (key y) ≡ o → is_gt (ordering_then o (d x y)) ≡ false
      → may_precede (ordering_then (cmp (key x) k) (p x)) (ordering_then (cmp (key y) k) (p y)) ≡ true) [
        | Less ↦ λ e _. strictly x y e (p x) (cmp (key y) k) refl (p y)
        | Equal ↦ λ e g. ap (λ o. may_precede (ordering_then o (p x)) (ordering_then (cmp (key y) k) (p y)))
            (total.congr (key x) (key y) k e) ∙ alike (cmp (key y) k) (p x) (p y) (keeps x y g)
        | Greater ↦ λ e g. absurd (both_ways true g refl)
      ] refl h

-- being above a number keeps places
pub above_kept : {X : Type 0} (key : X → ℕ) (number : ℕ)
    → KeepsPlaces (λ x y. nat_cmp (key x) (key y)) (λ x. above number (key x))
above_kept key number x y h =
    ap₂ (λ o p. may_precede (at_less o) (at_less p)) (nat_cmp_total.antisymm number (key x))
    (nat_cmp_total.antisymm number (key y))
    ∙ reversed (nat_cmp (key x) number) (nat_cmp (key y) number) (by_key nat_cmp_total key number x y h)
