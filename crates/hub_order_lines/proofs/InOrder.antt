-- Finds the first element of a sorted list that is not below a key.
use Rattle.std.proofs.Common.{◌≡◌, ℕ, zero, suc, ◌+◌, ◌≤◌, Bool, true, false, cond, List, [], ◌∷◌, length, get_or}
use Rattle.std.proofs.Common.{slice_get, map, find, Some, None, refl, sym, ap, ◌∙◌, arith}
use Rattle.std.specs.List.{AllByRecursion, prefix_len}
use Rattle.std.specs.List.Sorted.{IsPartitionedBy, IsPartitionPoint}
use Rattle.std.specs.declared.cmp.Ordering.{Ordering}
use Rattle.std.specs.declared.cmp.Ordering.TheVariants.{Less, Equal, Greater}
use Rattle.std.specs.Ordering.{is_lt, is_eq, is_gt}
use Rattle.std.specs.Cmp.{IsTotalOrder, Equal-is}
use Rattle.std.proofs.lemmas.Cmp.{alike_right}
use Rattle.std.proofs.lemmas.List.Elements.{All-from_recursion, All-get_or}
use Rattle.std.proofs.lemmas.List.Sums.{prefix_len_is}
use Rattle.std.proofs.lemmas.Map.Entries.{option_filter}
use Rattle.hub_parties.specs.KeyOrder.{InOrder}
use Rattle.hub_tables.proofs.Lists.{all_weaker}

pub find_none : {X : Type 0} (p : X → Bool) (xs : List X) → AllByRecursion (λ x. p x ≡ false) xs → find p xs ≡ None
find_none p [] all = refl
find_none p (x ∷ xs) all = ap (λ v. cond v (Some x) (find p xs)) all.0 ∙ find_none p xs all.1

pub prefix_len-map : {X K : Type 0} (p : K → Bool) (key : X → K) (xs : List X) → prefix_len (λ x. p (key x)) xs ≡ prefix_len p (map key xs)
prefix_len-map p key [] = refl
prefix_len-map p key (x ∷ xs) = ap (λ n. cond (p (key x)) (1 + n) 0) (prefix_len-map p key xs)

-- a partition point is the number of elements that pass
pub from_point : {X : Type 0} (p : X → Bool) (xs : List X) (n : ℕ)
    → n ≤ length xs
    → IsPartitionPoint (λ x. p x ≡ true) (λ x. p x ≡ false) xs n
    → n ≡ prefix_len p xs
from_point p [] n bound point = omega arith
from_point p (x ∷ xs) n bound point =
    sym (prefix_len_is p (x ∷ xs) n x bound (λ k l. point.0 k x (omega arith) l) (λ l. point.1 n x (omega arith) l))

pub less_is : (o : Ordering) → is_lt o ≡ true → o ≡ Less
less_is Less h = refl
less_is Equal h = cc
less_is Greater h = cc

module _ {X K : Type 0} {cmp : K → K → Ordering} (total : IsTotalOrder cmp) (key : X → K) (t : K) where
  -- what is not above an element below the key is below the key
  down : (x y : K) → is_gt (cmp x y) ≡ false → is_lt (cmp y t) ≡ true → is_lt (cmp x t) ≡ true
  down x y h l =
      elim (cmp x y) as (λ o. cmp x y ≡ o → is_lt (cmp x t) ≡ true) [
        | Less ↦ λ e. ap is_lt (total.trans x y t e (less_is (cmp y t) l))
        | Equal ↦ λ e. ap is_lt (total.congr x y t e) ∙ l
        | Greater ↦ λ e. absurd (cc (ap is_gt e))
      ] refl

  -- what comes after an element above the key does not have the key
  past : (x y : K) → is_gt (cmp x y) ≡ false → cmp x t ≡ Greater → is_eq (cmp y t) ≡ false
  past x y h g =
      elim (is_eq (cmp y t)) as (λ v. is_eq (cmp y t) ≡ v → v ≡ false) [
        | true ↦ λ e. let same : cmp x y ≡ cmp x t = alike_right total y t x ((Equal-is (cmp y t)).0 e) in absurd (cc (ap is_gt (same ∙ g)))
        | false ↦ λ e. refl
      ] refl

  pub parted : (xs : List X) → InOrder (λ a b. cmp (key a) (key b)) xs → IsPartitionedBy (λ x. is_lt (cmp (key x) t)) xs
  parted [] o i j d le lt h = absurd (omega arith)
  parted (x ∷ xs) o zero zero d le lt h = h
  parted (x ∷ xs) o zero (suc j) d le lt h =
      down (key x) (key (get_or xs j d)) (All-get_or (λ y. is_gt (cmp (key x) (key y)) ≡ false) xs j d (omega arith)
      (All-from_recursion (λ y. is_gt (cmp (key x) (key y)) ≡ false) xs o.0)) h
  parted (x ∷ xs) o (suc i) zero d le lt h = absurd (omega arith)
  parted (x ∷ xs) o (suc i) (suc j) d le lt h = parted xs o.1 i j d (omega arith) (omega arith) h

  -- the first element with the key comes right after all that are below it, or there is none
  pub first_at : (below : K → Bool) → ((k : K) → below k ≡ is_lt (cmp k t)) → (xs : List X) → InOrder (λ a b. cmp (key a) (key b)) xs
      → find (λ x. is_eq (cmp (key x) t)) xs ≡ option_filter (λ x. is_eq (cmp (key x) t)) (slice_get xs (prefix_len below (map key xs)))
  first_at below is [] o = refl
  first_at below is (x ∷ xs) o =
      let at : X → Bool = λ x. is_eq (cmp (key x) t) in
      let rest = prefix_len below (map key xs) in
      let more : 1 + rest ≡ suc rest = omega arith in
      elim (cmp (key x) t) as (λ r. cmp (key x) t ≡ r
      → cond (at x) (Some x) (find at xs) ≡ option_filter at (slice_get (x ∷ xs) (cond (below (key x)) (1 + rest) 0))) [
        | Less ↦ λ e. ap (λ v. cond v (Some x) (find at xs)) (ap is_eq e)
            ∙ first_at below is xs o.1
            ∙ ap (λ n. option_filter at (slice_get (x ∷ xs) n))
            (sym (ap (λ v. cond v (1 + rest) 0) (is (key x) ∙ ap is_lt e) ∙ more))
        | Equal ↦ λ e. ap (λ v. cond v (Some x) (find at xs)) (ap is_eq e)
            ∙ sym (ap (λ v. option_filter at (slice_get (x ∷ xs) (cond v (1 + rest) 0))) (is (key x) ∙ ap is_lt e)
            ∙ ap (λ v. cond v (Some x) None) (ap is_eq e))
        | Greater ↦ λ e.
            ap (λ v. cond v (Some x) (find at xs)) (ap is_eq e)
            ∙ find_none at xs
            (all_weaker (λ y. is_gt (cmp (key x) (key y)) ≡ false) (λ y. at y ≡ false) (λ y h. past (key x) (key y) h e)
            xs o.0)
            ∙ sym (ap (λ v. option_filter at (slice_get (x ∷ xs) (cond v (1 + rest) 0))) (is (key x) ∙ ap is_lt e)
            ∙ ap (λ v. cond v (Some x) None) (ap is_eq e))
      ] refl
