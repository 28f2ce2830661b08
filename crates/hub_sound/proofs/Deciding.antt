-- What rows that pass and rows that fail say of lists.
use Rattle.std.proofs.Common.{◌≡◌, ℕ, ◌==◌, Bool, true, false, ◌||◌, cond, inl, inr, List, []}
use Rattle.std.proofs.Common.{◌∷◌, filter, refl, sym, ◌∙◌, ap, ap₂, arith}
use Rattle.std.specs.List.{AllByRecursion, list_all, list_any}
use Rattle.std.specs.Ordering.{nat_cmp, is_eq, ordering_then}
use Rattle.std.specs.declared.cmp.Ordering.{Ordering}
use Rattle.std.specs.declared.cmp.Ordering.TheVariants.{Less, Equal, Greater}
use Rattle.std.proofs.lemmas.Bool.{and_parts, and_from}
use Rattle.std.proofs.lemmas.Bool.Decides.{nat_tests}
use Rattle.std.proofs.lemmas.Map.Text.{is_eq-slice_cmp}
use Rattle.hub_parties.specs.KeyOrder.{bytes_cmp, Rises}
use Rattle.hub_tables.specs.Rows.{same}
use Rattle.hub_tables.specs.Sets.{Has}
use Rattle.hub_tables.proofs.Lists.{decide, same_is, same_if, all_weaker, all_passes}
use Rattle.hub_tables.proofs.Members.{all_of}
use Rattle.hub_rules.specs.Sound.{Single}

pub all_true : {X : Type 0} (p : X → Bool) (xs : List X) → list_all p xs ≡ true → AllByRecursion (λ x. p x ≡ true) xs
all_true p [] h = tt
all_true p (x ∷ xs) h = let parts = and_parts (p x) (list_all p xs) h in (parts.0, all_true p xs parts.1)

pub true_all : {X : Type 0} (p : X → Bool) (xs : List X) → AllByRecursion (λ x. p x ≡ true) xs → list_all p xs ≡ true
true_all p [] h = refl
true_all p (x ∷ xs) h = and_from (p x) (list_all p xs) h.0 (true_all p xs h.1)

-- what follows of each that passes
pub all_then : {X : Type 0} (p : X → Bool) (P : X → Type 0) → ((x : X) → p x ≡ true → P x) → (xs : List X)
    → list_all p xs ≡ true
    → AllByRecursion P xs
all_then p P f xs h = all_weaker (λ x. p x ≡ true) P f xs (all_true p xs h)

true_false : (b : Bool) → b ≡ true → b ≡ false → ⊥
true_false b holds fails = let both : true ≡ false = sym holds ∙ fails in cc

pub not_all : {X : Type 0} (p : X → Bool) (xs : List X) (x : X) → Has xs x → p x ≡ false → list_all p xs ≡ false
not_all p xs x there fails =
    elim (decide (list_all p xs)) [
      | inl e ↦ absurd (true_false (p x) (all_of (λ x. p x ≡ true) xs (all_true p xs e) x there) fails)
      | inr e ↦ e
    ]

-- a row that fails a test that all pass
pub all_but : {X : Type 0} (p : X → Bool) (xs : List X) (x : X) → AllByRecursion (λ x. p x ≡ true) xs → Has xs x → p x ≡ false → ⊥
all_but p xs x all there fails = true_false (p x) (all_of (λ x. p x ≡ true) xs all x there) fails

pub from_filter : {X : Type 0} (p : X → Bool) (xs : List X) (x : X) → Has (filter p xs) x → Has xs x
from_filter p [] x there = there
from_filter p (y ∷ ys) x there =
    elim (p y) as (λ v. Has (cond v (y ∷ filter p ys) (filter p ys)) x → Has (y ∷ ys) x) [
      | true ↦ λ h. elim h [ inl e ↦ inl e | inr later ↦ inr (from_filter p ys x later) ]
      | false ↦ λ h. inr (from_filter p ys x h)
    ] there

-- rows that are picked by a text have it
pub picked : {X : Type 0} (text : List ℕ) (part : X → List ℕ) (rows : List X)
    → AllByRecursion (λ row. part row ≡ text) (filter (λ row. same (part row) text) rows)
picked text part rows =
    all_weaker (λ row. same (part row) text ≡ true) (λ row. part row ≡ text) (λ row e. same_is (part row) text e)
    (filter (λ row. same (part row) text) rows) (all_passes (λ row. same (part row) text) rows)

pub all_both : {X : Type 0} (P Q R : X → Type 0) → ((x : X) → P x → Q x → R x) → (xs : List X) → AllByRecursion P xs
    → AllByRecursion Q xs
    → AllByRecursion R xs
all_both P Q R f [] a b = tt
all_both P Q R f (x ∷ xs) a b = (f x a.0 b.0, all_both P Q R f xs a.1 b.1)

-- Keys that tie.

pub then_tied : (o p : Ordering) → is_eq o ≡ true → is_eq p ≡ true → is_eq (ordering_then o p) ≡ true
then_tied Less p h g = cc
then_tied Equal p h g = g
then_tied Greater p h g = cc

pub text_tied : (a b : List ℕ) → a ≡ b → is_eq (bytes_cmp a b) ≡ true
text_tied a b e = is_eq-slice_cmp a b ∙ same_if a b e

pub number_tied : (a b : ℕ) → (a == b) ≡ true → is_eq (nat_cmp a b) ≡ true
number_tied a b h = grind (arith, nat_tests)

pub not_tied : (o : Ordering) → o ≡ Less → is_eq o ≡ true → ⊥
not_tied Less less tied = cc
not_tied Equal less tied = cc
not_tied Greater less tied = cc

pub not_alike : (o : Ordering) (b : Bool) → o ≡ Less → (b ≡ true → is_eq o ≡ true) → b ≡ false
not_alike o b less f = elim (decide b) [ inl e ↦ absurd (not_tied o less (f e)) | inr e ↦ e ]

-- no two rows are alike that rise, where those that are alike tie
module _ {X : Type 0} (cmp : X → X → Ordering) (alike : X → X → Bool) (P : X → Type 0)
    (tied : (x y : X) → P x → P y → alike x y ≡ true → is_eq (cmp x y) ≡ true) where
  pub single_rising : (xs : List X) → AllByRecursion P xs → Rises cmp xs → Single alike xs
  single_rising [] all rises = tt
  single_rising (x ∷ xs) all rises = (none xs all.1 rises.0, single_rising xs all.1 rises.1)
    where
      none : (ys : List X) → AllByRecursion P ys → AllByRecursion (λ y. cmp x y ≡ Less) ys → list_any (alike x) ys ≡ false
      none [] a b = refl
      none (y ∷ ys) a b =
          ap₂ (λ v w. v || w) (not_alike (cmp x y) (alike x y) b.0 (tied x y all.0 a.0)) (none ys a.1 b.1)

-- two members of rows that rise are one where they tie
pub one_member : {X : Type 0} (cmp : X → X → Ordering) (xs : List X) → Rises cmp xs → (p q : X) → Has xs p → Has xs q
    → is_eq (cmp p q) ≡ true → is_eq (cmp q p) ≡ true
    → p ≡ q
one_member cmp [] rises p q a b e f = absurd a
one_member cmp (x ∷ xs) rises p q a b e f =
    elim a [
      | inl px ↦ elim b [
        | inl qx ↦ px ∙ sym qx
        | inr later ↦ absurd (not_tied (cmp p q) (ap (λ v. cmp v q) px ∙ all_of (λ y. cmp x y ≡ Less) xs rises.0 q later) e)
      ]
      | inr first ↦ elim b [
        | inl qx ↦ absurd (not_tied (cmp q p) (ap (λ v. cmp v p) qx ∙ all_of (λ y. cmp x y ≡ Less) xs rises.0 p first) f)
        | inr later ↦ one_member cmp xs rises.1 p q first later e f
      ]
    ]
