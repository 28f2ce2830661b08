-- Shows what remains after two tests.
use Rattle.std.proofs.Common.{◌≡◌, Bool, true, not, inl, inr, List, [], ◌∷◌, filter, refl, arith}
use Rattle.hub_tables.proofs.Lists.{decide}

pub filter_again : {X : Type 0} (p q : X → Bool) (xs : List X) → ((x : X) → p x ≡ true → q x ≡ true) → filter p (filter q xs) ≡ filter p xs
filter_again p q [] f = refl
filter_again p q (x ∷ xs) f =
    let ih = filter_again p q xs f in
    elim (decide (p x)) [
      | inl a ↦ let b : q x ≡ true = f x a in grind (arith, a, b, ih)
      | inr a ↦ elim (decide (q x)) [ inl b ↦ grind (arith, a, b, ih) | inr b ↦ grind (arith, a, b, ih) ]
    ]

pub filter_swap : {X : Type 0} (p q : X → Bool) (xs : List X) → filter p (filter q xs) ≡ filter q (filter p xs)
filter_swap p q [] = refl
filter_swap p q (x ∷ xs) =
    let rest = filter_swap p q xs in
    elim (decide (p x)) [
      | inl e ↦ elim (decide (q x)) [ inl f ↦ grind (arith, e, f, rest) | inr f ↦ grind (arith, e, f, rest) ]
      | inr e ↦ elim (decide (q x)) [ inl f ↦ grind (arith, e, f, rest) | inr f ↦ grind (arith, e, f, rest) ]
    ]

-- nothing passes a test and its opposite
pub filter_opposite : {X : Type 0} (p : X → Bool) (xs : List X) → filter p (filter (λ x. not (p x)) xs) ≡ []
filter_opposite p [] = refl
filter_opposite p (x ∷ xs) =
    let rest = filter_opposite p xs in
    elim (decide (p x)) [ inl e ↦ grind (arith, e, rest) | inr e ↦ grind (arith, e, rest) ]
