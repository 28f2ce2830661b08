-- Provides lemmas about the members of a list.
use Rattle.std.proofs.Common.{◌≡◌, Bool, true, false, cond, ◌||◌, inl, inr, List, [], ◌∷◌, filter, map, refl, sym, ◌∙◌, ap, ap₂, subst}
use Rattle.std.specs.List.{AllByRecursion, list_any}
use Rattle.std.specs.Ordering.{is_gt}
use Rattle.std.specs.declared.cmp.Ordering.{Ordering}
use Rattle.std.proofs.lemmas.Bool.{or_parts, or_right}
use Rattle.hub_parties.specs.KeyOrder.{put}
use Rattle.hub_tables.specs.Sets.{Has}

pub all_of : {X : Type 0} (P : X → Type 0) (xs : List X) → AllByRecursion P xs → (x : X) → Has xs x → P x
all_of P [] all x there = absurd there
all_of P (y ∷ ys) all x there = elim there [ inl e ↦ subst P (sym e) all.0 | inr later ↦ all_of P ys all.1 x later ]

pub all_if : {X : Type 0} (P : X → Type 0) (xs : List X) → ((x : X) → Has xs x → P x) → AllByRecursion P xs
all_if P [] f = tt
all_if P (x ∷ xs) f = (f x (inl refl), all_if P xs (λ y there. f y (inr there)))

pub none_of : {X : Type 0} (p : X → Bool) (xs : List X) → list_any p xs ≡ false → (x : X) → Has xs x → p x ≡ false
none_of p [] none x there = absurd there
none_of p (y ∷ ys) none x there =
    let parts = or_parts (p y) (list_any p ys) none in
    elim there [ inl e ↦ ap p e ∙ parts.0 | inr later ↦ none_of p ys parts.1 x later ]

pub none_if : {X : Type 0} (p : X → Bool) (xs : List X) → ((x : X) → Has xs x → p x ≡ false) → list_any p xs ≡ false
none_if p [] f = refl
none_if p (x ∷ xs) f = ap₂ (λ v w. v || w) (f x (inl refl)) (none_if p xs (λ y there. f y (inr there)))

-- an element that passes
pub one_of : {X : Type 0} (p : X → Bool) (xs : List X) → list_any p xs ≡ true → (x : X) × Has xs x × (p x ≡ true)
one_of p [] h = cc
one_of {X} p (y ∷ ys) h =
    elim (p y) as (λ v. p y ≡ v → (v || list_any p ys) ≡ true → (x : X) × Has (y ∷ ys) x × (p x ≡ true)) [
      | true ↦ λ e _. (y, inl refl, e)
      | false ↦ λ e later. let found = one_of p ys later in (found.0, inr found.1, found.2)
    ] refl h

pub any_if : {X : Type 0} (p : X → Bool) (xs : List X) (x : X) → Has xs x → p x ≡ true → list_any p xs ≡ true
any_if p [] x there h = absurd there
any_if p (y ∷ ys) x there h =
    elim there [
      | inl e ↦ ap (λ v. v || list_any p ys) (ap p (sym e) ∙ h)
      | inr later ↦ or_right (p y) (list_any p ys) (any_if p ys x later h)
    ]

pub has_map : {X Y : Type 0} (f : X → Y) (xs : List X) (x : X) → Has xs x → Has (map f xs) (f x)
has_map f [] x there = there
has_map f (y ∷ ys) x there = elim there [ inl e ↦ inl (ap f e) | inr later ↦ inr (has_map f ys x later) ]

pub has_put : {X : Type 0} (cmp : X → X → Ordering) (xs : List X) (x y : X) → Has (x ∷ xs) y → Has (put cmp x xs) y
has_put cmp [] x y there = there
has_put cmp (z ∷ zs) x y there =
    elim (is_gt (cmp z x)) as (λ v. Has (cond v (x ∷ z ∷ zs) (z ∷ put cmp x zs)) y) [
      | true ↦ there
      | false ↦ elim there [
        | inl e ↦ inr (has_put cmp zs x y (inl e))
        | inr later ↦ elim later [ inl e ↦ inl e | inr further ↦ inr (has_put cmp zs x y (inr further)) ]
      ]
    ]

pub has_filter : {X : Type 0} (p : X → Bool) (xs : List X) (x : X) → Has xs x → p x ≡ true → Has (filter p xs) x
has_filter p [] x there h = there
has_filter p (y ∷ ys) x there h =
    elim (p y) as (λ v. p y ≡ v → Has (cond v (y ∷ filter p ys) (filter p ys)) x) [
      | true ↦ λ e. elim there [ inl one ↦ inl one | inr later ↦ inr (has_filter p ys x later h) ]
      | false ↦ λ e. elim there [
        | inl one ↦ let both : p x ≡ p y = ap p one in absurd (cc)
        | inr later ↦ has_filter p ys x later h
      ]
    ] refl
