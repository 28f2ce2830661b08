-- Proves that the named orders are looked up one after another.
use Rattle.std.proofs.Common.{◌≡◌, ◌⊎◌, ℕ, Bool, true, false, cond, ◌||◌, inl, inr, List, [], ◌∷◌, filter, refl, sym, ap, ◌∙◌}
use Rattle.std.specs.List.{list_any}
use Rattle.std.proofs.Math.Bool.{or-true}
use Rattle.edi_base.specs.Seen.{is_among}
use Rattle.hub_tables.specs.Rows.{same}
use Rattle.hub_tables.specs.Tables.{Tables, view, has_pallet}
use Rattle.hub_tables.proofs.Lists.{decide, same_is, same_if}

-- the first of some numbers, or a later one
pub first_or_later : (order number : List ℕ) (numbers : List (List ℕ))
    → is_among order (number ∷ numbers) ≡ true
    → (order ≡ number) ⊎ (is_among order numbers ≡ true)
first_or_later order number numbers among =
    elim (decide (same order number)) [
      | inl its ↦ inl (same_is order number its)
      | inr other ↦ inr (sym (ap (λ v. v || is_among order numbers) other) ∙ among)
    ]

pub first_among : (number : List ℕ) (numbers : List (List ℕ)) → is_among number (number ∷ numbers) ≡ true
first_among number numbers = ap (λ v. v || is_among number numbers) (same_if number number refl)

pub later_among : (order number : List ℕ) (numbers : List (List ℕ))
    → is_among order numbers ≡ true
    → is_among order (number ∷ numbers) ≡ true
later_among order number numbers among = ap (λ v. same order number || v) among ∙ or-true (same order number)

-- a pallet that a supplier sees exists
any_of_kept : {X : Type 0} (p test : X → Bool) (xs : List X) → list_any p (filter test xs) ≡ true → list_any p xs ≡ true
any_of_kept p test [] h = h
any_of_kept p test (x ∷ xs) h =
    elim (test x) as (λ v. list_any p (cond v (x ∷ filter test xs) (filter test xs)) ≡ true → (p x || list_any p xs) ≡ true) [
      | true ↦ λ g. elim (p x) as (λ v. (v || list_any p (filter test xs)) ≡ true → (v || list_any p xs) ≡ true)
          [ true ↦ λ f. refl | false ↦ λ f. any_of_kept p test xs f ] g
      | false ↦ λ g. elim (p x) as (λ v. (v || list_any p xs) ≡ true) [ true ↦ refl | false ↦ any_of_kept p test xs g ]
    ] h

pub seen_is_there : (supplier : List ℕ) (t : Tables) (sscc : List ℕ) → has_pallet (view supplier t) sscc ≡ true → has_pallet t sscc ≡ true
seen_is_there supplier t sscc h = any_of_kept (λ pallet. same pallet.sscc sscc) (λ row. same row.supplier supplier) t.pallets h
