-- Shows how many rows an UPDATE by a key found, and whether a row has that key.
use Rattle.std.proofs.Common.{inl, inr, arith, ◌≡◌, ◌==◌, ◌||◌, ℕ, Bool, true, false, not, List, [], ◌∷◌, map, filter, length}
use Rattle.std.proofs.Common.{if◌then◌else◌, refl, sym, ap, ◌∙◌}
use Rattle.std.specs.List.{AllByRecursion, list_any}
use Rattle.std.specs.declared.cmp.Ordering.{Ordering}
use Rattle.std.proofs.lemmas.Bool.Decides.{nat_tests}
use Rattle.sqlite_value.specs.Order.{Row}
use Rattle.hub_tables.proofs.Lists.{decide}
use Rattle.hub_schema.specs.Rows.{in_key_order}
use Rattle.hub_schema.proofs.InKeyOrder.{listed_any}

some : (r : Row) (rows : List Row) → true ≡ not (length (r ∷ rows) == 0)
some r rows = elim (decide (length (r ∷ rows) == 0)) [
  | inl e ↦ absurd (let none : length (r ∷ rows) ≡ 0 = grind (arith, nat_tests, e) in omega (arith, none))
  | inr e ↦ sym (ap not e)
]

module _ {X : Type 0} (cmp : X → X → Ordering) (p : X → Bool) where
  module _ (read : Row → X) (Typed : Row → Type 0) (passes : Row → Bool)
      (same : (r : Row) → Typed r → passes r ≡ p (read r)) where
    any_met : (rows : List Row) → AllByRecursion Typed rows
        → list_any p (map read rows) ≡ not (length (filter passes rows) == 0)
    any_met [] typed = refl
    any_met (r ∷ rows) typed =
        ap (λ a. a || list_any p (map read rows)) (sym (same r typed.0))
        ∙ one (passes r) refl (any_met rows typed.1)
      where
        one : (b : Bool) → passes r ≡ b
            → list_any p (map read rows) ≡ not (length (filter passes rows) == 0)
            → (b || list_any p (map read rows))
            ≡ not (length (if b then r ∷ filter passes rows else filter passes rows) == 0)
        one true e later = some r (filter passes rows)
        one false e later = later

    -- a row has the key exactly if the statement found one
    pub place_met : (rows : List Row) (count : ℕ) → AllByRecursion Typed rows → count ≡ length (filter passes rows)
        → list_any p (in_key_order cmp (map read rows)) ≡ not (count == 0)
    place_met rows count typed counted =
        listed_any cmp p (map read rows) ∙ any_met rows typed ∙ ap (λ n. not (n == 0)) (sym counted)
