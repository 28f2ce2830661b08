-- Shows what searching rising keys for a supplier's key finds.
use Rattle.std.proofs.Common.{◌≡◌, ℕ, zero, suc, ◌≤◌, ◌<◌, false, true, List, [], ◌∷◌, length, get_or}
use Rattle.std.proofs.Common.{inl, inr, Option, Result, Ok, Err, refl, sym, ap, ◌∙◌, subst, arith}
use Rattle.std.specs.List.{HoldsAt}
use Rattle.std.specs.List.Sorted.{IsNonDecreasingBy, IsPartitionPoint, IsBinarySearchResult, IsSearchInRange}
use Rattle.std.specs.Option.{IfNone, IfSome}
use Rattle.std.specs.Result.{result_ok}
use Rattle.std.specs.Ordering.{ordering_index, is_eq}
use Rattle.std.specs.declared.cmp.Ordering.{Ordering}
use Rattle.std.specs.declared.cmp.Ordering.TheVariants.{Less, Equal, Greater}
use Rattle.std.proofs.lemmas.Bool.{cases_order}
use Rattle.std.proofs.lemmas.Cmp.{nat_list_cmp_total}
use Rattle.std.proofs.lemmas.List.Elements.{All-from_recursion, All-get_or}
use Rattle.std.proofs.lemmas.List.Folds.{list_any_none, list_any_at}
use Rattle.std.proofs.lemmas.Map.Text.{is_eq-slice_cmp}
use Rattle.hub_parties.specs.KeyOrder.{bytes_cmp, Rises}
use Rattle.hub_tables.specs.Register.{has_key}
use Rattle.hub_tables.specs.Rows.{same, key_cmp}
use Rattle.hub_tables.specs.declared.rows.KeyRow.{KeyRow}
use Rattle.hub_tables.proofs.Lists.{all_weaker, same_is, same_if}

-- texts that compare as equal are equal
pub equal_texts : (a b : List ℕ) → bytes_cmp a b ≡ Equal → a ≡ b
equal_texts a b e = same_is a b (sym (is_eq-slice_cmp a b) ∙ ap is_eq e)

module _ (supplier : List ℕ) where
  abbrev pub place : KeyRow → Ordering
  place row = bytes_cmp row.supplier supplier

  by_later : (x y : KeyRow) (o : Ordering) → key_cmp x y ≡ Less → place y ≡ o → ordering_index (place x) ≤ ordering_index o
  by_later x y Less below e = let less =
      ap ordering_index (nat_list_cmp_total.trans x.supplier y.supplier supplier below e) in omega (arith, less)
  by_later x y Equal below e =
      let less = ap ordering_index (subst (λ t. bytes_cmp x.supplier t ≡ Less) (equal_texts y.supplier supplier e) below) in
      omega (arith, less)
  by_later x y Greater below e = at_most (place x)
    where
      at_most : (o : Ordering) → ordering_index o ≤ 2
      at_most Less = omega arith
      at_most Equal = omega arith
      at_most Greater = omega arith

  pub in_order : (keys : List KeyRow) → Rises key_cmp keys → IsNonDecreasingBy (λ row. ordering_index (place row)) keys
  in_order [] rises i j d le within = absurd (omega (arith, within))
  in_order (x ∷ xs) rises zero zero d le within = omega arith
  in_order (x ∷ xs) rises zero (suc j) d le within =
      All-get_or (λ y. ordering_index (place x) ≤ ordering_index (place y)) xs j d (omega (arith, within))
      (All-from_recursion (λ y. ordering_index (place x) ≤ ordering_index (place y)) xs
      (all_weaker (λ y. key_cmp x y ≡ Less) (λ y. ordering_index (place x) ≤ ordering_index (place y))
      (λ y below. by_later x y (place y) below refl) xs rises.0))
  in_order (x ∷ xs) rises (suc i) zero d le within = absurd (omega (arith, le))
  in_order (x ∷ xs) rises (suc i) (suc j) d le within = in_order xs rises.1 i j d (omega (arith, le)) (omega (arith, within))

  not_at : (row : KeyRow) (o : Ordering) → place row ≡ o → is_eq o ≡ false → same row.supplier supplier ≡ false
  not_at row o e other = sym (is_eq-slice_cmp row.supplier supplier) ∙ ap is_eq e ∙ other

  pub none_at : (keys : List KeyRow) (i : ℕ)
      → IsPartitionPoint (λ row. place row ≡ Less) (λ row. place row ≡ Greater) keys i
      → has_key keys supplier ≡ false
  none_at keys i point =
      list_any_none (λ row. same row.supplier supplier) keys (λ k d within.
      elim (cases_order k i) [
        | inl at_it ↦ not_at (get_or keys k d) Greater (point.1 k d (omega (arith, at_it)) within) refl
        | inr apart ↦ elim apart [
          | inl before ↦ not_at (get_or keys k d) Less (point.0 k d (omega arith) before) refl
          | inr after ↦ not_at (get_or keys k d) Greater (point.1 k d (omega (arith, after)) within) refl
        ]
      ])

  -- what the search returns
  pub found_at : (keys : List KeyRow) (r : Result ℕ ℕ) (o : Option ℕ)
      → o ≡ result_ok r
      → IsSearchInRange r (length keys)
      → IsBinarySearchResult place keys r
      → IfSome o (λ n. (n < length keys) × HoldsAt (λ row. row.supplier ≡ supplier) keys n)
  found_at keys (Ok n) o e within is =
      subst (λ o. IfSome o (λ n. (n < length keys) × HoldsAt (λ row. row.supplier ≡ supplier) keys n)) (sym e)
      (within, λ d. equal_texts (get_or keys n d).supplier supplier (is d))
  found_at keys (Err n) o e within is =
      subst (λ o. IfSome o (λ n. (n < length keys) × HoldsAt (λ row. row.supplier ≡ supplier) keys n)) (sym e) tt

  pub not_found : (keys : List KeyRow) (r : Result ℕ ℕ) (o : Option ℕ)
      → o ≡ result_ok r
      → IsBinarySearchResult place keys r
      → IfNone o (Rises key_cmp keys → has_key keys supplier ≡ false)
  not_found keys (Ok n) o e is = subst (λ o. IfNone o (Rises key_cmp keys → has_key keys supplier ≡ false)) (sym e) tt
  not_found keys (Err n) o e is =
      subst (λ o. IfNone o (Rises key_cmp keys → has_key keys supplier ≡ false)) (sym e)
      (λ rises. none_at keys n (is (in_order keys rises)))

  pub had_at : (keys : List KeyRow) (n : ℕ) → n < length keys →
      HoldsAt (λ row. row.supplier ≡ supplier) keys n → has_key keys supplier ≡ true
  had_at keys n within at =
      let none : KeyRow = record { supplier = []; key = [] } in
      list_any_at (λ row. same row.supplier supplier) keys n none within (same_if (get_or keys n none).supplier supplier (at none))
