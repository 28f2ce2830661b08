-- Shows what inserting or replacing a row does to rows with rising keys.
use Rattle.std.proofs.Common.{◌≡◌, ℕ, suc, ◌+◌, ◌<◌, Bool, true, false, cond, ◌||◌, List, [], ◌∷◌, length, refl, sym, ap, ◌∙◌, arith}
use Rattle.std.specs.List.{AllByRecursion, list_any, prefix_len, insert}
use Rattle.std.specs.Prelude.{slice_set}
use Rattle.std.specs.declared.cmp.Ordering.{Ordering}
use Rattle.std.specs.declared.cmp.Ordering.TheVariants.{Less, Equal, Greater}
use Rattle.std.specs.Ordering.{is_lt, is_eq, is_gt, ordering_reverse}
use Rattle.std.specs.Cmp.{IsTotalOrder, Equal-is}
use Rattle.hub_parties.specs.KeyOrder.{put, replace, Rises}
use Rattle.hub_tables.proofs.KeyOrder.{all_put, all_put_back}
use Rattle.hub_tables.proofs.Lists.{all_weaker}

module _ {X : Type 0} {cmp : X → X → Ordering} (total : IsTotalOrder cmp) (r : X) where
  abbrev pub below : List X → ℕ
  below xs = prefix_len (λ x. is_lt (cmp x r)) xs

  abbrev pub has : List X → Bool
  has xs = list_any (λ x. is_eq (cmp x r)) xs

  -- what comes after a row above r is above r
  above_next : (x y : X) → cmp x r ≡ Greater → cmp x y ≡ Less → cmp y r ≡ Greater
  above_next x y g less =
      let back : cmp r x ≡ Less = total.antisymm r x ∙ ap ordering_reverse g in
      total.antisymm y r ∙ ap ordering_reverse (total.trans r x y back less)

  pub all_above : (x : X) (xs : List X) → cmp x r ≡ Greater → AllByRecursion (λ y. cmp x y ≡ Less) xs →
      AllByRecursion (λ y. cmp y r ≡ Greater) xs
  all_above x xs g all = all_weaker (λ y. cmp x y ≡ Less) (λ y. cmp y r ≡ Greater) (λ y less. above_next x y g less) xs all

  -- what comes after a row that compares as equal to r is above r
  pub after_equal : (x : X) (xs : List X) → cmp x r ≡ Equal → AllByRecursion (λ y. cmp x y ≡ Less) xs →
      AllByRecursion (λ y. cmp y r ≡ Greater) xs
  after_equal x xs e all = all_weaker (λ y. cmp x y ≡ Less) (λ y. cmp y r ≡ Greater) (λ y less. total.antisymm y r
      ∙ ap ordering_reverse (sym (total.congr x r y e) ∙ less)) xs all

  pub none_above : (xs : List X) → AllByRecursion (λ y. cmp y r ≡ Greater) xs → has xs ≡ false
  none_above [] all = refl
  none_above (x ∷ xs) all = ap (λ o. is_eq o || has xs) all.0 ∙ none_above xs all.1

  -- Inserting a row.

  -- if its key is new
  pub rises_put : (xs : List X) → Rises cmp xs → has xs ≡ false → Rises cmp (put cmp r xs)
  rises_put [] rises new = (tt, tt)
  rises_put (x ∷ xs) rises new =
      elim (cmp x r) as (λ o. cmp x r ≡ o → (is_eq o || has xs) ≡ false → Rises cmp (cond (is_gt o) (r ∷ x ∷ xs) (x ∷ put cmp r xs))) [
        | Less ↦ λ e new. (all_put cmp (λ y. cmp x y ≡ Less) xs r rises.0 e, rises_put xs rises.1 new)
        | Equal ↦ λ e new. absurd (cc (new))
        | Greater ↦ λ e new.
            let back : cmp r x ≡ Less = total.antisymm r x ∙ ap ordering_reverse e in
            ((back, all_weaker (λ y. cmp x y ≡ Less) (λ y. cmp r y ≡ Less) (λ y less. total.trans r x y back less) xs rises.0), rises)
      ] refl new

  pub put_is_insert : (xs : List X) → has xs ≡ false → put cmp r xs ≡ insert xs (below xs) r
  put_is_insert [] new = refl
  put_is_insert (x ∷ xs) new =
      let more : 1 + below xs ≡ suc (below xs) = omega arith in
      elim (cmp x r) as (λ o. (is_eq o || has xs) ≡ false → cond (is_gt o) (r ∷ x ∷ xs) (x ∷ put cmp r xs) ≡ insert (x ∷ xs) (cond
      (is_lt o) (1 + below xs) 0) r) [
        | Less ↦ λ new. ap (λ ys. x ∷ ys) (put_is_insert xs new) ∙ ap (λ n. insert (x ∷ xs) n r) (sym more)
        | Equal ↦ λ new. absurd (cc (new))
        | Greater ↦ λ new. refl
      ] new

  -- if its key exists already
  pub not_put : (xs : List X) → Rises cmp xs → has xs ≡ true → Rises cmp (put cmp r xs) → ⊥
  not_put [] rises there h = cc
  not_put (x ∷ xs) rises there h =
      elim (cmp x r) as (λ o. cmp x r ≡ o → (is_eq o || has xs) ≡ true → Rises cmp (cond (is_gt o) (r ∷ x ∷ xs) (x ∷ put cmp r xs)) → ⊥) [
        | Less ↦ λ e there h. not_put xs rises.1 there h.1
        | Equal ↦ λ e there h. let less = (all_put_back cmp (λ y. cmp x y ≡ Less) xs r h.0).0 in let no : Less ≡ Equal = sym less ∙ e in cc
        | Greater ↦ λ e there h. let none = none_above xs (all_above x xs e rises.0) in cc
      ] refl there h

  -- Replacing a row.

  pub found_within : (xs : List X) → Rises cmp xs → has xs ≡ true → below xs < length xs
  found_within [] rises there = cc
  found_within (x ∷ xs) rises there =
      elim (cmp x r) as (λ o. cmp x r ≡ o → (is_eq o || has xs) ≡ true → cond (is_lt o) (1 + below xs) 0 < length (x ∷ xs)) [
        | Less ↦ λ e there. let rest = found_within xs rises.1 there in omega (arith, rest)
        | Equal ↦ λ e there. omega arith
        | Greater ↦ λ e there. omega arith
      ] refl there

  module _ (alike : X → Bool) (exact : (x : X) → is_eq (cmp x r) ≡ alike x) where
    none_replaced : (xs : List X) → has xs ≡ false → replace alike r xs ≡ xs
    none_replaced [] none = refl
    none_replaced (x ∷ xs) none =
        elim (is_eq (cmp x r)) as (λ v. is_eq (cmp x r) ≡ v → (v || has xs) ≡ false → cond (alike x) r x ∷ replace alike r xs ≡ x ∷ xs) [
          | true ↦ λ e none. absurd (cc (none))
          | false ↦ λ e none. ap (λ v. cond v r x ∷ replace alike r xs) (sym (exact x) ∙ e) ∙ ap (λ ys. x ∷ ys) (none_replaced xs none)
        ] refl none

    pub replace_none : (xs : List X) → has xs ≡ false → xs ≡ replace alike r xs
    replace_none xs none = sym (none_replaced xs none)

    pub replace_found : (xs : List X) → Rises cmp xs → has xs ≡ true → slice_set xs (below xs) r ≡ replace alike r xs
    replace_found [] rises there = cc
    replace_found (x ∷ xs) rises there =
        let more : 1 + below xs ≡ suc (below xs) = omega arith in
        elim (cmp x r) as (λ o. cmp x r ≡ o → (is_eq o || has xs) ≡ true →
        slice_set (x ∷ xs) (cond (is_lt o) (1 + below xs) 0) r ≡ cond (alike x) r x ∷ replace alike r xs) [
          | Less ↦ λ e there.
              ap (λ n. slice_set (x ∷ xs) n r) more ∙ ap (λ ys. x ∷ ys) (replace_found xs rises.1 there)
              ∙ ap (λ v. cond v r x ∷ replace alike r xs) (sym (sym (exact x) ∙ ap is_eq e))
          | Equal ↦ λ e there.
              ap (λ ys. r ∷ ys) (replace_none xs (none_above xs (after_equal x xs e rises.0)))
              ∙ ap (λ v. cond v r x ∷ replace alike r xs) (sym (sym (exact x) ∙ ap is_eq e))
          | Greater ↦ λ e there. let none = none_above xs (all_above x xs e rises.0) in absurd (cc)
        ] refl there

    tied : (z : X) → is_eq (cmp z r) ≡ true → cmp z r ≡ Equal
    tied z e = (Equal-is (cmp z r)).0 e

    -- the new row compares like the one that it replaces
    set_alike : (x y : X) → cmp (cond (alike x) r x) (cond (alike y) r y) ≡ cmp x y
    set_alike x y = left ∙ right
      where
        left : cmp (cond (alike x) r x) (cond (alike y) r y) ≡ cmp x (cond (alike y) r y)
        left = elim (alike x) as (λ v. alike x ≡ v → cmp (cond v r x) (cond (alike y) r y) ≡ cmp x (cond (alike y) r y)) [
          | true ↦ λ e. sym (total.congr x r (cond (alike y) r y) (tied x (exact x ∙ e)))
          | false ↦ λ e. refl
        ] refl

        right : cmp x (cond (alike y) r y) ≡ cmp x y
        right = elim (alike y) as (λ v. alike y ≡ v → cmp x (cond v r y) ≡ cmp x y) [
          | true ↦ λ e. total.antisymm x r ∙ ap ordering_reverse (sym (total.congr y r x (tied y (exact y ∙ e)))) ∙ sym (total.antisymm x y)
          | false ↦ λ e. refl
        ] refl

    all_set : (x : X) (xs : List X) → AllByRecursion (λ y. cmp x y ≡ Less) xs →
        AllByRecursion (λ y. cmp (cond (alike x) r x) y ≡ Less) (replace alike r xs)
    all_set x [] all = tt
    all_set x (y ∷ ys) all = (set_alike x y ∙ all.0, all_set x ys all.1)

    pub rises_set : (xs : List X) → Rises cmp xs → Rises cmp (replace alike r xs)
    rises_set [] rises = tt
    rises_set (x ∷ xs) rises = (all_set x xs rises.0, rises_set xs rises.1)
