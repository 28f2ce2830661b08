-- Shows what the lines of an article are: none, one or several.
use Rattle.std.proofs.Common.{◌≡◌, ℕ, suc, ◌+◌, Bool, true, false, cond, List, [], ◌∷◌, map, filter, slice_get, Option}
use Rattle.std.proofs.Common.{Some, None, refl, sym, subst, arith}
use Rattle.hub_tables.specs.State.{the_only}
use Rattle.hub_order_lines.specs.ArticleIndex.{lines_with}
use Rattle.hub_order_lines.specs.Key.{LineKey}
use Rattle.hub_order_lines.specs.declared.by_article.ArticleLines.{ArticleLines}
use Rattle.hub_order_lines.specs.declared.by_article.ArticleLines.TheVariants.{One, Several}

one_or_several : {X : Type 0} → ℕ → List X → Option ArticleLines
one_or_several place [] = Some (One place)
one_or_several place (x ∷ xs) = Some Several

-- a list and the part of it that passes: nothing, only the one at a position (counted from `before`), or several
abbrev pub TellsArticle : {X : Type 0} → List X → List X → ℕ → Option ArticleLines → Type 0
TellsArticle xs ys before None = ys ≡ []
TellsArticle {X} xs ys before (Some (One place)) = (k : ℕ) × (x : X) × (place ≡ k + before) × (slice_get xs k ≡ Some x) × (ys ≡ x ∷ [])
TellsArticle xs ys before (Some Several) = the_only ys ≡ None

module _ {X : Type 0} (key : X → LineKey) (test : LineKey → Bool) where
  several : (place : ℕ) (xs : List X) → lines_with test (Some Several) place (map key xs) ≡ Some Several
  several place [] = refl
  several place (x ∷ xs) =
      elim (test (key x)) as
      (λ v. lines_with test (cond v (Some Several) (Some Several)) (place + 1) (map key xs) ≡ Some Several)
      [ true ↦ several (place + 1) xs | false ↦ several (place + 1) xs ]

  after_one : (one place : ℕ) (xs : List X)
      → lines_with test (Some (One one)) place (map key xs) ≡ one_or_several one (filter (λ x. test (key x)) xs)
  unfolding one_or_several
  after_one one place [] = refl
  after_one one place (x ∷ xs) =
      elim (test (key x)) as (λ v. lines_with test (cond v (Some Several) (Some (One one))) (place + 1) (map key xs)
      ≡ one_or_several one (cond v (x ∷ filter (λ x. test (key x)) xs) (filter (λ x. test (key x)) xs))) [
        | true ↦ several (place + 1) xs
        | false ↦ after_one one (place + 1) xs
      ]

  starts : (x : X) (xs ys : List X) (place : ℕ) → TellsArticle (x ∷ xs) (x ∷ ys) place (one_or_several place ys)
  unfolding one_or_several
  starts x xs [] place = (0, x, omega arith, refl, refl)
  starts x xs (y ∷ ys) place = refl

  later : (x : X) (xs ys : List X) (place : ℕ) (o : Option ArticleLines) → TellsArticle xs ys (place + 1) o
      → TellsArticle (x ∷ xs) ys place o
  later x xs ys place None h = h
  later x xs ys place (Some (One at)) h = (suc h.0, h.1, (let e = h.2 in omega (arith, e)), h.3, h.4)
  later x xs ys place (Some Several) h = h

  pub told : (place : ℕ) (xs : List X) → TellsArticle xs (filter (λ x. test (key x)) xs) place (lines_with test None place (map key xs))
  told place [] = refl
  told place (x ∷ xs) =
      let rest = filter (λ x. test (key x)) xs in
      elim (test (key x)) as (λ v. TellsArticle (x ∷ xs) (cond v (x ∷ rest) rest) place
      (lines_with test (cond v (Some (One place)) None) (place + 1) (map key xs))) [
        | true ↦ subst (TellsArticle (x ∷ xs) (x ∷ rest) place) (sym (after_one place (place + 1) xs)) (starts x xs rest place)
        | false ↦ later x xs rest place (lines_with test None (place + 1) (map key xs)) (told (place + 1) xs)
      ]
