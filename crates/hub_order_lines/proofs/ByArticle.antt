-- Shows what is found when looking for an order's only line with an article.
use Rattle.std.proofs.Common.{◌≡◌, ℕ, ◌+◌, ◌<◌, Bool, true, false, cond, ◌&&◌, ◌||◌, inl, inr, List, [], ◌∷◌, length}
use Rattle.std.proofs.Common.{get_or, filter, slice_get, Option, Some, None, refl, sym, ap, subst, ◌∙◌, arith}
use Rattle.std.specs.BTreeMap.{BTreeMap, get}
use Rattle.std.specs.List.{AllByRecursion, All, list_any}
use Rattle.std.proofs.lemmas.List.Folds.{list_any_at}
use Rattle.std.proofs.lemmas.List.Elements.{recursion_from_All, filter_passes}
use Rattle.std.proofs.lemmas.Option.{same_Some, slice_get-get_or, slice_get_within}
use Rattle.hub_tables.specs.Rows.{same}
use Rattle.hub_parties.specs.KeyOrder.{Rises}
use Rattle.hub_tables.specs.State.{the_only}
use Rattle.hub_tables.proofs.Lists.{decide, same_if, filter_alike, all_filter}
use Rattle.hub_order_lines.specs.Book.{facts_cmp, facts_of}
use Rattle.hub_order_lines.specs.ArticleIndex.{OrderArticle, article_cmp, has_article, lines_with, IsArticleIndex}
use Rattle.hub_order_lines.specs.Key.{LineKey, key_of, keys_of, place_from}
use Rattle.hub_order_lines.specs.declared.by_article.ArticleLines.{ArticleLines}
use Rattle.hub_order_lines.specs.declared.by_article.ArticleLines.TheVariants.{One, Several}
use Rattle.hub_order_lines.specs.declared.facts.LineFacts.{LineFacts}
use Rattle.hub_order_lines.proofs.FirstLine.{same_order}
use Rattle.hub_order_lines.proofs.ArticleLines.{TellsArticle, told}

filter-filter : {X : Type 0} (p q : X → Bool) (xs : List X) → filter p (filter q xs) ≡ filter (λ x. q x && p x) xs
filter-filter p q [] = refl
filter-filter p q (x ∷ xs) =
    elim (q x) as (λ v. filter p (cond v (x ∷ filter q xs) (filter q xs))
    ≡ cond (v && p x) (x ∷ filter (λ x. q x && p x) xs) (filter (λ x. q x && p x) xs)) [
      | true ↦ ap (λ rest. cond (p x) (x ∷ rest) rest) (filter-filter p q xs)
      | false ↦ filter-filter p q xs
    ]

none_kept : {X : Type 0} (p : X → Bool) (xs : List X) → list_any p xs ≡ false → filter p xs ≡ []
none_kept p [] h = refl
none_kept p (x ∷ xs) h =
    elim (p x) as (λ v. (v || list_any p xs) ≡ false → cond v (x ∷ filter p xs) (filter p xs) ≡ [])
    [ true ↦ λ e. absurd (cc) | false ↦ λ e. none_kept p xs e ] h

-- The lines of an order with an article, and what an index says about them.
module _ (lines : List LineFacts) (order gtin : List ℕ) (rise : Rises facts_cmp lines) where
  abbrev pub facts : List LineFacts
  facts = filter (λ (line : LineFacts). same line.row.gtin gtin) (facts_of lines order)

  abbrev pub bears : LineKey → Bool
  bears = has_article (keys_of lines) (place_from order 0 (keys_of lines), gtin)

  abbrev pub known : Option ArticleLines
  known = lines_with bears None 0 (keys_of lines)

  abbrev pub of_order : LineFacts → Bool
  of_order line = same line.row.number order

  pub known_is : (articles : BTreeMap OrderArticle ArticleLines) (first : ℕ) (found : Option ArticleLines)
      → IsArticleIndex (keys_of lines) articles
      → first ≡ place_from order 0 (keys_of lines)
      → found ≡ get article_cmp articles (first, gtin)
      → known ≡ found
  known_is articles first found index is got =
      sym (got ∙ index (first, gtin) ∙ ap (λ n. lines_with (has_article (keys_of lines) (n, gtin)) None 0 (keys_of lines)) is)

  -- if the order has lines, those of the index are those with the article
  alike : list_any of_order lines ≡ true → facts ≡ filter (λ line. bears (key_of line)) lines
  alike some =
      filter-filter (λ line. same line.row.gtin gtin) of_order lines
      ∙ filter_alike (λ line. of_order line && same line.row.gtin gtin) (λ line. bears (key_of line)) lines
      (recursion_from_All (λ line. (of_order line && same line.row.gtin gtin) ≡ bears (key_of line)) lines one)
    where
      one : All (λ line. (of_order line && same line.row.gtin gtin) ≡ bears (key_of line)) lines
      one k d within =
          let line = get_or lines k d in
          let itself = list_any_at (λ other. same other.row.number line.row.number) lines k d within
          (same_if line.row.number line.row.number refl) in
          ap (λ v. v && same line.row.gtin gtin) (sym (same_order lines line.row.number order rise itself some))

  tells : list_any of_order lines ≡ true → TellsArticle lines facts 0 known
  tells some = subst (λ ys. TellsArticle lines ys 0 known) (sym (alike some)) (told key_of bears 0 lines)

  no_order : list_any of_order lines ≡ false → the_only facts ≡ None
  no_order none = ap (λ kept. the_only (filter (λ (line : LineFacts). same line.row.gtin gtin) kept)) (none_kept of_order lines none)

  pub within : (place : ℕ) → known ≡ Some (One place) → place < length lines
  within place is =
      let one = subst (TellsArticle lines (filter (λ line. bears (key_of line)) lines) 0) is (told key_of bears 0 lines) in
      let bound : one.0 < length lines = slice_get_within lines one.0 one.1 one.3 in
      let at : place ≡ one.0 + 0 = one.2 in
      omega arith

  -- the only line, if it belongs to the order
  pub only_is : (place : ℕ) (line : LineFacts)
      → known ≡ Some (One place)
      → line ≡ get_or lines place line
      → of_order line ≡ true
      → the_only facts ≡ slice_get lines place
  only_is place line is read its =
      let some = list_any_at of_order lines place line (within place is) (ap of_order (sym read) ∙ its) in
      let one = subst (TellsArticle lines facts 0) is (tells some) in
      let here : one.0 ≡ place = (let e : place ≡ one.0 + 0 = one.2 in omega arith) in
      ap the_only one.4 ∙ sym one.3 ∙ ap (slice_get lines) here

  -- the only line, if it belongs to another order
  pub other_order : (place : ℕ) (line : LineFacts)
      → known ≡ Some (One place)
      → line ≡ get_or lines place line
      → of_order line ≡ false
      → the_only facts ≡ None
  other_order place line is read other =
      elim (decide (list_any of_order lines)) [
        | inl some ↦
            let one = subst (TellsArticle lines facts 0) is (tells some) in
            let here : one.0 ≡ place = (let e : place ≡ one.0 + 0 = one.2 in omega arith) in
            let at : slice_get lines place ≡ Some line = slice_get-get_or lines place line (within place is) ∙ ap Some (sym read) in
            let it : one.1 ≡ line = same_Some one.1 line (sym one.3 ∙ ap (slice_get lines) here ∙ at) in
            let all = all_filter (λ line. of_order line ≡ true) (λ line. same line.row.gtin gtin) (facts_of lines order)
            (recursion_from_All (λ line. of_order line ≡ true) (facts_of lines order)
            (filter_passes of_order lines)) in
            let its : of_order line ≡ true = ap of_order (sym it) ∙ (subst (AllByRecursion (λ line. of_order line ≡ true)) one.4 all).0 in
            absurd (cc)
        | inr none ↦ no_order none
      ]

  pub no_line : known ≡ None → the_only facts ≡ None
  no_line is =
      elim (decide (list_any of_order lines))
      [ inl some ↦ ap the_only (subst (TellsArticle lines facts 0) is (tells some)) | inr none ↦ no_order none ]

  pub several_lines : known ≡ Some Several → the_only facts ≡ None
  several_lines is =
      elim (decide (list_any of_order lines))
      [ inl some ↦ subst (TellsArticle lines facts 0) is (tells some) | inr none ↦ no_order none ]
