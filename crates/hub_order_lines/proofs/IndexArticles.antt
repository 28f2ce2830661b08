-- Follows the index while lines are added to it.
use Rattle.std.proofs.Common.{◌≡◌, ℕ, ◌+◌, ◌<◌, Bool, true, false, cond, ◌==◌, List, ◌∷◌, length, get_or, drop, Option}
use Rattle.std.proofs.Common.{Some, refl, sym, ap, ◌∙◌, arith}
use Rattle.std.specs.Ordering.{nat_cmp, is_eq}
use Rattle.std.specs.Cmp.{both_tied}
use Rattle.std.proofs.lemmas.Bool.{and_parts}
use Rattle.std.proofs.lemmas.Bool.Decides.{nat_tests}
use Rattle.std.proofs.lemmas.List.{drop_more}
use Rattle.std.proofs.lemmas.Map.Text.{is_eq-slice_cmp}
use Rattle.hub_parties.specs.KeyOrder.{bytes_cmp}
use Rattle.hub_tables.specs.Rows.{same}
use Rattle.hub_tables.proofs.Lists.{same_is}
use Rattle.hub_order_lines.specs.ArticleIndex.{OrderArticle, article_cmp, article_of, same_article, has_article, one_more, lines_with}
use Rattle.hub_order_lines.specs.Key.{key_of, keys_of}
use Rattle.hub_order_lines.specs.declared.by_article.ArticleLines.{ArticleLines}
use Rattle.hub_order_lines.specs.declared.facts.LineFacts.{LineFacts}
use Rattle.hub_order_lines.proofs.ByNumber.{is_eq-nat_cmp}

is_eq-article_cmp : (a b : OrderArticle) → is_eq (article_cmp a b) ≡ same_article a b
is_eq-article_cmp a b =
    sym (both_tied (a.0 == b.0) (same a.1 b.1) (nat_cmp a.0 b.0) (bytes_cmp a.1 b.1) (sym (is_eq-nat_cmp a.0 b.0))
    (sym (is_eq-slice_cmp a.1 b.1)))

article_itself : (a b : OrderArticle) → same_article a b ≡ true → a ≡ b
article_itself a b h =
    let parts = and_parts (a.0 == b.0) (same a.1 b.1) h in
    let places : a.0 ≡ b.0 = grind (arith, nat_tests, parts.0) in
    let articles : a.1 ≡ b.1 = same_is a.1 b.1 parts.1 in
    λ i. (places i, articles i)

put_one : (v : Bool) (old : OrderArticle → Option ArticleLines) (a b : OrderArticle) (place : ℕ)
    → (v ≡ true → a ≡ b)
    → cond v (Some (one_more (old b) place)) (old b) ≡ cond v (Some (one_more (old a) place)) (old b)
put_one true old a b place e = ap (λ article. Some (one_more (old article) place)) (sym (e refl))
put_one false old a b place e = refl

-- one more line
pub article_step : (lines : List LineFacts) (place : ℕ) (line : LineFacts) (old new : OrderArticle → Option ArticleLines)
    (found : ArticleLines) (at : OrderArticle)
    → place < length lines
    → line ≡ get_or lines place line
    → at ≡ article_of (keys_of lines) (key_of line)
    → found ≡ one_more (old at) place
    → ((article : OrderArticle) → new article ≡ cond (is_eq (article_cmp at article)) (Some found) (old article))
    → (article : OrderArticle)
    → lines_with (has_article (keys_of lines) article) (old article) place (keys_of (drop place lines))
    ≡ lines_with (has_article (keys_of lines) article) (new article) (place + 1) (keys_of (drop (place + 1) lines))
article_step lines place line old new found at within is at_is found_is becomes article =
    let test = has_article (keys_of lines) article in
    let rest = drop (place + 1) lines in
    ap (λ from. lines_with test (old article) place (keys_of from)) (drop_more lines place line within ∙ ap (λ one. one ∷ rest) (sym is))
    ∙ ap (λ known. lines_with test known (place + 1) (keys_of rest)) (
    ap (λ one. cond (same_article one article) (Some (one_more (old article) place)) (old article)) (sym at_is)
    ∙ put_one (same_article at article) old at article place (article_itself at article)
    ∙ ap (λ one. cond (same_article at article) (Some one) (old article)) (sym found_is)
    ∙ ap (λ v. cond v (Some found) (old article)) (sym (is_eq-article_cmp at article))
    ∙ sym (becomes article))
