-- Defines an index of order lines by order and article.
use Rattle.std.specs.Prelude.{◌≡◌, ℕ, ◌+◌, ◌==◌, Bool, ◌&&◌, List, [], ◌∷◌, if◌then◌else◌, Option, Some, None}
use Rattle.std.specs.BTreeMap.{BTreeMap, get}
use Rattle.std.specs.declared.cmp.Ordering.{Ordering}
use Rattle.std.specs.Ordering.{nat_cmp, ordering_then}
use Rattle.hub_parties.specs.KeyOrder.{bytes_cmp, Rises}
use Rattle.hub_tables.specs.Rows.{same}
use Rattle.hub_order_lines.specs.Book.{facts_cmp}
use Rattle.hub_order_lines.specs.Key.{LineKey, keys_of, place_from}
use Rattle.hub_order_lines.specs.declared.by_article.ArticleLines.{ArticleLines}
use Rattle.hub_order_lines.specs.declared.by_article.ArticleLines.TheVariants.{One, Several}
use Rattle.hub_order_lines.specs.declared.facts.LineFacts.{LineFacts}

-- the position of an order's first line, and an article
abbrev pub OrderArticle : Type 0
OrderArticle = ℕ × List ℕ

abbrev pub article_cmp : OrderArticle → OrderArticle → Ordering
article_cmp a b = ordering_then (nat_cmp a.0 b.0) (bytes_cmp a.1 b.1)

abbrev pub same_article : OrderArticle → OrderArticle → Bool
same_article a b = (a.0 == b.0) && same a.1 b.1

-- the order and the article of a line, among these lines
abbrev pub article_of : List LineKey → LineKey → OrderArticle
article_of keys key = (place_from key.number 0 keys, key.gtin)

abbrev pub has_article : List LineKey → OrderArticle → LineKey → Bool
has_article keys article key = same_article (article_of keys key) article

-- the entry of an article after one more line, at `place`
abbrev pub one_more : Option ArticleLines → ℕ → ArticleLines
one_more None place = One place
one_more (Some known) place = Several

-- the entry after these lines, from `place` on, beginning with `so_far`; only lines that pass the test count
abbrev pub lines_with : (LineKey → Bool) → Option ArticleLines → ℕ → List LineKey → Option ArticleLines
lines_with test so_far place [] = so_far
lines_with test so_far place (key ∷ keys) =
    lines_with test (if test key then Some (one_more so_far place) else so_far) (place + 1) keys

-- the index has the entry of each article
abbrev pub IsArticleIndex : List LineKey → BTreeMap OrderArticle ArticleLines → Type 0
IsArticleIndex keys articles = (article : OrderArticle)
    → get article_cmp articles article ≡ lines_with (has_article keys article) None 0 keys

-- lines whose keys rise, and their index
pub record Indexed (lines : List LineFacts) (articles : BTreeMap OrderArticle ArticleLines) : Type 0 where
  pub rise : Rises facts_cmp lines
  pub index : IsArticleIndex (keys_of lines) articles
