use Rattle.std.proofs.Common.{◌≡◌, None, drop}
use Rattle.std.specs.BTreeMap.{get}
use Rattle.hub_order_lines.specs.ArticleIndex.{OrderArticle, article_cmp, has_article, lines_with}
use Rattle.hub_order_lines.specs.Key.{keys_of}
use Rattle.hub_order_lines.proofs.by_article.index_articles.Given as goal

-- the lines of each article are those so far and those still to come
abbrev pub invariant-loop-place : goal.invariant-loop-place
invariant-loop-place l =
    (article : OrderArticle)
    → lines_with (has_article (keys_of l.lines) article) None 0 (keys_of l.lines)
    ≡ lines_with (has_article (keys_of l.lines) article) (get article_cmp l.articles article) l.place (keys_of (drop l.place l.lines))
