use Rattle.std.proofs.Common.{ap, ◌∙◌}
use Rattle.std.specs.BTreeMap.{get}
use Rattle.hub_order_lines.specs.ArticleIndex.{article_cmp, one_more}
use Rattle.hub_order_lines.specs.Key.{keys_of, place_from}
use Rattle.hub_order_lines.proofs.IndexArticles.{article_step}
use Rattle.hub_order_lines.proofs.by_article.index_articles.Goals as goal

pub loop-place-preserved : goal.loop-place-preserved
loop-place-preserved c = λ article.
    let lines = c.args.lines.now in
    let place = c.loop-place.place in
    let line = c.index-lines-place.result in
    let first = c.place_from-first.ensures ∙ ap (λ order. place_from order 0 (keys_of lines)) c.as_slice.ensures in
    c.loop-place.invariant article
    ∙ article_step lines place line (get article_cmp c.loop-place.articles) (get article_cmp c.insert.new.self) c.one_more-found.result
    (c.place_from-first.result, line.row.gtin) c.loop-place-test.true c.index-lines-place.is
    (ap (λ n. (n, line.row.gtin)) first)
    (c.one_more-found.ensures ∙ ap (λ known. one_more known place) c.article_lines.ensures) c.in_ok-insert.ensures.updates.0
    article
