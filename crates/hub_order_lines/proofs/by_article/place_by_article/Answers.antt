use Rattle.std.proofs.Common.{◌≡◌, ◌<◌, Some, length, sym, ap, ◌∙◌, arith}
use Rattle.hub_order_lines.proofs.ByArticle.{known, known_is, within, only_is, other_order, no_line, several_lines}
use Rattle.hub_order_lines.proofs.by_article.place_by_article.Goals as goal
use Rattle.hub_order_lines.proofs.by_article.place_by_article.Goals.{After-article_lines}

-- what the index says
known_here : (c : After-article_lines) → known c.args.lines.now c.args.order.now c.args.gtin.now c.requires.rise ≡ c.article_lines.result
known_here c =
    known_is c.args.lines.now c.args.order.now c.args.gtin.now c.requires.rise c.args.articles.now c.place_from-first.result
    c.article_lines.result c.requires.index c.place_from-first.ensures c.article_lines.ensures

pub bounds-lines-place : goal.bounds-lines-place
bounds-lines-place c =
    within c.args.lines.now c.args.order.now c.args.gtin.now c.requires.rise c.in-Some-One.place
    (known_here (goal.at.bounds-lines-place c).After-article_lines ∙ c.in-Some-One.is ∙ ap Some c.in-Some-One.field-0-is)

pub offset_bounds-lines-place : goal.offset_bounds-lines-place
offset_bounds-lines-place c = let bound : c.in-Some-One.place < length c.args.lines.now = bounds-lines-place c in omega arith

pub returns-in-Some-One-clause-some : goal.returns-in-Some-One-clause-some
returns-in-Some-One-clause-some c =
    let one = known_here (goal.at.returns-in-Some-One-clause-some c).After-article_lines
    ∙ c.in-Some-One.is
    ∙ ap Some c.in-Some-One.field-0-is in (
      within c.args.lines.now c.args.order.now c.args.gtin.now c.requires.rise c.in-Some-One.place one,
      only_is c.args.lines.now c.args.order.now c.args.gtin.now c.requires.rise c.in-Some-One.place
          c.index-lines-place.result one c.index-lines-place.is (sym c.is_of.ensures ∙ c.if-is_of.true),
    )

pub returns-in_default-clause-none : goal.returns-in_default-clause-none
returns-in_default-clause-none c =
    let one = known_here (goal.at.returns-in_default-clause-none c).After-article_lines
    ∙ c.in-Some-One.is
    ∙ ap Some c.in-Some-One.field-0-is in
    other_order c.args.lines.now c.args.order.now c.args.gtin.now c.requires.rise c.in-Some-One.place
    c.index-lines-place.result one c.index-lines-place.is (sym c.is_of.ensures ∙ c.if-is_of.false)

pub returns-in_default-2-clause-none : goal.returns-in_default-2-clause-none
returns-in_default-2-clause-none c =
    several_lines c.args.lines.now c.args.order.now c.args.gtin.now c.requires.rise
    (known_here (goal.at.returns-in_default-2-clause-none c).After-article_lines ∙ c.in_default.is ∙ (cc))

pub returns-in_default-3-clause-none : goal.returns-in_default-3-clause-none
returns-in_default-3-clause-none c =
    no_line c.args.lines.now c.args.order.now c.args.gtin.now c.requires.rise
    (known_here (goal.at.returns-in_default-3-clause-none c).After-article_lines ∙ c.in_default.is)
