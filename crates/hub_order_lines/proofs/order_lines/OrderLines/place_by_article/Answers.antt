use Rattle.std.proofs.Common.{◌≡◌, ◌<◌, length, slice_get, None, List, subst, ◌∙◌}
use Rattle.std.specs.Option.{IfSome}
use Rattle.hub_order_lines.specs.Book.{facts_of, facts_among}
use Rattle.hub_order_lines.specs.declared.facts.LineFacts.{LineFacts}
use Rattle.hub_order_lines.proofs.order_lines.OrderLines.place_by_article.Goals as goal

pub returns-in-Some-clause-some : goal.returns-in-Some-clause-some
returns-in-Some-clause-some c =
    subst (λ (lines : List LineFacts). IfSome c.place_by_article.result (λ place. (place < length lines)
    × (facts_among (facts_of lines c.args.order.now) None c.args.gtin.now ≡ slice_get lines place)))
    (c.as_slice-lines.ensures.value ∙ c.self.view_is) c.place_by_article.ensures.some

pub returns-in-None-clause-some : goal.returns-in-None-clause-some
returns-in-None-clause-some c =
    subst (λ (lines : List LineFacts). IfSome c.place_by_walk.result (λ place. (place < length lines)
    × (facts_among (facts_of lines c.args.order.now) None c.args.gtin.now ≡ slice_get lines place)))
    (c.as_slice-lines.ensures.value ∙ c.self.view_is) c.place_by_walk.ensures.some
