use Rattle.std.proofs.Common.{◌+◌, ◌∙◌, sym, subst}
use Rattle.std.proofs.lemmas.List.{drop_all}
use Rattle.hub_order_lines.proofs.Walked.{Walked, passed, taken_first, only_one}
use Rattle.hub_order_lines.proofs.by_article.place_by_walk.Goals as goal
use Rattle.hub_order_lines.proofs.by_article.place_by_walk.Goals.{then-is_of_article+else-is_some, else-is_of_article}

pub loop-place-preserved : goal.loop-place-preserved
loop-place-preserved c =
    let lines = c.args.lines.now in
    let order = c.args.order.now in
    let gtin = c.args.gtin.now in
    let line = c.index-lines-place.result in
    let place = c.loop-place.place in
    elim c.if-is_of_article.branch [
      | then-is_of_article+else-is_some w ↦ subst (Walked order gtin lines (place + 1)) (sym w.found-is)
          (taken_first order gtin lines place line c.loop-place.found c.loop-place-test.true c.index-lines-place.is
          (sym c.is_of_article.ensures ∙ w.if-is_of_article.true) (sym w.is_some.ensures ∙ w.if-is_some.false) c.loop-place.invariant)
      | else-is_of_article w ↦ subst (Walked order gtin lines (place + 1)) (sym w.found-is)
          (passed order gtin lines place line c.loop-place.found c.loop-place-test.true c.index-lines-place.is
          (sym c.is_of_article.ensures ∙ w.if-is_of_article.false) c.loop-place.invariant)
    ]

pub returns-clause-some : goal.returns-clause-some
returns-clause-some c =
    only_one c.args.order.now c.args.gtin.now c.args.lines.now c.loop-place.place c.loop-place.found
    (drop_all c.loop-place.place c.args.lines.now c.loop-place-test.false) c.loop-place.invariant
