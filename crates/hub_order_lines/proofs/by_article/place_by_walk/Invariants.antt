use Rattle.hub_order_lines.proofs.Walked.{Walked}
use Rattle.hub_order_lines.proofs.by_article.place_by_walk.Given as goal

abbrev pub invariant-loop-place : goal.invariant-loop-place
invariant-loop-place l = Walked l.order l.gtin l.lines l.place l.found
