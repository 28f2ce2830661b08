use Rattle.std.proofs.Common.{◌+◌, ◌∷◌, drop, sym, ap, subst, ◌∙◌}
use Rattle.std.proofs.lemmas.List.{drop_more, drop_all}
use Rattle.hub_order_lines.specs.KnownOrders.{Follows}
use Rattle.hub_order_lines.proofs.Follow.{follows_on, follows_itself}
use Rattle.hub_order_lines.proofs.known_orders.KnownOrders.follow.Goals as goal

pub loop-change-preserved : goal.loop-change-preserved
loop-change-preserved c end rest =
    let changes = c.args.changes.now in
    let index = c.loop-change.change-index in
    let change = c.change-item.result in
    c.loop-change.invariant end
    (subst (λ left. Follows left c.loop-change.self end)
    (sym (drop_more changes index change c.loop-change-test.true ∙ ap (λ one. one ∷ drop (index + 1) changes) (sym c.change-item.is)))
    (follows_on change (drop (index + 1) changes) c.loop-change.self c.follow_one.new.self end c.follow_one.ensures rest))

pub returns : goal.returns
returns c =
    c.loop-change.invariant c.loop-change.self
    (subst (λ left. Follows left c.loop-change.self c.loop-change.self)
    (sym (drop_all c.loop-change.change-index c.args.changes.now c.loop-change-test.false)) (follows_itself c.loop-change.self))
