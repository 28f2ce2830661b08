use Rattle.std.proofs.Common.{◌+◌, drop, map, sym, subst}
use Rattle.std.proofs.lemmas.List.{drop_more, drop_all}
use Rattle.hub_transactions.specs.Orders.{ForgetsOrders}
use Rattle.hub_transactions.proofs.Apart.{forgets_on, forgets_none}
use Rattle.hub_transactions.proofs.despatches.forget_orders.Goals as goal

pub loop-number-preserved : goal.loop-number-preserved
loop-number-preserved c = λ end rest.
    let numbers = c.args.numbers.now in
    let index = c.loop-number.number-index in
    c.loop-number.invariant end
    (subst (λ left. ForgetsOrders (map (λ number. number.now) left) c.loop-number.orders end)
    (sym (drop_more numbers index _ c.loop-number-test.true))
    (forgets_on _ (map (λ number. number.now) (drop (index + 1) numbers)) c.loop-number.orders c.forget_order.new.self end
    c.forget_order.ensures rest))

pub returns : goal.returns
returns c =
    c.loop-number.invariant c.loop-number.orders
    (subst (λ left. ForgetsOrders (map (λ number. number.now) left) c.loop-number.orders c.loop-number.orders)
    (sym (drop_all c.loop-number.number-index c.args.numbers.now c.loop-number-test.false)) (forgets_none c.loop-number.orders))
