use Rattle.std.proofs.Common.{drop, map}
use Rattle.hub_order_lines.specs.Book.{Orders}
use Rattle.hub_transactions.specs.Orders.{ForgetsOrders}
use Rattle.hub_transactions.proofs.despatches.forget_orders.Given as goal

-- once the remaining orders are forgotten, all are
abbrev pub invariant-loop-number : goal.invariant-loop-number
invariant-loop-number l = (end : Orders) → ForgetsOrders (map (λ number. number.now) (drop l.number-index l.numbers)) l.orders end
    → ForgetsOrders (map (λ number. number.now) l.numbers) l.fn.orders end
