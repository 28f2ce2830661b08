use Rattle.std.proofs.Common.{drop}
use Rattle.hub_order_lines.specs.Book.{Orders}
use Rattle.hub_order_lines.specs.KnownOrders.{Follows}
use Rattle.hub_order_lines.proofs.known_orders.KnownOrders.follow.Given as goal

-- orders that follow the remaining changes follow all of them
abbrev pub invariant-loop-change : goal.invariant-loop-change
invariant-loop-change l = (end : Orders) → Follows (drop l.change-index l.changes) l.self end → Follows l.changes l.initial.self end
