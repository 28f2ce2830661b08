use Rattle.std.proofs.Common.{map, subst}
use Rattle.hub_order_lines.specs.Book.{Orders}
use Rattle.hub_order_lines.specs.KnownOrders.{ForgetsOrder}
use Rattle.hub_order_lines.proofs.Entries.{shown}
use Rattle.hub_order_lines.proofs.Follow.{taken_out}
use Rattle.hub_order_lines.proofs.known_orders.KnownOrders.forget_order.Goals as goal

pub returns : goal.returns
returns c =
    subst (λ (orders : Orders). ForgetsOrder c.args.order.now orders (map shown c.remove-known.new.self.entries)) c.self.view_is
    (taken_out c.args.order.now c.self.inside.orders.entries c.remove-known.new.self.entries
    c.remove-known.ensures.entries c.remove-known.ensures.updates.1)
