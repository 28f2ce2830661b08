use Rattle.std.proofs.Common.{◌∙◌, sym, ap, option_copied}
use Rattle.hub_order_lines.specs.Book.{has_order}
use Rattle.hub_order_lines.proofs.Entries.{has_is}
use Rattle.hub_order_lines.proofs.known_orders.KnownOrders.has.Goals as goal

pub returns-in-Some : goal.returns-in-Some
returns-in-Some c =
    sym (ap (λ orders. has_order orders c.args.order.now) (sym c.self.view_is)
    ∙ has_is c.args.order.now c.self.inside.orders.entries _ (sym c.get.ensures.value ∙ ap option_copied c.in-Some.is))

pub returns-in-None : goal.returns-in-None
returns-in-None c =
    sym (ap (λ orders. has_order orders c.args.order.now) (sym c.self.view_is)
    ∙ has_is c.args.order.now c.self.inside.orders.entries _ (sym c.get.ensures.value ∙ ap option_copied c.in-None.is))
