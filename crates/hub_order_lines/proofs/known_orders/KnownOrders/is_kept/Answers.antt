use Rattle.std.proofs.Common.{◌∙◌, sym, ap}
use Rattle.hub_order_lines.specs.KnownOrders.{is_kept}
use Rattle.hub_order_lines.proofs.Entries.{kept_is}
use Rattle.hub_order_lines.proofs.known_orders.KnownOrders.is_kept.Goals as goal

pub returns : goal.returns
returns c =
    c.contains_key.ensures ∙ sym (ap (λ orders. is_kept orders c.args.order.now) (sym c.self.view_is)
    ∙ kept_is c.args.order.now c.self.inside.orders.entries)
