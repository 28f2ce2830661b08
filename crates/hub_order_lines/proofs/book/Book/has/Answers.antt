use Rattle.std.proofs.Common.{sym, ap, ◌∙◌}
use Rattle.hub_order_lines.specs.Book.{has_order}
use Rattle.hub_order_lines.specs.Changed.{now_of}
use Rattle.hub_order_lines.proofs.Setting.{has_made}
use Rattle.hub_order_lines.proofs.book.Book.has.Goals as goal

pub returns : goal.returns
returns c =
    c.has.ensures ∙ sym (ap (λ orders. has_order orders c.args.order.now) (sym c.self.view_is)
    ∙ has_made (now_of c.self.inside.changed) c.self.inside.orders.now c.args.order.now)
