use Rattle.std.proofs.Common.{◌∙◌, sym, ap, option_copied}
use Rattle.hub_order_lines.specs.Book.{facts_of, lines_in}
use Rattle.hub_order_lines.proofs.Entries.{lines_are}
use Rattle.hub_order_lines.proofs.known_orders.KnownOrders.lines.Goals as goal

pub returns-in-Some-clause-lines : goal.returns-in-Some-clause-lines
returns-in-Some-clause-lines c =
    ap (λ lines. facts_of lines c.args.order.now) c.as_slice.ensures.value
    ∙ sym (ap (λ orders. lines_in orders c.args.order.now) (sym c.self.view_is)
    ∙ lines_are c.args.order.now c.self.inside.orders.entries _ (sym c.get.ensures.value ∙ ap option_copied c.in-Some.is))

pub returns-in-None-clause-lines : goal.returns-in-None-clause-lines
returns-in-None-clause-lines c =
    sym (ap (λ orders. lines_in orders c.args.order.now) (sym c.self.view_is)
    ∙ lines_are c.args.order.now c.self.inside.orders.entries _ (sym c.get.ensures.value ∙ ap option_copied c.in-None.is))
