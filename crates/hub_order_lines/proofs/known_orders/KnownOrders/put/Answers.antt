use Rattle.std.proofs.Common.{◌≡◌, map, refl, sym, subst, ap, ◌∙◌}
use Rattle.std.specs.List.{AllByRecursion}
use Rattle.std.specs.Option.{IfSome}
use Rattle.hub_order_lines.specs.Book.{Orders, rows}
use Rattle.hub_order_lines.specs.KnownLines.{AddsUp}
use Rattle.hub_order_lines.specs.KnownOrders.{AddsOrder}
use Rattle.hub_order_lines.proofs.Entries.{shown}
use Rattle.hub_order_lines.proofs.Follow.{put_ok}
use Rattle.hub_order_lines.proofs.known_orders.KnownOrders.put.Goals as goal

pub returns-clause-put : goal.returns-clause-put
returns-clause-put c is_true =
    subst (λ (orders : Orders). AddsOrder c.args.order.now c.args.is_there c.args.given orders (map shown c.insert.new.self.entries))
    c.self.view_is
    (put_ok c.args.order.now c.args.is_there c.args.given c.self.inside.orders.entries c.insert.new.self.entries c.in_ok-key.key
    (record { is_there = c.args.is_there; lines = c.new.result }) c.in_ok-key.ensures.items c.in_ok-insert.ensures.entries refl
    (ap rows c.new.ensures ∙ subst (λ found. IfSome found (λ facts. rows facts ≡ c.args.given)) c.in-Some.is c.in_ok-lines.ensures.rows)
    (subst (AllByRecursion AddsUp) (sym c.new.ensures)
    (subst (λ found. IfSome found (AllByRecursion AddsUp)) c.in-Some.is c.in_ok-lines.ensures.adds_up)))
