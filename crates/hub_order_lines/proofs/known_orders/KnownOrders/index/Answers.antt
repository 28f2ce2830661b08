use Rattle.std.proofs.Common.{map, ◌∙◌, sym, ap}
use Rattle.std.specs.Option.{option_copied_mut}
use Rattle.std.specs.Map.{set_value}
use Rattle.hub_order_lines.proofs.Entries.{shown, at, set_itself}
use Rattle.hub_order_lines.proofs.known_orders.KnownOrders.index.Goals as goal
use Rattle.hub_order_lines.proofs.known_orders.KnownOrders.index.Goals.{in-Some, in-None}

pub returns : goal.returns
returns c =
    let es = c.self.inside.orders.entries in
    let order = c.args.order.now in
    elim c.match-get_mut.branch [
      | in-Some w ↦
          ap (λ inside. map shown inside.orders.entries) w.self-inside-is
          ∙ ap (map shown) ((c.get_mut.follows.holds _).0)
          ∙ ap (λ lines. map shown (set_value (at order) es (record { is_there = w.in-Some.known.now.is_there; lines = lines })))
          w.index.ensures
          ∙ ap (map shown) (set_itself order w.in-Some.known.now es
          (sym c.get_mut.ensures.value ∙ ap option_copied_mut w.in-Some.is))
          ∙ c.self.view_is
      | in-None w ↦
          ap (λ inside. map shown inside.orders.entries) w.self-inside-is
          ∙ ap (λ orders. map shown orders.entries) c.get_mut.follows.holds-at-none
          ∙ c.self.view_is
    ]
