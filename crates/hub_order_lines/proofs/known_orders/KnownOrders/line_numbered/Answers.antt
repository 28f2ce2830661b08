use Rattle.std.proofs.Common.{Some, ◌≡◌, [], None, sym, ap, ◌∙◌, option_copied}
use Rattle.std.specs.Option.{option_map}
use Rattle.hub_order_lines.specs.Book.{facts_among, lines_in}
use Rattle.hub_order_lines.proofs.Entries.{lines_are}
use Rattle.hub_order_lines.proofs.Once.{none_among}
use Rattle.hub_order_lines.proofs.known_orders.KnownOrders.line_numbered.Goals as goal

no_lines : (c : goal.After-from_residual) → lines_in c.args.self.now c.args.order.now ≡ []
no_lines c =
    ap (λ orders. lines_in orders c.args.order.now) (sym c.self.view_is)
    ∙ lines_are c.args.order.now c.self.inside.orders.entries None
    (sym c.get.ensures.value ∙ ap option_copied c.in_err-known.was)

pub returns-in_err-known-clause-line : goal.returns-in_err-known-clause-line
returns-in_err-known-clause-line c =
    ap (λ o. option_map (λ line. line.now) o) c.from_residual.ensures
    ∙ sym (ap (λ lines. facts_among lines (Some c.args.number) []) (no_lines c) ∙ none_among (Some c.args.number) [])

pub returns-clause-line : goal.returns-clause-line
returns-clause-line c =
    c.line_numbered.ensures.line
    ∙ sym (ap (λ orders. facts_among (lines_in orders c.args.order.now) (Some c.args.number) []) (sym c.self.view_is)
    ∙ ap (λ lines. facts_among lines (Some c.args.number) [])
    (lines_are c.args.order.now c.self.inside.orders.entries _ (sym c.get.ensures.value ∙ ap option_copied c.in_ok-known.was)))
