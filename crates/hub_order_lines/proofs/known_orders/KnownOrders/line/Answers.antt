use Rattle.std.proofs.Common.{◌≡◌, [], None, sym, ap, subst, ◌∙◌, option_copied}
use Rattle.std.specs.Option.{option_map}
use Rattle.hub_parties.specs.KeyOrder.{Rises}
use Rattle.hub_order_lines.specs.Book.{facts_cmp, facts_among, lines_in}
use Rattle.hub_order_lines.specs.KnownOrders.{AreKnownOnce}
use Rattle.hub_order_lines.proofs.Entries.{lines_are}
use Rattle.hub_order_lines.proofs.Once.{once, known_rise, none_among}
use Rattle.hub_order_lines.proofs.known_orders.KnownOrders.line.Goals as goal

no_lines : (c : goal.After-from_residual) → lines_in c.args.self.now c.args.order.now ≡ []
no_lines c =
    ap (λ orders. lines_in orders c.args.order.now) (sym c.self.view_is)
    ∙ lines_are c.args.order.now c.self.inside.orders.entries None
    (sym c.get.ensures.value ∙ ap option_copied c.in_err-known.was)

pub returns-in_err-known-clause-line : goal.returns-in_err-known-clause-line
returns-in_err-known-clause-line c =
    ap (λ o. option_map (λ line. line.now) o) c.from_residual.ensures
    ∙ sym (ap (λ lines. facts_among lines c.args.number c.args.gtin.now) (no_lines c) ∙ none_among c.args.number c.args.gtin.now)

pub returns-in_err-known-clause-rise : goal.returns-in_err-known-clause-rise
returns-in_err-known-clause-rise c = subst (Rises facts_cmp) (sym (no_lines c)) tt

pub returns-in_err-known-clause-once : goal.returns-in_err-known-clause-once
returns-in_err-known-clause-once c =
    subst AreKnownOnce c.self.view_is (once c.self.inside.orders c.self.invariant)

pub returns-clause-line : goal.returns-clause-line
returns-clause-line c =
    c.line.ensures.line
    ∙ sym (ap (λ orders. facts_among (lines_in orders c.args.order.now) c.args.number c.args.gtin.now) (sym c.self.view_is)
    ∙ ap (λ lines. facts_among lines c.args.number c.args.gtin.now)
    (lines_are c.args.order.now c.self.inside.orders.entries _ (sym c.get.ensures.value ∙ ap option_copied c.in_ok-known.was)))

pub returns-clause-rise : goal.returns-clause-rise
returns-clause-rise c =
    subst (λ orders. Rises facts_cmp (lines_in orders c.args.order.now)) c.self.view_is
    (known_rise c.args.order.now c.self.inside.orders.entries _ (sym c.get.ensures.value ∙ ap option_copied c.in_ok-known.was)
    c.line.ensures.rise)

pub returns-clause-once : goal.returns-clause-once
returns-clause-once c =
    subst AreKnownOnce c.self.view_is (once c.self.inside.orders c.self.invariant)
