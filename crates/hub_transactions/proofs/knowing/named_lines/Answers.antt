use Rattle.std.proofs.Common.{ap, ap₂, subst, ◌∙◌}
use Rattle.hub_tables.specs.State.{knows_order}
use Rattle.hub_tables.specs.Tables.{view}
use Rattle.hub_store.specs.Lines.{lines_at}
use Rattle.hub_order_lines.specs.Book.{Orders}
use Rattle.hub_order_lines.specs.KnownOrders.{AddsOrder}
use Rattle.std.specs.Option.{IfSome}
use Rattle.hub_naming.specs.Lines.{NamesByNumber}
use Rattle.hub_transactions.proofs.knowing.named_lines.Goals as goal

pub returns-then-branch-clause-named : goal.returns-then-branch-clause-named
returns-then-branch-clause-named g c = λ honest.
    let supplier = c.args.supplier.now in
    let state = view supplier (g.S.Store.content c.args.store.now) in
    let first = c.lines_at.ensures.looks.was_honest honest in
    let there = c.in_ok-is_there.ensures.looks.answers first in
    let rows = c.in_ok-rows.ensures.looks.answers honest in
    let order_is = c.as_slice-order.ensures in
    let response = c.args.response.now in
    let numbers = c.in-Some.numbers.keys in
    let old = c.new-orders.result in
    let new = c.put.new.self in
    let stays = c.order_known.ensures.looks.content_stays first in
    record {
      numbers = numbers;
      by_number = subst (λ o. IfSome o (λ numbers. NamesByNumber numbers.keys response.answer)) c.in-Some.is c.in_ok-numbers.ensures;
      known =
          subst (λ (orders : Orders). AddsOrder response.order (knows_order state response.order)
          (lines_at state response.order numbers) orders new) c.new-orders.ensures
          (subst (λ rows. AddsOrder response.order (knows_order state response.order) rows old new)
          (rows ∙ ap₂ (λ t o. lines_at (view supplier t) o numbers) stays order_is)
          (subst (λ v. AddsOrder response.order v c.in_ok-rows.rows old new) (there ∙ ap (knows_order state) order_is)
          (subst (λ o. AddsOrder o c.in_ok-is_there.is_there c.in_ok-rows.rows old new) order_is
          (c.in_ok-put.ensures.put c.if-branch.true))));
    }
