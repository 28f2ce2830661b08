use Rattle.std.proofs.Common.{ap, subst, ◌∙◌}
use Rattle.hub_tables.specs.State.{knows_order, lines_of}
use Rattle.hub_tables.specs.Tables.{view}
use Rattle.hub_order_lines.specs.KnownOrders.{AddsOrder}
use Rattle.hub_naming.proofs.Numbers.{on_ok}
use Rattle.hub_transactions.proofs.LookUps.{keeps_one_more}
use Rattle.hub_transactions.proofs.knowing.keep_order.Goals as goal

pub returns-clause-kept : goal.returns-clause-kept
returns-clause-kept g c = λ honest before.
    let supplier = c.args.supplier.now in
    let state = view supplier (g.S.Store.content c.args.store.now) in
    let order = c.args.order.now in
    let first = c.lines_of.ensures.looks.was_honest honest in
    let stays = ap (λ t. lines_of (view supplier t) order) (c.order_known.ensures.looks.content_stays first) in
    let there = c.in_ok-is_there.ensures.looks.answers first in
    let found = c.in_ok-rows.ensures.looks.answers honest in
    on_ok c.put_order.result (λ put. keeps_one_more state order c.in_ok-is_there.is_there c.in_ok-rows.rows c.args.orders.now
    c.put_order.new.orders put there (found ∙ stays) before) c.put_order.ensures.put

pub returns-clause-added : goal.returns-clause-added
returns-clause-added g c = λ honest.
    let supplier = c.args.supplier.now in
    let state = view supplier (g.S.Store.content c.args.store.now) in
    let order = c.args.order.now in
    let old = c.args.orders.now in
    let new = c.put_order.new.orders in
    let first = c.lines_of.ensures.looks.was_honest honest in
    let stays = ap (λ t. lines_of (view supplier t) order) (c.order_known.ensures.looks.content_stays first) in
    let there = c.in_ok-is_there.ensures.looks.answers first in
    let found = c.in_ok-rows.ensures.looks.answers honest in
    on_ok c.put_order.result (λ put unkept.
    subst (λ rows. AddsOrder order (knows_order state order) rows old new) (found ∙ stays)
    (subst (λ v. AddsOrder order v c.in_ok-rows.rows old new) there put)) c.put_order.ensures.put
