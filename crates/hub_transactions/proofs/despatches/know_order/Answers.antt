use Rattle.std.proofs.Common.{◌≡◌, false, Some, None, map, inl, inr, sym, ap, subst, ◌∙◌}
use Rattle.std.proofs.lemmas.Bool.{true≢false}
use Rattle.hub_tables.specs.State.{knows_order, lines_of}
use Rattle.hub_tables.specs.Tables.{view}
use Rattle.hub_tables.proofs.Lists.{decide}
use Rattle.hub_order_lines.specs.Book.{Orders}
use Rattle.hub_order_lines.specs.KnownOrders.{is_kept, AddsOrder}
use Rattle.hub_naming.specs.Lines.{names_line}
use Rattle.hub_transactions.specs.Orders.{KeepsAsked}
use Rattle.hub_transactions.proofs.Apart.{put_part, put_whole, numbers_append}
use Rattle.hub_naming.proofs.Numbers.{on_ok}
use Rattle.hub_transactions.proofs.despatches.know_order.Goals as goal
use Rattle.hub_transactions.proofs.despatches.know_order.Goals.{in-Some+in_ok-put_by_number+else-branch, in_default}

pub returns-then-branch-clause-known : goal.returns-then-branch-clause-known
returns-then-branch-clause-known g c = λ honest before.
    let state = view c.args.supplier.now (g.S.Store.content c.args.store.now) in
    let asks = names_line c.args.named.now.entries in
    let order = c.args.order.now in
    let new = c.put_by_number.new.orders in
    let unkept = sym c.is_kept.ensures ∙ c.if-is_kept.false in
    let not_all : asks order None ≡ false =
    elim (decide (asks order None)) [ inl asked ↦ absurd (true≢false (sym (c.in-Some.ensures None asked))) | inr differ ↦ differ ] in
    subst (λ apart. KeepsAsked asks new apart state)
    (sym (ap (map (λ number. number.now)) c.in_ok-put_apart.ensures ∙ numbers_append c.args.apart.now c.args.order))
    (put_part asks state (map (λ number. number.now) c.args.apart.now) c.args.orders.now order unkept before c.in-Some.numbers.now.keys new
    not_all (λ number asked. c.in-Some.ensures (Some number) asked) (c.in_ok-put_by_number.ensures.put honest c.if-branch.true))

pub returns-clause-known : goal.returns-clause-known
returns-clause-known g c = λ honest before.
    let supplier = c.args.supplier.now in
    let state = view supplier (g.S.Store.content c.args.store.now) in
    let asks = names_line c.args.named.now.entries in
    let order = c.args.order.now in
    let new = c.keep_order.new.orders in
    let mid = c.keep_order.ensures.stays.was_honest honest in
    let unkept = sym c.is_kept.ensures ∙ c.if-is_kept.false in
    let same : c.match-numbers_alone.orders ≡ c.args.orders.now =
    elim c.match-numbers_alone.branch [
      | in-Some+in_ok-put_by_number+else-branch w ↦ w.orders-is ∙ w.in_ok-put_by_number.ensures.same w.if-branch.false
      | in_default w ↦ w.orders-is
    ] in
    let stays : g.S.Store.content c.match-numbers_alone.store ≡ g.S.Store.content c.args.store.now =
    elim c.match-numbers_alone.branch [
      | in-Some+in_ok-put_by_number+else-branch w ↦
          ap g.S.Store.content w.store-is ∙ w.in_ok-put_by_number.ensures.stays.content_stays (subst g.S.Store.honest w.store-is mid)
      | in_default w ↦ ap g.S.Store.content w.store-is
    ] in
    on_ok c.keep_order.result (λ added.
    put_whole asks state (map (λ number. number.now) c.args.apart.now) c.args.orders.now order unkept before new
    (subst (λ (orders : Orders). AddsOrder order (knows_order state order) (lines_of state order) orders new) same
    (subst (λ t. AddsOrder order (knows_order (view supplier t) order) (lines_of
    (view supplier t) order) c.match-numbers_alone.orders new) stays
    (added (ap (λ (orders : Orders). is_kept orders order) same ∙ unkept))))) (c.keep_order.ensures.added honest)
