use Rattle.std.proofs.Common.{rules, ◌≡◌, inl, inr, true, Err, map, sym, subst, ap, ◌∙◌}
use Rattle.edi_base.specs.Seen.{is_among}
use Rattle.hub_tables.specs.State.{lines_of}
use Rattle.hub_tables.specs.Tables.{view}
use Rattle.hub_order_lines.specs.KnownLines.{AreUnclean}
use Rattle.hub_order_lines.specs.KnownOrders.{is_kept}
use Rattle.hub_naming.specs.Lines.{names_line}
use Rattle.hub_transactions.specs.Orders.{KeepsAsked}
use Rattle.hub_transactions.proofs.Failing.{fails_with}
use Rattle.hub_transactions.proofs.Named.{first_or_later, first_among, later_among}
use Rattle.hub_transactions.proofs.despatches.know_orders.Goals as goal

pub loop-number-preserved : goal.loop-number-preserved
loop-number-preserved g c =
    let supplier = c.args.supplier.now in
    let before = c.loop-number.invariant in
    let number = c.in-Some.number.now.now in
    record {
      stays = search rules;
      broken = search rules;
      known = λ honest old.
          let asks = names_line c.args.named.now.entries in
          let mid = c.in_ok-know_order.ensures.stays.was_honest honest in
          let same_content = before.stays.content_stays mid in
          let earlier = map (λ number. number.now) c.loop-number.apart in
          let apart = map (λ number. number.now) c.know_order.new.apart in
          subst (λ t. KeepsAsked asks c.know_order.new.orders apart (view supplier t)) same_content
          (c.in_ok-know_order.ensures.known honest
          (subst (λ t. KeepsAsked asks c.loop-number.orders earlier (view supplier t)) (sym same_content) (before.known mid old)));
      all = λ order among. elim (before.all order among) [
        | inl kept ↦ inl (c.in_ok-know_order.ensures.still order kept)
        | inr coming ↦ elim (first_or_later order number (map (λ number. number.now) c.next.new.self)
            (ap (λ ahead. is_among order (map (λ number. number.now) ahead)) (sym c.in-Some.ensures.steps) ∙ coming)) [
              | inl its ↦ inl (subst (λ n. is_kept c.know_order.new.orders n ≡ true) (sym its) c.in_ok-know_order.ensures.also)
              | inr later ↦ inr later
            ]
      ];
      named = λ order later. before.named order
          (ap (λ ahead. is_among order (map (λ number. number.now) ahead)) c.in-Some.ensures.steps
          ∙ later_among order number (map (λ number. number.now) c.next.new.self) later);
    }

pub returns-in_err-know_order-clause-fails : goal.returns-in_err-know_order-clause-fails
returns-in_err-know_order-clause-fails g c =
    let supplier = c.args.supplier.now in
    let before = c.loop-number.invariant in
    let number = c.in-Some.number.now.now in
    let fault = c.in_err-know_order.field-0.0 in
    let is : c.from_residual.result ≡ Err fault = search rules in
    fails_with _ _ _ _ _ _ _ _ fault c.from_residual.result before.broken is (λ cause honest. record {
      order = number;
      among = before.named number (ap (λ ahead. is_among number (map (λ number. number.now) ahead)) c.in-Some.ensures.steps
          ∙ first_among number (map (λ number. number.now) c.next.new.self));
      lines = subst (λ t. AreUnclean (lines_of (view supplier t) number))
          (before.stays.content_stays (c.in_err-know_order.ensures.stays.was_honest honest)) (cause honest);
    }) c.in_err-know_order.ensures.fails
