use Rattle.std.proofs.Common.{Option, Some, sym, subst, ap, ◌∙◌}
use Rattle.std.proofs.lemmas.Result.{IfOk-weaker}
use Rattle.hub_parties.specs.Rows.{supplier_row}
use Rattle.hub_parties.specs.declared.row.SupplierRow.{SupplierRow}
use Rattle.hub_rules.specs.Judging.{Judge}
use Rattle.hub_rules.specs.PartyRules.{is_other_buyer}
use Rattle.hub_rules.specs.Rules.{judge_order}
use Rattle.hub_rules.specs.declared.code.Code.TheVariants as codes
use Rattle.hub_rules.specs.Sound.{Kept}
use Rattle.hub_rules.specs.declared.verdict.Verdict.{Verdict}
use Rattle.hub_tables.specs.Tables.{view}
use Rattle.hub_acts.specs.HubLaw.Messages.{named, body_of}
use Rattle.hub_acts.specs.HubLaw.Told.{read_act}
use Rattle.edi_orders.specs.declared.order.Order.{Order}
use Rattle.edi_orders.proofs.Read.{order_apart}
use Rattle.hub_acts.specs.Acts.{NoCause}
use Rattle.hub_transactions.specs.Judged.{CannotBeRead, JudgedFits}
use Rattle.hub_transactions.specs.JudgesClean.{JudgedClean}
use Rattle.hub_transactions.specs.declared.judged.Judged.TheVariants.{Read}
use Rattle.edi_orders.specs.Order.{order_of}
use Rattle.edi_documents.specs.declared.document.Document.TheVariants as documents
use Rattle.hub_acts.proofs.HubClean.Submitted.{of_retailer}
use Rattle.hub_acts.proofs.HubClean.Verdicts.{order_clean}
use Rattle.hub_transactions.proofs.Fitted.{named_fits, refused_fits}
use Rattle.hub_acts.proofs.HubClean.Names.{order_names}
use Rattle.hub_transactions.proofs.Failing.{fails_as}
use Rattle.hub_transactions.proofs.Reading.{act_decided}
use Rattle.hub_transactions.proofs.judged.decide_order.Goals as goal

pub returns-in-Ok-clause-judged : goal.returns-in-Ok-clause-judged
returns-in-Ok-clause-judged g c = record {
  told = λ honest kept.
      let suppliers = c.args.register.now.suppliers in
      let message = c.args.message.now in
      let t = g.S.Store.content c.args.store.now in
      let order = c.in-Ok.order in
      let is = order_names message order c.in-Ok.ensures.ok in
      let judge : Order → Verdict =
      λ order.
      judge_order c.args.register.now.retailer (supplier_row suppliers (named message)) c.args.incoming (body_of message)
      order (view (named message) t) in
      IfOk-weaker c.decide_read_order.result _ _
      (λ judged decided. ap (λ read. read_act read judge t) c.in-Ok.ensures.ok
      ∙ act_decided judge order judged t (decided
      ∙ (λ i. Read (judge_order c.args.register.now.retailer (supplier_row suppliers (sym is i)) c.args.incoming (body_of message)
      order (view (sym is i) t)))))
      (c.decide_read_order.ensures.judged honest (subst (λ gln. Kept (view gln t)) is kept));
  fit = λ honest hub rise.
      let suppliers = c.args.register.now.suppliers in
      let message = c.args.message.now in
      let t = g.S.Store.content c.args.store.now in
      let order = c.in-Ok.order in
      let judge : Option SupplierRow → Judge =
      λ supplier. judge_order c.args.register.now.retailer supplier c.args.incoming (body_of message) order in
      IfOk-weaker c.decide_read_order.result _ _
      (λ judged decided. subst (λ judged. JudgedFits judged t) (sym decided)
      (named_fits suppliers order.supplier t judge hub
      (refused_fits (is_other_buyer c.args.register.now.retailer (Some order.buyer)) codes.Buyer codes.Supplier t)
      (λ s here changes accepted. c.accepted_changes_fit.ensures suppliers s t
      (of_retailer c.args.register.now.retailer c.args.incoming (body_of message) (documents.Order order)) changes here rise
      (order_apart message order c.in-Ok.ensures.ok) accepted)))
      (c.decide_read_order.ensures.judged honest (hub.sound.kept order.supplier));
}

pub returns-in-Ok-clause-fails : goal.returns-in-Ok-clause-fails
returns-in-Ok-clause-fails g c =
    fails_as g.S.Store.plain NoCause NoCause (CannotBeRead (order_of c.args.message.now)) (g.S.Store.broken c.args.store.now)
    (g.S.Store.broken c.decide_read_order.new.store) c.decide_read_order.result (λ none. none) c.decide_read_order.ensures.fails

pub returns-in-Ok-clause-clean : goal.returns-in-Ok-clause-clean
returns-in-Ok-clause-clean g c = λ here within. record {
  never = c.decide_read_order.ensures.unclean;
  leaves = λ honest clean.
      let t = g.S.Store.content c.args.store.now in
      let order = c.in-Ok.order in
      IfOk-weaker c.decide_read_order.result _ _
      (λ judged decided. subst (λ judged. JudgedClean judged t) (sym decided)
      (order_clean c.args.register.now c.decide_read_order.ensures.register t clean
      c.args.message.now c.args.incoming within order c.in-Ok.ensures.ok here))
      (c.decide_read_order.ensures.judged honest (here.sound.kept order.supplier));
}
