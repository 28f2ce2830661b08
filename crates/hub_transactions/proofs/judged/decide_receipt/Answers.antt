use Rattle.std.proofs.Common.{Option, sym, subst, ap, ◌∙◌}
use Rattle.std.proofs.lemmas.Result.{IfOk-weaker}
use Rattle.hub_parties.specs.Rows.{supplier_row}
use Rattle.hub_parties.specs.declared.row.SupplierRow.{SupplierRow}
use Rattle.hub_rules.specs.Judging.{Judge}
use Rattle.hub_rules.specs.PartyRules.{is_other_buyer}
use Rattle.hub_rules.specs.Rules.{judge_receipt}
use Rattle.hub_rules.specs.declared.code.Code.TheVariants as codes
use Rattle.hub_rules.specs.Sound.{Kept}
use Rattle.hub_rules.specs.declared.verdict.Verdict.{Verdict}
use Rattle.hub_tables.specs.Tables.{view}
use Rattle.hub_acts.specs.HubLaw.Messages.{named, body_of}
use Rattle.hub_acts.specs.HubLaw.Told.{read_act}
use Rattle.edi_goods.specs.declared.receipt.Receipt.{Receipt}
use Rattle.hub_acts.specs.Acts.{NoCause}
use Rattle.hub_transactions.specs.Judged.{CannotBeRead, JudgedFits}
use Rattle.hub_transactions.specs.JudgesClean.{JudgedClean}
use Rattle.hub_transactions.specs.declared.judged.Judged.TheVariants.{Read}
use Rattle.edi_goods.specs.Receipt.{receipt_of}
use Rattle.edi_documents.specs.declared.document.Document.TheVariants as documents
use Rattle.hub_acts.proofs.HubClean.Submitted.{of_retailer}
use Rattle.hub_acts.proofs.HubClean.Verdicts.{receipt_clean}
use Rattle.hub_transactions.proofs.Fitted.{named_fits, refused_fits}
use Rattle.hub_acts.proofs.HubClean.Names.{receipt_names}
use Rattle.hub_transactions.proofs.Failing.{fails_as}
use Rattle.hub_transactions.proofs.Reading.{act_decided}
use Rattle.hub_transactions.proofs.judged.decide_receipt.Goals as goal

pub returns-in-Ok-clause-judged : goal.returns-in-Ok-clause-judged
returns-in-Ok-clause-judged g c = record {
  told = λ honest kept.
      let suppliers = c.args.register.now.suppliers in
      let message = c.args.message.now in
      let t = g.S.Store.content c.args.store.now in
      let receipt = c.in-Ok.receipt in
      let is = receipt_names message receipt c.in-Ok.ensures.ok in
      let judge : Receipt → Verdict =
      λ receipt.
      judge_receipt c.args.register.now.retailer (supplier_row suppliers (named message)) c.args.incoming (body_of message)
      receipt (view (named message) t) in
      IfOk-weaker c.decide_read_receipt.result _ _
      (λ judged decided. ap (λ read. read_act read judge t) c.in-Ok.ensures.ok
      ∙ act_decided judge receipt judged t (decided
      ∙ (λ i. Read (judge_receipt c.args.register.now.retailer (supplier_row suppliers (sym is i)) c.args.incoming (body_of message)
      receipt (view (sym is i) t)))))
      (c.decide_read_receipt.ensures.judged honest (subst (λ gln. Kept (view gln t)) is kept));
  fit = λ honest hub rise.
      let suppliers = c.args.register.now.suppliers in
      let message = c.args.message.now in
      let t = g.S.Store.content c.args.store.now in
      let receipt = c.in-Ok.receipt in
      let judge : Option SupplierRow → Judge =
      λ supplier. judge_receipt c.args.register.now.retailer supplier c.args.incoming (body_of message) receipt in
      IfOk-weaker c.decide_read_receipt.result _ _
      (λ judged decided. subst (λ judged. JudgedFits judged t) (sym decided)
      (named_fits suppliers receipt.supplier t judge hub
      (refused_fits (is_other_buyer c.args.register.now.retailer receipt.buyer) codes.Buyer codes.Supplier t)
      (λ s here changes accepted. c.accepted_changes_fit.ensures suppliers s t
      (of_retailer c.args.register.now.retailer c.args.incoming (body_of message) (documents.Receipt receipt)) changes here rise
      tt accepted)))
      (c.decide_read_receipt.ensures.judged honest (hub.sound.kept receipt.supplier));
}

pub returns-in-Ok-clause-fails : goal.returns-in-Ok-clause-fails
returns-in-Ok-clause-fails g c =
    fails_as g.S.Store.plain NoCause NoCause (CannotBeRead (receipt_of c.args.message.now)) (g.S.Store.broken c.args.store.now)
    (g.S.Store.broken c.decide_read_receipt.new.store) c.decide_read_receipt.result (λ none. none) c.decide_read_receipt.ensures.fails

pub returns-in-Ok-clause-clean : goal.returns-in-Ok-clause-clean
returns-in-Ok-clause-clean g c = λ here within. record {
  never = c.decide_read_receipt.ensures.unclean;
  leaves = λ honest clean.
      let t = g.S.Store.content c.args.store.now in
      let receipt = c.in-Ok.receipt in
      IfOk-weaker c.decide_read_receipt.result _ _
      (λ judged decided. subst (λ judged. JudgedClean judged t) (sym decided)
      (receipt_clean c.args.register.now c.decide_read_receipt.ensures.register t clean
      c.args.message.now c.args.incoming within receipt c.in-Ok.ensures.ok here))
      (c.decide_read_receipt.ensures.judged honest (here.sound.kept receipt.supplier));
}
