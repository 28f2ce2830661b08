use Rattle.std.proofs.Common.{false, inl, Some, sym, subst, ap, ◌∙◌}
use Rattle.std.proofs.lemmas.Result.{IfOk-weaker}
use Rattle.edi_orders.specs.Response.{response_of}
use Rattle.edi_orders.specs.declared.response.Response.{Response}
use Rattle.edi_documents.specs.declared.document.Document.TheVariants as documents
use Rattle.hub_rules.specs.Rules.{judge_response}
use Rattle.hub_rules.specs.declared.verdict.Verdict.{Verdict}
use Rattle.hub_tables.specs.State.{lines_of}
use Rattle.hub_tables.specs.Tables.{view}
use Rattle.hub_order_lines.specs.KnownLines.{AreUnclean}
use Rattle.hub_acts.specs.HubLaw.Told.{read_act}
use Rattle.hub_transactions.specs.Judged.{CannotBeRead, JudgedFits}
use Rattle.hub_transactions.specs.JudgesClean.{JudgedClean}
use Rattle.hub_transactions.specs.Named.{MessageUnclean}
use Rattle.hub_acts.proofs.HubClean.Submitted.{of_supplier}
use Rattle.hub_acts.proofs.HubClean.Verdicts.{response_clean}
use Rattle.hub_transactions.proofs.Failing.{fails_as}
use Rattle.hub_transactions.proofs.Fitted.{verdict_fits}
use Rattle.hub_transactions.proofs.Reading.{act_decided}
use Rattle.hub_transactions.proofs.judged.decide_response.Goals as goal

pub returns-in-Ok-clause-judged : goal.returns-in-Ok-clause-judged
returns-in-Ok-clause-judged g c = λ old. record {
  told = λ honest kept.
      let s = c.args.supplier.now in
      let t = g.S.Store.content c.args.store.now in
      let response = c.in-Ok.response in
      let judge : Response → Verdict =
      λ response. judge_response c.args.register.now.retailer (Some s) c.args.incoming response (view s.gln t) in
      IfOk-weaker c.decide_read_response.result _ _
      (λ judged decided. ap (λ read. read_act read judge t) c.in-Ok.ensures.ok ∙ act_decided judge response judged t decided)
      (c.decide_read_response.ensures.judged honest kept old);
  fit = λ honest here rise.
      let s = c.args.supplier.now in
      let t = g.S.Store.content c.args.store.now in
      let response = c.in-Ok.response in
      IfOk-weaker c.decide_read_response.result _ _
      (λ judged decided. subst (λ judged. JudgedFits judged t) (sym decided) (verdict_fits _ t (λ changes accepted.
      c.accepted_changes_fit.ensures c.args.register.now.suppliers s t
      (of_supplier c.args.register.now.retailer (λ sscc. false) c.args.incoming (documents.Response response)) changes here rise
      tt accepted)))
      (c.decide_read_response.ensures.judged honest (here.sound.kept s.gln) old);
}

pub returns-in-Ok-clause-fails : goal.returns-in-Ok-clause-fails
returns-in-Ok-clause-fails g c =
    let s = c.args.supplier.now in
    let t = g.S.Store.content c.args.store.now in
    let response = c.in-Ok.response in
    fails_as g.S.Store.plain (g.S.Store.honest c.decide_read_response.new.store → AreUnclean (lines_of (view s.gln t) response.order))
    (g.S.Store.honest c.decide_read_response.new.store → MessageUnclean c.args.message.now (view s.gln t))
    (CannotBeRead (response_of c.args.message.now)) (g.S.Store.broken c.args.store.now)
    (g.S.Store.broken c.decide_read_response.new.store) c.decide_read_response.result
    (λ cause honest. inl (record { response = response; read = c.in-Ok.ensures.ok; lines = cause honest }))
    c.decide_read_response.ensures.fails

pub returns-in-Ok-clause-clean : goal.returns-in-Ok-clause-clean
returns-in-Ok-clause-clean g c = λ old here within.
    let suppliers = c.args.register.now.suppliers in
    let s = c.args.supplier.now in
    let t = g.S.Store.content c.args.store.now in
    let response = c.in-Ok.response in
    record {
      never = λ honest none clean is. c.lines_of_sound_tables_are_known.ensures.order suppliers s.gln response.order t here.sound
          (c.decide_read_response.ensures.unclean honest none clean is);
      leaves = λ honest clean.
          IfOk-weaker c.decide_read_response.result _ _
          (λ judged decided. subst (λ judged. JudgedClean judged t) (sym decided)
          (response_clean c.args.register.now c.decide_read_response.ensures.register t clean
          c.args.message.now c.args.incoming within s here response))
          (c.decide_read_response.ensures.judged honest (here.sound.kept s.gln) old);
    }
