use Rattle.std.proofs.Common.{inr, Some, sym, subst, ap, ◌∙◌}
use Rattle.std.proofs.lemmas.Result.{IfOk-weaker}
use Rattle.edi_goods.specs.Despatch.{despatch_of}
use Rattle.edi_goods.specs.declared.despatch.Despatch.{Despatch}
use Rattle.edi_documents.specs.declared.document.Document.TheVariants as documents
use Rattle.hub_rules.specs.Rules.{judge_despatch}
use Rattle.hub_rules.specs.declared.verdict.Verdict.{Verdict}
use Rattle.hub_tables.specs.Tables.{has_pallet, view}
use Rattle.hub_acts.specs.HubLaw.Told.{read_act}
use Rattle.hub_transactions.specs.Judged.{CannotBeRead, JudgedFits}
use Rattle.hub_transactions.specs.JudgesClean.{JudgedClean}
use Rattle.hub_transactions.specs.Named.{MessageUnclean, NamedUnclean}
use Rattle.hub_acts.proofs.HubClean.Submitted.{of_supplier}
use Rattle.hub_acts.proofs.HubClean.Verdicts.{despatch_clean}
use Rattle.hub_transactions.proofs.Failing.{fails_as}
use Rattle.hub_transactions.proofs.Fitted.{verdict_fits}
use Rattle.hub_transactions.proofs.Reading.{act_decided}
use Rattle.hub_transactions.proofs.judged.decide_despatch.Goals as goal

pub returns-in-Ok-clause-judged : goal.returns-in-Ok-clause-judged
returns-in-Ok-clause-judged g c = λ old. record {
  told = λ honest kept.
      let s = c.args.supplier.now in
      let t = g.S.Store.content c.args.store.now in
      let despatch = c.in-Ok.despatch in
      let judge : Despatch → Verdict =
      λ despatch. judge_despatch c.args.register.now.retailer (Some s) (has_pallet t) c.args.incoming despatch (view s.gln t) in
      IfOk-weaker c.decide_read_despatch.result _ _
      (λ judged decided. ap (λ read. read_act read judge t) c.in-Ok.ensures.ok ∙ act_decided judge despatch judged t decided)
      (c.decide_read_despatch.ensures.judged honest old);
  fit = λ honest here rise.
      let s = c.args.supplier.now in
      let t = g.S.Store.content c.args.store.now in
      let despatch = c.in-Ok.despatch in
      IfOk-weaker c.decide_read_despatch.result _ _
      (λ judged decided. subst (λ judged. JudgedFits judged t) (sym decided) (verdict_fits _ t (λ changes accepted.
      c.accepted_changes_fit.ensures c.args.register.now.suppliers s t
      (of_supplier c.args.register.now.retailer (has_pallet t) c.args.incoming (documents.Despatch despatch)) changes here rise
      tt accepted)))
      (c.decide_read_despatch.ensures.judged honest old);
}

pub returns-in-Ok-clause-fails : goal.returns-in-Ok-clause-fails
returns-in-Ok-clause-fails g c =
    let s = c.args.supplier.now in
    let t = g.S.Store.content c.args.store.now in
    let despatch = c.in-Ok.despatch in
    fails_as g.S.Store.plain (g.S.Store.honest c.decide_read_despatch.new.store → NamedUnclean despatch.units (view s.gln t))
    (g.S.Store.honest c.decide_read_despatch.new.store → MessageUnclean c.args.message.now (view s.gln t))
    (CannotBeRead (despatch_of c.args.message.now)) (g.S.Store.broken c.args.store.now)
    (g.S.Store.broken c.decide_read_despatch.new.store) c.decide_read_despatch.result
    (λ cause honest. inr (record { despatch = despatch; read = c.in-Ok.ensures.ok; lines = cause honest }))
    c.decide_read_despatch.ensures.fails

pub returns-in-Ok-clause-clean : goal.returns-in-Ok-clause-clean
returns-in-Ok-clause-clean g c = λ old here within.
    let suppliers = c.args.register.now.suppliers in
    let s = c.args.supplier.now in
    let t = g.S.Store.content c.args.store.now in
    let despatch = c.in-Ok.despatch in
    record {
      never = λ honest none clean is. c.lines_of_sound_tables_are_known.ensures.named suppliers s.gln t despatch.units here.sound
          (c.decide_read_despatch.ensures.unclean honest none clean is);
      leaves = λ honest clean.
          IfOk-weaker c.decide_read_despatch.result _ _
          (λ judged decided. subst (λ judged. JudgedClean judged t) (sym decided)
          (despatch_clean c.args.register.now c.decide_read_despatch.ensures.register t clean
          c.args.message.now c.args.incoming within s here despatch c.in-Ok.ensures.ok))
          (c.decide_read_despatch.ensures.judged honest old);
    }
