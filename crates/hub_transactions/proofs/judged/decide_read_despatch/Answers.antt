use Rattle.std.proofs.Common.{◌≡◌, Some, sym, subst, ap, ◌∙◌}
use Rattle.std.proofs.lemmas.Result.{IfOk-weaker}
use Rattle.hub_rules.specs.RepeatRules.{judge_once}
use Rattle.hub_rules.specs.DespatchRules.{judge_new_despatch}
use Rattle.hub_rules.specs.Rules.{judge_despatch, referred_by}
use Rattle.hub_rules.specs.declared.verdict.Verdict.TheVariants.{Refuse}
use Rattle.hub_tables.specs.declared.cases.Side.TheVariants.{Supplier}
use Rattle.hub_tables.specs.Tables.{view, has_pallet}
use Rattle.hub_order_lines.specs.Book.{Orders}
use Rattle.hub_transactions.specs.Orders.{KeepsOrders}
use Rattle.hub_transactions.specs.declared.judged.Judged.TheVariants.{Read}
use Rattle.hub_transactions.proofs.judged.decide_read_despatch.Goals as goal

pub returns-clause-judged : goal.returns-clause-judged
returns-clause-judged g c = λ honest old.
    let s = c.args.supplier.now in
    let t = g.S.Store.content c.args.store.now in
    let despatch = c.args.despatch.now in
    let told = c.in_ok-known.ensures.told honest
    (subst (λ (orders : Orders). KeepsOrders orders (view s.gln t)) (sym c.replace-kept.ensures.value) old) in
    ap (λ verdict. Read verdict) (c.in_ok-verdict.ensures (has_pallet t) told.seen told.told
    ∙ told.alike c.retailer-retailer.result.now (Some s)
    ∙ ap (λ gln. judge_despatch gln (Some s) (has_pallet t) c.args.incoming despatch (view s.gln t)) c.retailer-retailer.ensures.value)

pub returns-in-Some-clause-judged : goal.returns-in-Some-clause-judged
returns-in-Some-clause-judged g c = λ honest old.
    let s = c.args.supplier.now in
    let t = g.S.Store.content c.args.store.now in
    let despatch = c.args.despatch.now in
    let refusal : judge_despatch c.args.register.now.retailer (Some s) (has_pallet t) c.args.incoming despatch (view s.gln t) ≡ Refuse c.in-Some.code =
    ap (λ gln. judge_despatch gln (Some s) (has_pallet t) c.args.incoming despatch (view s.gln t)) (sym c.retailer-retailer.ensures.value)
    ∙ c.in-Some.ensures.some
    (λ row. judge_once (referred_by row Supplier c.args.incoming) c.args.incoming.content (judge_new_despatch row (has_pallet t) despatch) (view s.gln t)) in
    IfOk-weaker c.refuse.result (λ judged. judged ≡ Read (Refuse c.in-Some.code)) _
    (λ judged is. is ∙ ap (λ verdict. Read verdict) (sym refusal)) c.refuse.ensures.refused
