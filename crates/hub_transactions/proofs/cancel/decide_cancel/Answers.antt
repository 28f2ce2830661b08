use Rattle.std.proofs.Common.{subst, ◌∙◌}
use Rattle.hub_tables.specs.Tables.{view}
use Rattle.hub_judges.specs.Known.{TellsForCancel}
use Rattle.hub_rules.specs.Rules.{judge_cancel}
use Rattle.hub_transactions.proofs.cancel.decide_cancel.Goals as goal

pub returns-clause-verdict : goal.returns-clause-verdict
returns-clause-verdict g c = λ honest.
    let cancel = c.args.cancel.now in
    let state = view cancel.supplier (g.S.Store.content c.args.store.now) in
    let supplier = c.supplier-supplier.ensures.value in
    let content = c.in_ok-content.ensures in
    c.in_ok-verdict.ensures state (subst (λ content. TellsForCancel c.in_ok-known.known content cancel state) c.as_slice.ensures
    (c.in_ok-known.ensures.told honest))
    ∙ (λ i. judge_cancel (supplier i) (content i) cancel state)
