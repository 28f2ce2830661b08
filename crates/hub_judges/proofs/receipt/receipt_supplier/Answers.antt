use Rattle.std.proofs.Common.{sym, ◌∙◌}
use Rattle.hub_tables.specs.Change.{apply}
use Rattle.hub_tables.specs.State.{remembered_of}
use Rattle.hub_tables.specs.declared.cases.Side.TheVariants as sides
use Rattle.hub_tables.specs.declared.change.Change.{Change}
use Rattle.hub_tables.specs.declared.change.Change.TheVariants.{Remember}
use Rattle.hub_rules.specs.ReceiptRules.{judge_new_receipt}
use Rattle.hub_rules.specs.RepeatRules.{remembered, judge_once}
use Rattle.hub_rules.specs.Rules.{referred_by}
use Rattle.hub_rules.specs.Judging.{joined}
use Rattle.hub_rules.specs.declared.verdict.Verdict.{Verdict}
use Rattle.hub_judges.proofs.Received.{new_receipt_alike}
use Rattle.hub_judges.proofs.receipt.receipt_supplier.Goals as goal
use Rattle.std.proofs.Common.{[], ◌∷◌}

pub returns-clause-ok : goal.returns-clause-ok
returns-clause-ok c = λ incoming body state told.
    let receipt = c.args.receipt.now in
    let known = c.args.known.now in
    let s = c.in-Ok.row.now in
    let memory : Change = Remember (remembered (referred_by s sides.Retailer incoming) incoming.content) in
    let row = remembered_of state sides.Retailer incoming.control incoming.message in
    let fresh : Verdict = joined (memory ∷ []) (judge_new_receipt s.gln incoming body receipt (apply memory state)) in
    c.in-Ok.ensures.ok (λ s.
    judge_once (referred_by s sides.Retailer incoming) incoming.content (judge_new_receipt s.gln incoming body receipt)
    state)
    ∙ c.in_default.ensures.none row incoming.content fresh told.remembered
    ∙ new_receipt_alike memory s.gln incoming body receipt (apply memory state) known.mails known.pallets
    (sym c.is_full.ensures.value ∙ c.if-is_full.false) (told.mails c.in_default.ensures.new)
    (told.pallets c.in_default.ensures.new)
