use Rattle.std.proofs.Common.{Some, option_copied}
use Rattle.hub_tables.specs.Change.{apply_all}
use Rattle.hub_tables.specs.State.{remembered_of}
use Rattle.hub_tables.specs.declared.cases.Side.TheVariants as sides
use Rattle.hub_rules.specs.ResponseRules.{judge_new_response}
use Rattle.hub_judges.specs.FromFacts.{response_from}
use Rattle.hub_judges.proofs.Answering.{response_alike}
use Rattle.hub_judges.proofs.Messages.{first_of, judged_message}
use Rattle.hub_judges.proofs.response.response_supplier.Goals as goal

pub returns-clause-ok : goal.returns-clause-ok
returns-clause-ok c = λ incoming state told.
    let response = c.args.response.now in
    let s = c.in-Ok.row.now in
    let answered = told.answered c.in_default.ensures.new in
    let judged = response_alike c.args.known.now response (apply_all (first_of s sides.Supplier incoming) state)
    (record { order = answered.order; lines = answered.lines; despatched = answered.despatched }) in
    judged_message c.args.retailer.now (option_copied c.args.supplier) sides.Supplier incoming
    (Some response.buyer) response.supplier (λ s. judge_new_response response) s state
    (response_from response c.args.known.now) c.in-Ok.ensures.ok (λ fresh.
    c.in_default.ensures.none (remembered_of state sides.Supplier incoming.control incoming.message) incoming.content fresh
    told.remembered) judged
