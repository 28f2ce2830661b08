use Rattle.std.proofs.Common.{option_copied}
use Rattle.hub_tables.specs.Change.{apply_all}
use Rattle.hub_tables.specs.State.{remembered_of}
use Rattle.hub_tables.specs.declared.cases.Side.TheVariants as sides
use Rattle.hub_rules.specs.DespatchRules.{judge_new_despatch}
use Rattle.hub_judges.specs.FromFacts.{despatch_from}
use Rattle.hub_judges.proofs.Despatched.{despatch_alike}
use Rattle.hub_judges.proofs.Messages.{first_of, judged_message}
use Rattle.hub_judges.proofs.despatch.despatch_supplier.Goals as goal

pub returns-clause-ok : goal.returns-clause-ok
returns-clause-ok c = λ used incoming state told.
    let despatch = c.args.despatch.now in
    let known = c.args.known.now in
    let s = c.in-Ok.row.now in
    let units = told.units c.in_default.ensures.new c.if-known.false in
    let judged = despatch_alike s used known despatch (apply_all (first_of s sides.Supplier incoming) state) told.number
    told.used_there (record { used_told = units.used_told; orders = units.orders; lines = units.lines }) in
    judged_message c.args.retailer.now (option_copied c.args.supplier) sides.Supplier incoming despatch.buyer
    despatch.supplier (λ s. judge_new_despatch s used despatch) s state
    (despatch_from s despatch known) c.in-Ok.ensures.ok (λ fresh.
    c.in_default.ensures.none (remembered_of state sides.Supplier incoming.control incoming.message) incoming.content fresh
    told.remembered) judged
