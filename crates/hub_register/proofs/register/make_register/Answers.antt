use Rattle.std.proofs.Common.{◌∙◌, ap, sym, subst}
use Rattle.gs1_ids.proofs.Decided.{Decides-is_key}
use Rattle.hub_parties.specs.Rows.{IsRegister, rows_by}
use Rattle.hub_register.proofs.Kept.{kept_right, kept_stand}
use Rattle.hub_register.proofs.register.make_register.Goals as goal

pub register_of_parties-requires-clause-right : goal.register_of_parties-requires-clause-right
register_of_parties-requires-clause-right c =
    let hub = c.args.hub in
    let retailer = c.args.retailer in
    let stand = c.in_ok-suppliers.ensures.rows ∙ kept_stand hub retailer c.args.retailer_key c.args.suppliers.items c.requires in
    subst (λ rows. IsRegister (rows_by hub retailer c.args.retailer_key rows)) (sym stand)
    (kept_right hub retailer c.args.retailer_key c.args.suppliers.items c.requires
    ((Decides-is_key 13 hub).1 c.digits-hub.ensures.valid) ((Decides-is_key 13 retailer).1 c.digits-retailer.ensures.valid)
    c.bytes-key.ensures.valid c.in_ok-suppliers.ensures.valid)

pub returns-clause-value : goal.returns-clause-value
returns-clause-value c =
    c.register_of_parties.ensures.value
    ∙ ap (rows_by c.args.hub c.args.retailer c.args.retailer_key)
    (c.in_ok-suppliers.ensures.rows ∙ kept_stand c.args.hub c.args.retailer c.args.retailer_key c.args.suppliers.items c.requires)
