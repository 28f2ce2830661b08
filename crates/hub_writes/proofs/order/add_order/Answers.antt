use Rattle.std.proofs.Common.{refl}
use Rattle.hub_writes.proofs.Orders.{add_order, cells, adds_order}
use Rattle.hub_writes.proofs.Outcomes.{executed, insert_acts}
use Rattle.hub_writes.proofs.order.add_order.Goals as goal

pub returns-clause-acts : goal.returns-clause-acts
returns-clause-acts g c =
    let row = c.args.row.now in
    let did = executed g.S.Store add_order (cells row) _ _ _ c.execute.result c.execute.ensures.ended
    c.execute.ensures.runs c.execute.ensures.survives (rw (c.gln_value-supplier.ensures, c.text_value-number.ensures) refl) in
    insert_acts g.S.Store _ _ _ _ c.execute.result did _ (adds_order row) c.insert_ended.result c.insert_ended.ensures
