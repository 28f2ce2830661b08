use Rattle.hub_writes.proofs.Pallets.{add_pallet, cells, adds_pallet}
use Rattle.hub_writes.proofs.Outcomes.{executed, insert_acts}
use Rattle.hub_writes.proofs.pallet.add_pallet.Goals as goal

pub returns-clause-acts : goal.returns-clause-acts
returns-clause-acts g c =
    let row = c.args.row.now in
    let did = executed g.S.Store add_pallet (cells row) _ _ _ c.execute.result c.execute.ensures.ended
    c.execute.ensures.runs c.execute.ensures.survives c.cells.ensures.cells in
    insert_acts g.S.Store _ _ _ _ c.execute.result did _ (adds_pallet row c.cells.ensures.low) c.insert_ended.result
    c.insert_ended.ensures
