use Rattle.hub_writes.proofs.Pallets.{set_pallet, cells, sets_pallet}
use Rattle.hub_writes.proofs.Outcomes.{executed, set_acts}
use Rattle.hub_writes.proofs.pallet.set_pallet.Goals as goal

pub returns-clause-acts : goal.returns-clause-acts
returns-clause-acts g c =
    let row = c.args.row.now in
    let did = executed g.S.Store set_pallet (cells row) _ _ _ c.execute.result c.execute.ensures.ended
    c.execute.ensures.runs c.execute.ensures.survives c.cells.ensures.cells in
    set_acts g.S.Store _ _ _ _ c.execute.result did _ (sets_pallet row c.cells.ensures.low) c.update_ended.result
    c.update_ended.ensures
