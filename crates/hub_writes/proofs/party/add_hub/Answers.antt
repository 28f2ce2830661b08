use Rattle.hub_writes.proofs.HubRows.{add_hub, cells, adds_hub}
use Rattle.hub_writes.proofs.Outcomes.{executed, insert_acts}
use Rattle.hub_writes.proofs.party.add_hub.Goals as goal

pub returns-clause-acts : goal.returns-clause-acts
returns-clause-acts g c =
    let row = c.args.row.now in
    let did = executed g.S.Store add_hub (cells row) _ _ _ c.execute.result c.execute.ensures.ended
    c.execute.ensures.runs c.execute.ensures.survives c.hub_cells.ensures in
    insert_acts g.S.Store _ _ _ _ c.execute.result did _ (adds_hub row) c.insert_ended.result c.insert_ended.ensures
