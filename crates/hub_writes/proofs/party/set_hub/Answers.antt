use Rattle.hub_writes.proofs.HubRows.{set_hub, cells, sets_hub}
use Rattle.hub_writes.proofs.Outcomes.{executed, set_acts}
use Rattle.hub_writes.proofs.party.set_hub.Goals as goal

pub returns-clause-acts : goal.returns-clause-acts
returns-clause-acts g c =
    let row = c.args.row.now in
    let did = executed g.S.Store set_hub (cells row) _ _ _ c.execute.result c.execute.ensures.ended
    c.execute.ensures.runs c.execute.ensures.survives c.hub_cells.ensures in
    set_acts g.S.Store _ _ _ _ c.execute.result did _ (sets_hub row) c.update_ended.result c.update_ended.ensures
