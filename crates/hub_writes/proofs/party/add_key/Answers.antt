use Rattle.hub_writes.proofs.KeyRows.{add_key, cells, adds_key}
use Rattle.hub_writes.proofs.Outcomes.{executed, insert_acts}
use Rattle.hub_writes.proofs.party.add_key.Goals as goal

pub returns-clause-acts : goal.returns-clause-acts
returns-clause-acts g c =
    let row = c.args.row.now in
    let did = executed g.S.Store add_key (cells row) _ _ _ c.execute.result c.execute.ensures.ended
    c.execute.ensures.runs c.execute.ensures.survives c.key_cells.ensures in
    insert_acts g.S.Store _ _ _ _ c.execute.result did _ (adds_key row) c.insert_ended.result c.insert_ended.ensures
