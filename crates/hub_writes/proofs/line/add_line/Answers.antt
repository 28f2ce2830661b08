use Rattle.hub_writes.proofs.Lines.{add_line, cells, adds_line}
use Rattle.hub_writes.proofs.Outcomes.{executed, insert_acts}
use Rattle.hub_writes.proofs.line.add_line.Goals as goal

pub returns-clause-acts : goal.returns-clause-acts
returns-clause-acts g c =
    let row = c.args.row.now in
    let did = executed g.S.Store add_line (cells row) _ _ _ c.execute.result c.execute.ensures.ended
    c.execute.ensures.runs c.execute.ensures.survives c.cells.ensures.cells in
    insert_acts g.S.Store _ _ _ _ c.execute.result did _ (adds_line row c.cells.ensures.low) c.insert_ended.result
    c.insert_ended.ensures
