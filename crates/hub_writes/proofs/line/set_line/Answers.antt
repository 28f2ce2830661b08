use Rattle.hub_writes.proofs.Lines.{set_line, cells, sets_line}
use Rattle.hub_writes.proofs.Outcomes.{executed, set_acts}
use Rattle.hub_writes.proofs.line.set_line.Goals as goal

pub returns-clause-acts : goal.returns-clause-acts
returns-clause-acts g c =
    let row = c.args.row.now in
    let did = executed g.S.Store set_line (cells row) _ _ _ c.execute.result c.execute.ensures.ended
    c.execute.ensures.runs c.execute.ensures.survives c.cells.ensures.cells in
    set_acts g.S.Store _ _ _ _ c.execute.result did _ (sets_line row c.cells.ensures.low) c.update_ended.result
    c.update_ended.ensures
