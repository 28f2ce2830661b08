use Rattle.std.proofs.Common.{refl}
use Rattle.hub_writes.proofs.Outcomes.{executed, delete_acts}
use Rattle.hub_writes.proofs.Receipts.{clear_receipts, cleared_cells, clear_makes}
use Rattle.hub_writes.proofs.receipt.clear_receipts.Goals as goal

pub returns-clause-acts : goal.returns-clause-acts
returns-clause-acts g c =
    let did = executed g.S.Store clear_receipts (cleared_cells c.args.sscc.now) _ _ _ c.execute.result c.execute.ensures.ended
    c.execute.ensures.runs c.execute.ensures.survives (rw c.sscc_value-sscc.ensures refl) in
    delete_acts g.S.Store _ _ _ _ c.execute.result did _ (λ t. refl) (clear_makes c.args.sscc.now _ _ c.execute.result)
    c.statement_ended.result c.statement_ended.ensures
