use Rattle.std.proofs.Common.{refl}
use Rattle.hub_writes.proofs.Advices.{add_advice, cells, adds_advice}
use Rattle.hub_writes.proofs.Outcomes.{executed, insert_acts}
use Rattle.hub_writes.proofs.advice.add_advice.Goals as goal

pub returns-clause-acts : goal.returns-clause-acts
returns-clause-acts g c =
    let row = c.args.row.now in
    let did = executed g.S.Store add_advice (cells row) _ _ _ c.execute.result c.execute.ensures.ended
    c.execute.ensures.runs c.execute.ensures.survives (rw (c.gln_value-supplier.ensures, c.text_value-number.ensures) refl) in
    insert_acts g.S.Store _ _ _ _ c.execute.result did _ (adds_advice row) c.insert_ended.result c.insert_ended.ensures
