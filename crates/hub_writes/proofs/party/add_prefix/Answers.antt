use Rattle.std.proofs.Common.{refl}
use Rattle.hub_writes.proofs.PrefixRows.{add_prefix, cells, adds_prefix}
use Rattle.hub_writes.proofs.Outcomes.{executed, insert_acts}
use Rattle.hub_writes.proofs.party.add_prefix.Goals as goal

pub returns-clause-acts : goal.returns-clause-acts
returns-clause-acts g c =
    let row = c.args.row.now in
    let did = executed g.S.Store add_prefix (cells row) _ _ _ c.execute.result c.execute.ensures.ended
    c.execute.ensures.runs c.execute.ensures.survives (rw (c.prefix_value-prefix.ensures, c.gln_value-supplier.ensures) refl) in
    insert_acts g.S.Store _ _ _ _ c.execute.result did _ (adds_prefix row) c.insert_ended.result c.insert_ended.ensures
