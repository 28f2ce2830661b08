use Rattle.std.proofs.Common.{◌<◌, ◌^◌, arith, refl}
use Rattle.hub_writes.proofs.Memories.{remember, cells, remembers}
use Rattle.hub_writes.proofs.Outcomes.{executed, insert_acts}
use Rattle.hub_writes.proofs.remembered.remember.Goals as goal

pub returns-clause-acts : goal.returns-clause-acts
returns-clause-acts g c =
    let row = c.args.row.now in
    let did = executed g.S.Store remember (cells row) _ _ _ c.execute.result c.execute.ensures.ended
    c.execute.ensures.runs c.execute.ensures.survives (rw (
      c.gln_value-supplier.ensures,
      c.side_value-side.ensures.value,
      c.text_value-control.ensures,
      c.text_value-message.ensures,
      c.text_value-content.ensures,
    ) refl) in
    let low_side : c.args.row.now.side < 2 ^ 64 = omega (arith, c.side_value-side.ensures.low) in
    insert_acts g.S.Store _ _ _ _ c.execute.result did _ (remembers row low_side) c.insert_ended.result c.insert_ended.ensures
