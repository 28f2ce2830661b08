use Rattle.std.proofs.Common.{◌<◌, ◌^◌, arith, refl}
use Rattle.hub_writes.proofs.Receipts.{add_receipt, cells, adds_receipt}
use Rattle.hub_writes.proofs.Outcomes.{executed, insert_acts}
use Rattle.hub_writes.proofs.receipt.add_receipt.Goals as goal

pub returns-clause-acts : goal.returns-clause-acts
returns-clause-acts g c =
    let row = c.args.row.now in
    let did = executed g.S.Store add_receipt (cells row) _ _ _ c.execute.result c.execute.ensures.ended
    c.execute.ensures.runs c.execute.ensures.survives (rw (
      c.sscc_value-sscc.ensures,
      c.gtin_value-gtin.ensures,
      c.count_value-accepted.ensures,
      c.count_value-returned.ensures,
      c.count_value-destroyed.ensures,
    ) refl) in
    let low_accepted : c.args.row.now.accepted < 2 ^ 64 = omega arith in
    let low_returned : c.args.row.now.returned < 2 ^ 64 = omega arith in
    let low_destroyed : c.args.row.now.destroyed < 2 ^ 64 = omega arith in
    insert_acts g.S.Store _ _ _ _ c.execute.result did _ (adds_receipt row (low_accepted, low_returned, low_destroyed))
    c.insert_ended.result c.insert_ended.ensures
